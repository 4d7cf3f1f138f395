-- `TreeFile::record_at`: where the record of node `v` begins.
use native.Mathlib.Omega.{arith}
use Rattle.model.proofs.Accepted.{records_bound}
use Rattle.fields.proofs.TreeFile.record_at.Goals as goal

pub overflow_mul-result : goal.overflow_mul-result
overflow_mul-result c = omega (arith, records_bound _ c.self.invariant.1 c.requires)

pub overflow_add-result : goal.overflow_add-result
overflow_add-result c = omega (arith, records_bound _ c.self.invariant.1 c.requires)
