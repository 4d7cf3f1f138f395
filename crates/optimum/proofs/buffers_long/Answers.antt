-- `buffers_long`: rule 14: k + 1 totals, and k + 1 rows of k numbers.
use native.Mathlib.Omega.{arith}
use Rattle.lent.proofs.Asked.{totals_short}
use Rattle.optimum.proofs.Answers.{rows_asked, rows_small}
use Rattle.optimum.proofs.buffers_long.Goals as goal

pub returns-then-totals-k : goal.returns-then-totals-k
returns-then-totals-k c = totals_short _ _ _ c.if-totals-k.true

pub overflow_mul-result : goal.overflow_mul-result
overflow_mul-result c = omega (arith, rows_small c.requires)

pub returns : goal.returns
returns c = rows_asked _ _ _ c.if-totals-k.false
