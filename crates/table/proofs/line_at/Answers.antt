-- `line_at`: the index of the first entry of the line of node x with a serving node at depth a.
use mathlib.Core.Path.{sym}
use native.Mathlib.Omega.{arith}
use Rattle.table.proofs.Places.{line_none, line_noted}
use Rattle.table.proofs.line_at.Goals as goal

pub returns-then-x-eq0 : goal.returns-then-x-eq0
returns-then-x-eq0 c = sym (line_none _ _ (omega arith))

pub overflow_mul-result : goal.overflow_mul-result
overflow_mul-result c = omega (arith, line_noted c.args.places.now c.args.a (omega arith) c.first.ensures c.entries.ensures)

pub overflow_add-result : goal.overflow_add-result
overflow_add-result c = omega (arith, line_noted c.args.places.now c.args.a (omega arith) c.first.ensures c.entries.ensures)

pub returns : goal.returns
returns c = line_noted _ _ (omega arith) c.first.ensures c.entries.ensures
