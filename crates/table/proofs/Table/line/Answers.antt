-- `line`: the line of node x with a serving node at depth a.
use native.Mathlib.Nat.{add-sub_cancel_left}
use native.Mathlib.Omega.{arith}
use Rattle.table.specs.Table.{line_in}
use Rattle.table.proofs.Places.{place_asked}
use Rattle.table.proofs.Table.line.Goals as goal

pub line_at-start-requires : goal.line_at-start-requires
line_at-start-requires c = place_asked c.requires (omega arith)

pub returns : goal.returns
unfolding line_in
returns c = simp add-sub_cancel_left (rw (c.line_at-start.ensures, c.entries.ensures))
