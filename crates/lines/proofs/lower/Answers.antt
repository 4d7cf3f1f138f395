-- `lower`: for each n < end: line[r + n] becomes other[n] + cost if that is smaller.
use Prim.Native.Nat.{◌+◌}
use native.Mathlib.Omega.{arith}
use Rattle.best_rows.specs.Best.{cap}
use Rattle.lines.proofs.Entries.{stored_within}
use Rattle.lines.proofs.Row.{lower_begins, lower_here, lower_next}
use Rattle.lines.proofs.lower.Goals as goal

pub loop-n-init : goal.loop-n-init
loop-n-init c = lower_begins _ _ _ _

pub add-requires : goal.add-requires
unfolding cap
add-requires c = omega (arith, stored_within _ c.loop-n.n c.requires.line.1 (omega arith), c.requires.line.2)

pub lowered-requires : goal.lowered-requires
unfolding cap
lowered-requires c = (
  omega (arith, lower_here _ _ _ _ c.loop-n.n c.loop-n.invariant, stored_within _ (c.args.r + c.loop-n.n) c.requires.line.0 (omega arith)),
  omega (arith, stored_within _ c.loop-n.n c.requires.line.1 (omega arith), c.requires.line.2),
)

pub loop-n-preserved : goal.loop-n-preserved
loop-n-preserved c = lower_next _ _ _ _ c.loop-n.n c.loop-n.invariant (omega arith) (omega arith)
