-- `begin`: for each n, line[n] becomes other[n] + cost, or the cap if that is not smaller.
use Prim.Native.Nat.{◌+◌, min}
use native.Mathlib.Omega.{arith}
use lib.ListN.{get_or}
use Rattle.laws.proofs.FrontValues.{entries_next}
use Rattle.best_rows.specs.Best.{cap}
use Rattle.lines.proofs.Entries.{stored_within}
use Rattle.lines.proofs.begin.Goals as goal

pub add-requires : goal.add-requires
unfolding cap
add-requires c = omega (arith, stored_within _ c.loop-n.n c.requires.line.0 (omega arith), c.requires.line.1)

pub lowered-requires : goal.lowered-requires
unfolding cap
lowered-requires c = omega (arith, stored_within _ c.loop-n.n c.requires.line.0 (omega arith), c.requires.line.1)

pub loop-n-preserved : goal.loop-n-preserved
unfolding cap
loop-n-preserved c =
    entries_next (λ n. min cap (get_or c.args.other.now n 0 + c.args.cost.0)) c.loop-n.line c.loop-n.n _ c.loop-n.invariant (omega arith) (omega arith)
