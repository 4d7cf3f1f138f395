-- `begin`: for each n, line[n] becomes other[n] + cost, or the cap if that is not smaller.
use mathlib.Core.Path.{◌≡◌}
use Prim.Native.Nat.{◌+◌, ◌<◌, min}
use lib.ListN.{get_or}
use Rattle.best_rows.specs.Best.{cap}
use Rattle.lines.proofs.begin.Given as goal

abbrev pub invariant-loop-n : goal.invariant-loop-n
invariant-loop-n l = (j : _) → j < l.n → get_or l.line j 0 ≡ min cap (get_or l.other j 0 + l.cost.0)
