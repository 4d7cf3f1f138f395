-- `own_line`: stores the first entries of a node's line.
use mathlib.Core.Path.{◌≡◌}
use Prim.Native.Nat.{◌<◌}
use lib.ListN.{get_or}
use Rattle.lines.specs.Line.{line_own}
use Rattle.lines.proofs.NodeLines.own_line.Given as goal

abbrev pub invariant-loop-n : goal.invariant-loop-n
invariant-loop-n l = (j : _) → j < l.n → get_or l.line j 0 ≡ line_own l.self.cached.now l.self.uncached.now l.self.member.0 l.self.other.0 j
