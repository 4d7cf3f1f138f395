-- Where a row with m caches has a least cost below the cap: the split that has it, and from where on it is to be looked for.
use mathlib.Core.Path.{◌≡◌}
use mathlib.Core.List.{List}
use Prim.Native.Nat.{ℕ, ◌-◌, ◌≤◌, ◌<◌, min}
use native.Mathlib.Decide.{dec_lt}
use native.Mathlib.Omega.{arith}
use lib.ListN.{length}
use Rattle.best_rows.specs.Least.{first_least}
use Rattle.best_rows.proofs.Least.{first_least_within}
use Rattle.best_rows.specs.Best.{cap, split, row_best}
use Rattle.lines.specs.Line.{NodeParts, line_split, line_best}
use Rattle.lines.proofs.Node.{node_none}

module _ {cached uncached : List ℕ} (rest : List ℕ) {member other least : ℕ} (m : ℕ) (parts : NodeParts cached uncached member other)
    (is : (least ≡ line_best cached uncached rest member other m) × (least < cap)) where
  abbrev first : ℕ
  first = first_least (line_split cached uncached rest member other m) m

  pub later_within : first ≤ m
  later_within = first_least_within _ m

  pub least_is_split : least ≡ line_split cached uncached rest member other m first
  unfolding line_best row_best
  least_is_split = omega (arith, is)

  -- more caches than the children's line has entries are not at the first node
  pub later_from : m - min m (length cached) ≤ first
  unfolding split
  later_from =
      elim (dec_lt first (m - min m (length cached))) [
        | yes h ↦ absurd (omega (arith, is.1, least_is_split, node_none cached uncached member other (m - first) parts (omega arith)))
        | no h ↦ omega arith
      ]
