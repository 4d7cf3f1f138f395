-- Document 01, "Order of ties", as 02, item 6 changes it, and the rank of a set: by total, then in the order of ties. With 02, item 9
-- it is the sets that have open nodes only: the visit has every node.
use Rattle.std.specs.Prelude.{Bool, true, false, ◌&&◌, ◌||◌, List, [], ◌∷◌, ℕ, ltb, eqb, length}
use Rattle.laws.specs.Lists.{has, how_many}
use Rattle.model.specs.File.{Tree, Demand}
use Rattle.model.specs.Tree.{sites, at_or_below}
use Rattle.model.specs.Bill.{total}

-- the smaller number comes first, and equal ones leave it to the rest
unfoldable pub smaller_first : ℕ → ℕ → Bool → Bool
smaller_first a b rest = ltb a b || (eqb a b && rest)

-- "the set that lacks the node itself now comes first", and if both or neither have it the rest decides
abbrev pub lacking_first : Bool → Bool → Bool → Bool
lacking_first true true rest = rest
lacking_first true false rest = false
lacking_first false true rest = true
lacking_first false false rest = rest

module _ (t : Tree) where
  -- how many members K has at or below v
  unfoldable pub members : List ℕ → ℕ → ℕ
  members k v = how_many (at_or_below t v) k

  -- does K come before L where these nodes are visited one after the other? More members at or below come first, then the set without
  -- the node itself.
  unfoldable pub visits : List ℕ → List ℕ → List ℕ → Bool
  visits k l [] = false
  visits k l (v ∷ vs) = smaller_first (members l v) (members k v) (lacking_first (has k v) (has l v) (visits k l vs))

  -- of sets with equal totals: fewest nodes, then the visit of nodes 1, 2, .., closed ones too
  unfoldable pub ties_before : List ℕ → List ℕ → Bool
  ties_before k l = smaller_first (length k) (length l) (visits k l (sites t))

  -- K ranks before L
  unfoldable pub ranks_before : Demand → List ℕ → List ℕ → Bool
  ranks_before d k l = smaller_first (total t d k) (total t d l) (ties_before k l)
