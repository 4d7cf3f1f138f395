-- Document 01, "Plan", with 02, item 9: for each budget, of all sets of at most so many open nodes, the one that ranks first.
use Rattle.std.specs.Prelude.{cond, List, [], ◌∷◌, ◌++◌, map, ℕ, zero, suc, ◌-◌, length, replicate}
use Rattle.model.specs.File.{Tree, Demand}
use Rattle.model.specs.Tree.{open_sites}
use Rattle.model.specs.Bill.{total}
use Rattle.model.specs.Ties.{ranks_before}

-- the sets of at most b of the nodes of a list
unfoldable pub sets_of : ℕ → List ℕ → List (List ℕ)
sets_of zero vs = [] ∷ []
sets_of (suc b) [] = [] ∷ []
sets_of (suc b) (v ∷ vs) = sets_of (suc b) vs ++ map (λ k. v ∷ k) (sets_of b vs)

-- all sets of at most b nodes: "The plan's sets, rivals .. range over open nodes only"
abbrev pub all_sets : Tree → ℕ → List (List ℕ)
all_sets t b = sets_of b (open_sites t)

module _ (t : Tree) (d : Demand) where
  -- of K and a list of sets, the one that ranks first
  unfoldable pub first_of : List ℕ → List (List ℕ) → List ℕ
  first_of k [] = k
  first_of k (l ∷ ls) = first_of (cond (ranks_before t d l k) l k) ls

  -- the plan at budget b: the optimum, and the first in the order of ties
  unfoldable pub plan : ℕ → List ℕ
  plan b = first_of [] (all_sets t b)

  abbrev pub plan_total : ℕ → ℕ
  plan_total b = total t d (plan b)

-- a row of k numbers: the nodes, then zeros
abbrev pub row : ℕ → List ℕ → List ℕ
row k vs = vs ++ replicate (k - length vs) 0
