-- Document 01, "Greedy", with 02, item 9: the greedy rule of 004 section IV-A over open nodes, with 01's own stop.
use Rattle.std.specs.Prelude.{cond, not, List, [], ◌∷◌, ℕ, zero, suc, ltb}
use Rattle.laws.specs.Lists.{has, those}
use Rattle.model.specs.File.{Tree, Demand}
use Rattle.model.specs.Tree.{open_sites}
use Rattle.model.specs.Bill.{total}

-- the set K with the node v, in ascending order
unfoldable pub with_node : ℕ → List ℕ → List ℕ
with_node v [] = v ∷ []
with_node v (u ∷ us) = let r = with_node v us in cond (ltb v u) (v ∷ u ∷ us) (u ∷ r)

-- the set K with the nodes of a list
unfoldable pub with_nodes : List ℕ → List ℕ → List ℕ
with_nodes k [] = k
with_nodes k (v ∷ vs) = with_nodes (with_node v k) vs

-- the open nodes outside the set K, ascending
abbrev pub outside : Tree → List ℕ → List ℕ
outside t k = those (λ v. not (has k v)) (open_sites t)

-- what a step does
pub data Step : Type 0 where
  stops : Step
  takes : ℕ → Step

module _ (t : Tree) (d : Demand) where
  -- the total of K with v
  abbrev pub total_with : List ℕ → ℕ → ℕ
  total_with k v = total t d (with_node v k)

  -- "the node outside the set that gives the least total, the smallest number on a tie": of u and the nodes of an ascending
  -- list after it
  unfoldable pub least_node : List ℕ → ℕ → List ℕ → ℕ
  least_node k u [] = u
  least_node k u (v ∷ vs) = least_node k (cond (ltb (total_with k v) (total_with k u)) v u) vs

  -- "it stops when no node lowers the total", also where none is left
  unfoldable pub step_over : List ℕ → List ℕ → Step
  step_over k [] = stops
  step_over k (u ∷ us) = let v = least_node k u us in cond (ltb (total_with k v) (total t d k)) (takes v) stops

  -- the nodes taken from K on in at most b steps, in the order taken
  unfoldable pub taken_from : List ℕ → ℕ → List ℕ
  taken_from k zero = []
  taken_from k (suc b) = elim (step_over k (outside t k)) as (λ _. List ℕ) [ stops ↦ [] | takes v ↦ v ∷ taken_from (with_node v k) b ]

  -- from the empty set
  abbrev pub greedy_nodes : ℕ → List ℕ
  greedy_nodes b = taken_from [] b

  -- the set after b steps, or after the last step where it stopped sooner; and its total
  abbrev pub greedy_set : ℕ → List ℕ
  greedy_set b = with_nodes [] (greedy_nodes b)

  abbrev pub greedy_total : ℕ → ℕ
  greedy_total b = total t d (greedy_set b)
