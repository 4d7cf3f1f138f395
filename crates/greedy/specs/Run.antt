-- What a run of the greedy rule needs, and what it leaves.
use Rattle.std.specs.Prelude.{◌≡◌, List, map, ℕ, ◌+◌, ◌*◌, ◌-◌, ◌≤◌, length}
use Rattle.std.proofs.lemmas.List.Edits.{sets}
use Rattle.laws.specs.Lists.{range}
use Rattle.laws.specs.Fronts.{FrontOnly}
use Rattle.model.specs.File.{budget_of}
use Rattle.model.specs.Rules.{passed}
use Rattle.model.specs.Calls.{after, greedy_totals, greedy_row}
use Rattle.node_words.specs.Words.{node_words, NodeRoom}

-- an accepted file of n nodes and budget k, and room for all that is written
pub record GreedyRoom (file : List ℕ) (n k : ℕ) (words totals nodes : List ℕ) : Type 0 where
  pub room : NodeRoom file n words
  pub budget : k ≡ budget_of file
  pub totals_long : k + 1 ≤ length totals
  pub nodes_long : k ≤ length nodes

-- from step b on every total is `sum`, and no node is taken
pub record Filled (b k sum : ℕ) (totals nodes totals' nodes' : List ℕ) : Type 0 where
  pub totals_filled : totals' ≡ sets totals (b + 1) (map (λ _. sum) (range 0 (k - b)))
  pub nodes_filled : nodes' ≡ sets nodes b (map (λ _. 0) (range 0 (k - b)))

-- the greedy rule's totals and nodes stand in their buffers, and of the scratch only the words of the nodes were used
pub record GreedyWritten (file : List ℕ) (n : ℕ) (words totals nodes words' totals' nodes' : List ℕ) : Type 0 where
  pub front : FrontOnly (node_words * n) words words'
  pub totals_after : totals' ≡ after passed (greedy_totals file) totals
  pub nodes_after : nodes' ≡ after passed (greedy_row file) nodes
