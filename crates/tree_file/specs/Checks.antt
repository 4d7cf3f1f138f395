-- What the answers of the check mean in the model's words, and which records its steps may read.
use Rattle.std.specs.Prelude.{◌≡◌, List, ℕ, suc, ◌≤◌, ◌<◌, length, get_or, Result}
use Rattle.model.specs.File.{Tree, most_nodes, most_budget, most_depth, count_of, budget_of, record_at, tree_of}
use Rattle.model.specs.Tree.{depth, height}
use Rattle.model.specs.Rules.{passed, file_verdict}
use Rattle.model.specs.Calls.{Answer}
use Rattle.model.specs.Preorder.{PreorderTo}
use Rattle.fields.specs.Table.{InFile}
use Rattle.fields.specs.declared.Tree as code
use Rattle.tree_file.specs.declared.rules.Refusal.{Refusal}
use Rattle.tree_file.specs.Refusals.{answer_by}

-- n, k and h, or the refusal
abbrev pub answer_of : Result code.Tree Refusal → Answer code.Tree
answer_of = answer_by (λ sizes. sizes)

-- n, k and h of a file
abbrev pub sizes_of : List ℕ → code.Tree
sizes_of file = record { nodes = count_of file; budget = budget_of file; height = height (tree_of file) }

-- n, k and h of an accepted file
pub record AcceptedSizes (file : List ℕ) (sizes : code.Tree) : Type 0 where
  pub accepted : file_verdict file ≡ passed
  pub of_file : sizes ≡ sizes_of file

-- n is at least 1, and all three are within the limits of a tree file
pub record SizesHold (sizes : code.Tree) : Type 0 where
  pub some : 1 ≤ sizes.nodes
  pub nodes : sizes.nodes ≤ most_nodes
  pub budget : sizes.budget ≤ most_budget
  pub height : sizes.height ≤ most_depth

-- record i stands in the file, and rule 7 holds of the nodes before it
pub record NextRecord (file : List ℕ) (i : ℕ) : Type 0 where
  pub here : InFile file i
  pub preorder : PreorderTo (tree_of file) i

-- and of node v itself: the route of v can be climbed
pub record Climbable (file : List ℕ) (v : ℕ) : Type 0 where
  pub here : InFile file v
  pub preorder : PreorderTo (tree_of file) (suc v)

-- the depths of the nodes before v are kept, with an entry for every node of the largest tree
pub record DepthsTo (t : Tree) (depths : List ℕ) (v : ℕ) : Type 0 where
  pub room : most_nodes ≡ length depths
  pub entry : (u : ℕ) → u < v → get_or depths u 0 ≡ depth t u

-- the first n records stand in the file
pub record RecordsThere (file : List ℕ) (n : ℕ) : Type 0 where
  pub few : n ≤ most_nodes
  pub long : record_at file n ≤ length file
