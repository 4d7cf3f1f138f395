-- What holds of an accepted file: its header, each record, and the limits of its fields at every node number.
use Rattle.std.specs.Prelude.{◌≡◌, true, List, ℕ, ◌≤◌, length}
use Rattle.model.specs.File.{Tree, Demand, tree_of, demand_of, first_version, third_version, version_of, count_of, budget_of, record_at, most_nodes, most_budget, most_depth, most_length, most_flow}
use Rattle.model.specs.Tree.{depth}
use Rattle.model.specs.Rules.{passed, parent_holds, length_holds, ask_share, records_verdict}
use Rattle.model.specs.Bill.{whole, cachable}
use Rattle.model.specs.Preorder.{Preorder}

-- what rules 3 to 6 say of the header, and that no record breaks a rule
pub record HeaderHolds (s : List ℕ) : Type 0 where
  pub first : first_version ≤ version_of s
  pub newest : version_of s ≤ third_version
  pub some : 1 ≤ count_of s
  pub few : count_of s ≤ most_nodes
  pub budget : budget_of s ≤ most_budget
  pub exact : length s ≡ record_at s (count_of s)
  pub records : records_verdict s (count_of s) ≡ passed

-- what rules 7 to 11 and 17 say of record i
pub record RecordHolds (s : List ℕ) (i : ℕ) : Type 0 where
  pub parent : parent_holds (tree_of s) i ≡ true
  pub shallow : depth (tree_of s) i ≤ most_depth
  pub link_length : length_holds (tree_of s) i ≡ true
  pub flow : (demand_of s).flow i ≤ most_flow
  pub share : ask_share i ((demand_of s).flow i) ((demand_of s).share i) ≡ passed

-- what the laws ask of a tree and its demand, at every node number: an accepted file's are sound
pub record Sound (t : Tree) (d : Demand) : Type 0 where
  pub some : 1 ≤ t.count
  pub few : t.count ≤ most_nodes
  pub preorder : Preorder t
  pub server : t.link_length 0 ≡ 0
  pub shallow : (v : ℕ) → depth t v ≤ most_depth
  pub short : (v : ℕ) → t.link_length v ≤ most_length
  pub flow : (v : ℕ) → d.flow v ≤ most_flow
  -- no more is cachable than is asked for
  pub part : (v : ℕ) → cachable d v ≤ whole d v
