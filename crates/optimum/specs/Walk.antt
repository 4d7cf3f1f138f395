-- What the walk that reads the caches back from the table needs and leaves: rows with their serving node, and the caches at or
-- below a node.
use Rattle.std.specs.Prelude.{◌≡◌, Bool, cond, List, ◌++◌, ◌⊎◌, ℕ, ◌+◌, ◌-◌, ◌≤◌, ◌<◌, length}
use Rattle.std.proofs.lemmas.List.Edits.{sets}
use Rattle.model.specs.File.{Tree, Demand, tree_of, demand_of, budget_of}
use Rattle.model.specs.Tree.{depth}
use Rattle.best_rows.specs.Rows.{if_member, row_size}
use Rattle.best_rows.specs.Best.{cap}
use Rattle.best_rows.specs.TreeRows.{first_child, row_at}
use Rattle.best_rows.specs.BestAt.{one, best_at, best_nodes, node_best_at, takes_node}
use Rattle.node_words.specs.Ancestors.{ancestor_at}
use Rattle.places.specs.declared.Place.{Place}
use Rattle.table.specs.Table.{FullTable}

-- the row that begins with x, if there is one, has the serving node `serving` above it
pub record RowServed (t : Tree) (x serving : ℕ) : Type 0 where
  pub node : x < t.count
  pub above : serving < t.count
  pub way : (x ≡ 0) ⊎ ((depth t serving < depth t x) × (ancestor_at t x (depth t serving) ≡ serving))

module _ (t : Tree) (d : Demand) (allows : ℕ → Bool → Bool) where
  -- the n caches at or below x, ascending
  unfoldable pub nodes_from : ℕ → ℕ → ℕ → List ℕ
  nodes_from x serving n =
      let u = takes_node t d allows x serving n in
      if_member u x ++ best_nodes t d allows (first_child t x) (cond u x serving) (n - one x u)

module _ (file : List ℕ) (allows : ℕ → Bool → Bool) (x serving : ℕ) where
  -- m caches fit in the row that begins with x
  pub record RowHas (m : ℕ) : Type 0 where
    pub served : RowServed (tree_of file) x serving
    pub within : m ≤ budget_of file
    pub attained : best_at (tree_of file) (demand_of file) allows x serving m < cap

  -- n caches fit at or below node x
  pub record NodeHas (n : ℕ) : Type 0 where
    pub site : 0 < x
    pub served : RowServed (tree_of file) x serving
    pub within : n ≤ budget_of file
    pub attained : node_best_at (tree_of file) (demand_of file) allows x serving n < cap

-- ---- what the walk needs: the table, a number of caches that fits, and room for them in the rows of the answer

pub record RowToSplit (file : List ℕ) (allows : ℕ → Bool → Bool) (places : List Place) (s : List ℕ) (x serving m : ℕ) : Type 0 where
  pub table : FullTable file allows places s
  pub site : 0 < x
  pub row : RowHas file allows x serving m

pub record RowToWalk (file : List ℕ) (allows : ℕ → Bool → Bool) (places : List Place) (s : List ℕ) (x serving m at : ℕ) (rows : List ℕ) : Type 0 where
  pub table : FullTable file allows places s
  pub row : RowHas file allows x serving m
  pub room : at + m ≤ length rows

pub record NodeToWalk (file : List ℕ) (allows : ℕ → Bool → Bool) (places : List Place) (s : List ℕ) (x serving n : ℕ) (member : Bool) (at : ℕ) (rows : List ℕ) : Type 0 where
  pub table : FullTable file allows places s
  pub node : NodeHas file allows x serving n
  pub own : member ≡ takes_node (tree_of file) (demand_of file) allows x serving n
  pub room : at + n ≤ length rows

-- a walk that began at node `first` with `count` caches to write from `start` on is at node x, with m still to write from `at` on
pub record Walked (file : List ℕ) (allows : ℕ → Bool → Bool) (places : List Place) (s : List ℕ) (serving first count start : ℕ) (old : List ℕ) (x m at : ℕ) (new : List ℕ) : Type 0 where
  pub here : RowToWalk file allows places s x serving m at new
  pub left : at + m ≡ start + count
  pub smaller : row_size (row_at (tree_of file) x) ≤ row_size (row_at (tree_of file) first)
  pub long : length new ≡ length old
  pub stores : sets new at (best_nodes (tree_of file) (demand_of file) allows x serving m)
      ≡ sets old start (best_nodes (tree_of file) (demand_of file) allows first serving count)
