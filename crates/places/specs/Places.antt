-- Where the plan's lines lie in the scratch: behind the four words of each node, node after node from 1 on. A node of depth d has d
-- lines, each with an entry for every number of caches from 0 to k that fits its row.
use Rattle.std.specs.Prelude.{◌≡◌, List, ℕ, ◌+◌, ◌*◌, ◌-◌, ◌≤◌, ◌<◌, ◌^◌, min, length, get_or}
use Rattle.laws.specs.Lists.{range, sum}
use Rattle.model.specs.File.{Tree, most_nodes, most_budget, count_of}
use Rattle.model.specs.Tree.{depth}
use Rattle.model.specs.Rules.{passed, file_verdict}
use Rattle.best_rows.specs.Rows.{row_size}
use Rattle.best_rows.specs.TreeRows.{row_after, nodes_after, row_at}
use Rattle.places.specs.declared.Place.{Place}

-- how many entries a line of the row that begins with x has: one for each number of caches from 0 to k that the row can have.
-- Node 0 stands for the empty row.
unfoldable pub width_at : Tree → ℕ → ℕ → ℕ
width_at t k x = min k (row_size (row_at t x)) + 1

-- how many words the lines of node x take: it has one for each depth of a serving node above it
abbrev pub words_at : Tree → ℕ → ℕ → ℕ
words_at t k x = depth t x * width_at t k x

-- where the lines of node x begin: behind the words of the nodes and the lines of the nodes before x
unfoldable pub start_at : Tree → ℕ → ℕ → ℕ
start_at t k x = 4 * t.count + sum (words_at t k) (range 1 (x - 1))

-- where the lines of node x begin and how many entries each has, as a list of places says
abbrev pub no_place : Place
no_place = record { start = 0; width = 0 }

abbrev pub start_in : List Place → ℕ → ℕ
start_in places x = (get_or places x no_place).start

abbrev pub width_in : List Place → ℕ → ℕ
width_in places x = (get_or places x no_place).width

-- the places of a tree's lines
pub record Places (t : Tree) (k : ℕ) (places : List Place) : Type 0 where
  pub long : t.count ≤ length places
  pub start : (x : ℕ) → 0 < x → x < t.count → start_in places x ≡ start_at t k x
  pub width : (x : ℕ) → x < t.count → width_in places x ≡ width_at t k x

-- ---- while they are worked out

-- an accepted file of n nodes, and a place for every node of the largest tree
pub record Entries (file : List ℕ) (n : ℕ) (places : List Place) : Type 0 where
  pub accepted : file_verdict file ≡ passed
  pub count : n ≡ count_of file
  pub room : most_nodes ≤ length places

-- the nodes after node i are counted: for each of them how many nodes the row has that begins with it, and for each node up to i how
-- many the row of its children after i has
pub record RowsCounted (t : Tree) (counts : ℕ → ℕ) (i : ℕ) : Type 0 where
  pub later : (v : ℕ) → i < v → v < t.count → counts v ≡ row_size (row_at t v)
  pub children : (p : ℕ) → p ≤ i → counts p ≡ row_size (row_after t (nodes_after t i) i p)

-- the first n entries are f 0, f 1, ..
abbrev pub EntriesAre : (ℕ → ℕ) → (ℕ → ℕ) → ℕ → Type 0
EntriesAre f entries n = (v : ℕ) → v < n → entries v ≡ f v

-- how many entries a line of a node has, and where its lines end if they begin at `start`. Until the node is placed, `start` of its
-- place is its depth, and `width` the number of nodes of its row.
abbrev pub width_from : ℕ → Place → ℕ
width_from k node = min k node.width + 1

abbrev pub end_from : ℕ → Place → ℕ → ℕ
end_from k node start = start + node.start * width_from k node

-- the node has its entries, and its lines from `start` on end at a number of 32 bits
pub record Placeable (k : ℕ) (node : Place) (start : ℕ) : Type 0 where
  pub narrow : k ≤ most_budget
  pub small : end_from k node start < 2 ^ 32

-- the nodes before v have their places; of the others the depths and the nodes of their rows are kept
pub record PlacedTo (t : Tree) (k : ℕ) (places : List Place) (v : ℕ) : Type 0 where
  pub start : (x : ℕ) → 0 < x → x < v → start_in places x ≡ start_at t k x
  pub width : (x : ℕ) → x < v → width_in places x ≡ width_at t k x
  pub deep : (x : ℕ) → v ≤ x → x < t.count → start_in places x ≡ depth t x
  pub nodes : (x : ℕ) → v ≤ x → x < t.count → width_in places x ≡ row_size (row_at t x)
