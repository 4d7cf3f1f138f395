-- Where the lines of the plan's table stand in the scratch, behind the words of the nodes, and what they hold.
use Rattle.std.specs.Prelude.{◌≡◌, Bool, true, false, cond, List, map, ℕ, zero, suc, ◌+◌, ◌*◌, ◌≤◌, ◌<◌, ◌^◌, length}
use Rattle.std.proofs.lemmas.List.Edits.{sets}
use Rattle.laws.specs.Lists.{range, part}
use Rattle.laws.specs.Fronts.{FrontOnly}
use Rattle.model.specs.File.{Tree, Demand, count_of, budget_of, tree_of, demand_of}
use Rattle.model.specs.Tree.{depth, distance}
use Rattle.model.specs.Rules.{passed, file_verdict, scratch_words}
use Rattle.model.specs.Bill.{price}
use Rattle.best_rows.specs.Best.{cap}
use Rattle.best_rows.specs.Guarded.{Wish, may_be_under}
use Rattle.best_rows.specs.BestAt.{best_at, pay_at}
use Rattle.node_words.specs.Words.{word_of, child_word, sibling_word, HasNode, NodeRoom, NodeWords}
use Rattle.node_words.specs.Ancestors.{ancestor_at}
use Rattle.places.specs.declared.Place.{Place}
use Rattle.places.specs.Places.{start_in, width_in, width_at, start_at, Places}

-- ---- the layout

-- the index of the first entry of the line of node x with a serving node at depth a, from the places noted. Node 0 stands for the
-- empty row: its line is word 0, the server's distance, which is 0.
unfoldable pub line_at : List Place → ℕ → ℕ → ℕ
line_at places zero a = 0
line_at places (suc x) a = start_in places (suc x) + a * width_in places (suc x)

-- the line that is stored there
unfoldable pub line_in : List Place → List ℕ → ℕ → ℕ → List ℕ
line_in places s x a = part s (line_at places x a) (width_in places x)

-- node x has places, and its line for depth a is in the scratch
pub record InTable (places : List Place) (s : List ℕ) (x a : ℕ) : Type 0 where
  pub noted : x < length places
  pub inside : line_at places x a + width_in places x ≤ length s

-- the same index, from the tree
unfoldable pub place_of : Tree → ℕ → ℕ → ℕ → ℕ
place_of t k zero a = 0
place_of t k (suc x) a = start_at t k (suc x) + a * width_at t k (suc x)

-- the server has its words, and the line of the row of its children, for the server as the serving node, is in the scratch
pub record ServerLineThere (places : List Place) (s : List ℕ) : Type 0 where
  pub node : HasNode s 0
  pub line : InTable places s (word_of s 0 child_word) 0

-- ---- what the lines hold

-- for each number of caches that the row can have the least cost of the row that begins with x, where x's ancestor at depth a is
-- the serving node and `allows` says what a node may be
unfoldable pub line_for : Tree → Demand → (ℕ → Bool → Bool) → ℕ → ℕ → ℕ → List ℕ
line_for t d allows k x a = map (best_at t d allows x (ancestor_at t x a)) (range 0 (width_at t k x))

-- the lines from index i on hold their least costs
unfoldable pub FilledFrom : Tree → Demand → (ℕ → Bool → Bool) → ℕ → List ℕ → ℕ → Type 0
FilledFrom t d allows k s i =
    (x a : ℕ) → 0 < x → x < t.count → a < depth t x → i ≤ place_of t k x a
    → part s (place_of t k x a) (width_at t k x) ≡ line_for t d allows k x a

-- ---- the scratch of an accepted file

-- the places of its lines are noted, and the scratch has room for the words and the lines
pub record TableRoom (file : List ℕ) (places : List Place) (s : List ℕ) : Type 0 where
  pub accepted : file_verdict file ≡ passed
  pub noted : Places (tree_of file) (budget_of file) places
  pub room : scratch_words file ≤ length s

-- and the words of the nodes are stored
pub record NodeWordsStored (file : List ℕ) (places : List Place) (s : List ℕ) : Type 0 where
  pub room : TableRoom file places s
  pub words : NodeWords (tree_of file) s

-- and the lines from index i on
pub record TableFrom (file : List ℕ) (allows : ℕ → Bool → Bool) (places : List Place) (s : List ℕ) (i : ℕ) : Type 0 where
  pub stored : NodeWordsStored file places s
  pub lines : FilledFrom (tree_of file) (demand_of file) allows (budget_of file) s i

-- all of them
abbrev pub FullTable : List ℕ → (ℕ → Bool → Bool) → List Place → List ℕ → Type 0
FullTable file allows places s = TableFrom file allows places s 0

-- the lines from index i on have been stored; what is behind the table and the length are as before
pub record LinesFilled (file : List ℕ) (allows : ℕ → Bool → Bool) (places : List Place) (i : ℕ) (old new : List ℕ) : Type 0 where
  pub table : TableFrom file allows places new i
  pub front : FrontOnly (scratch_words file) old new

-- ---- at a node

-- node v, with its ancestor u at depth a as the serving node above it
pub record Served (t : Tree) (v a u : ℕ) : Type 0 where
  pub site : 0 < v
  pub node : v < t.count
  pub above : a < depth t v
  pub ancestor : u ≡ ancestor_at t v a

-- what v pays as a cache: its price at itself, and the cap where it is closed
abbrev pub as_cache : Tree → Demand → ℕ → ℕ
as_cache t d v = cond (t.is_open v) (price t d v v) cap

-- node v and a node u that can serve it, v itself or one on its way up
pub record Client (file s : List ℕ) (v u : ℕ) : Type 0 where
  pub nodes : NodeRoom file (count_of file) s
  pub words : NodeWords (tree_of file) s
  pub node : v < count_of file
  pub serving : u < count_of file
  pub nearer : distance (tree_of file) u ≤ distance (tree_of file) v

-- ---- one line

-- what the line of node v with its ancestor u at depth a as the serving node is made from, under a wish: the table from the next line
-- on, and what v pays as a cache and as none
pub record LineToFill (file : List ℕ) (w : Wish) (places : List Place) (s : List ℕ) (v a u member other : ℕ) : Type 0 where
  pub table : TableFrom file (may_be_under (tree_of file) w) places s (place_of (tree_of file) (budget_of file) v (a + 1))
  pub served : Served (tree_of file) v a u
  pub pays_itself : member ≡ pay_at (tree_of file) (demand_of file) (may_be_under (tree_of file) w) v u true
  pub pays_above : other ≡ pay_at (tree_of file) (demand_of file) (may_be_under (tree_of file) w) v u false

-- v's first child and next sibling
abbrev pub ChildAndSibling : List ℕ → ℕ → ℕ → ℕ → Type 0
ChildAndSibling s v child sibling = (child ≡ word_of s v child_word) × (sibling ≡ word_of s v sibling_word)

-- node x has its place, and its line for depth a is word 0, or lies in the last n words of m + w + n
pub record Beside (places : List Place) (m w n x a : ℕ) : Type 0 where
  pub noted : x < length places
  pub first : x ≡ 0 → (0 < m) × (width_in places x ≡ 1)
  pub behind : 0 < x → (m + w ≤ line_at places x a) × (line_at places x a + width_in places x ≤ m + w + n)
  pub small : line_at places x a < 2 ^ 64

-- s with that line stored in its place
abbrev pub with_line : List ℕ → Wish → List ℕ → ℕ → ℕ → List ℕ
with_line file w s v a =
    let t = tree_of file in
    sets s (place_of t (budget_of file) v a) (line_for t (demand_of file) (may_be_under t w) (budget_of file) v a)
