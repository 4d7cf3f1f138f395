-- The first 4 × n words of the scratch: for each node its distance, its depth, its first child and its next sibling (0: none).
use Rattle.std.specs.Prelude.{◌≡◌, List, ℕ, ◌+◌, ◌*◌, ◌≤◌, ◌<◌, length, get_or}
use Rattle.laws.specs.Fronts.{FrontOnly}
use Rattle.model.specs.File.{Tree, count_of}
use Rattle.model.specs.Tree.{depth, distance}
use Rattle.model.specs.Rules.{passed, file_verdict}
use Rattle.best_rows.specs.TreeRows.{first_after, nodes_after, first_child, next_sibling}
use Rattle.node_words.specs.declared.Word.{Word}
use Rattle.node_words.specs.declared.Word.TheVariants.{Distance, Depth, Child, Sibling}

-- how many words the scratch holds of each node
abbrev pub node_words : ℕ
node_words = 4

-- where word f of node v stands
abbrev pub word_at : ℕ → ℕ → ℕ
word_at v f = node_words * v + f

-- which word of a node is which
abbrev pub distance_word : ℕ
distance_word = 0

abbrev pub depth_word : ℕ
depth_word = 1

abbrev pub child_word : ℕ
child_word = 2

abbrev pub sibling_word : ℕ
sibling_word = 3

abbrev pub word_number : Word → ℕ
word_number Distance = distance_word
word_number Depth = depth_word
word_number Child = child_word
word_number Sibling = sibling_word

-- word f of node v
abbrev pub word_of : List ℕ → ℕ → ℕ → ℕ
word_of words v f = get_or words (word_at v f) 0

-- the words have room for node v
abbrev pub HasNode : List ℕ → ℕ → Type 0
HasNode words v = node_words * v + node_words ≤ length words

-- an accepted file of n nodes, and words with room for each of them
pub record NodeRoom (file : List ℕ) (n : ℕ) (words : List ℕ) : Type 0 where
  pub accepted : file_verdict file ≡ passed
  pub count : n ≡ count_of file
  pub room : node_words * n ≤ length words

-- the same, and a node v other than the server
pub record SiteRoom (file : List ℕ) (n : ℕ) (words : List ℕ) (v : ℕ) : Type 0 where
  pub nodes : NodeRoom file n words
  pub site : 0 < v
  pub below : v < n

-- the words hold what the tree t says of its nodes. The server has no sibling.
pub record NodeWords (t : Tree) (words : List ℕ) : Type 0 where
  pub distance : (v : ℕ) → v < t.count → word_of words v distance_word ≡ distance t v
  pub depth : (v : ℕ) → v < t.count → word_of words v depth_word ≡ depth t v
  pub child : (v : ℕ) → v < t.count → word_of words v child_word ≡ first_child t v
  pub sibling : (v : ℕ) → 0 < v → v < t.count → word_of words v sibling_word ≡ next_sibling t v
  pub server : 0 < t.count → word_of words 0 sibling_word ≡ 0

-- ---- while the words are being stored

-- words f and f + 1 of each of the first n nodes v are a v and b v
pub record Noted (f : ℕ) (a b : ℕ → ℕ) (words : List ℕ) (n : ℕ) : Type 0 where
  pub first : (v : ℕ) → v < n → word_of words v f ≡ a v
  pub second : (v : ℕ) → v < n → word_of words v (f + 1) ≡ b v

-- the distance and the depth of each of the first n nodes are stored
abbrev pub Measured : Tree → List ℕ → ℕ → Type 0
Measured t = Noted distance_word (distance t) (depth t)

-- the first n nodes have no child and no sibling yet
abbrev pub Unlinked : List ℕ → ℕ → Type 0
Unlinked = Noted child_word (λ _. 0) (λ _. 0)

-- the nodes after node i are linked: the first child among them of each node, and the next sibling of each of them
pub record Linked (t : Tree) (words : List ℕ) (i : ℕ) : Type 0 where
  pub child : (p : ℕ) → p < t.count → word_of words p child_word ≡ first_after t (nodes_after t i) i p
  pub sibling : (v : ℕ) → i < v → v < t.count → word_of words v sibling_word ≡ next_sibling t v
  pub server : 0 < t.count → word_of words 0 sibling_word ≡ 0

-- of the words of n nodes only children and siblings have changed
pub record LinksOnly (n : ℕ) (old new : List ℕ) : Type 0 where
  pub front : FrontOnly (node_words * n) old new
  pub measures : (v f : ℕ) → f < child_word → word_of new v f ≡ word_of old v f
