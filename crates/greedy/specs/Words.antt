-- What the scratch holds of each node while the greedy rule runs: its distance, the distance of its serving node, the cachable
-- flow that reaches it, and a mark, 1 where it is taken.
use Rattle.std.specs.Prelude.{◌≡◌, false, cond, List, [], Option, Some, None, ℕ, ◌*◌, ◌-◌, ◌≤◌, ◌<◌, ◌^◌, eqb, length}
use Rattle.laws.specs.Lists.{range, has, those}
use Rattle.laws.specs.Fronts.{FrontOnly}
use Rattle.laws.specs.FirstGreatest.{FirstGreatest}
use Rattle.model.specs.File.{Tree, tree_of, demand_of}
use Rattle.model.specs.Tree.{distance}
use Rattle.model.specs.Greedy.{with_node}
use Rattle.node_words.specs.Words.{node_words, distance_word, word_of, NodeRoom}
use Rattle.greedy.specs.Savings.{is_closed, serving_distance, reach, gathered}
use Rattle.greedy.specs.declared.Found.{Found}
use Rattle.greedy.specs.declared.Word.{Word}
use Rattle.greedy.specs.declared.Word.TheVariants.{ServingDistance, Reach, Mark}

abbrev pub serving_distance_word : ℕ
serving_distance_word = 1

abbrev pub reach_word : ℕ
reach_word = 2

abbrev pub mark_word : ℕ
mark_word = 3

abbrev pub word_number : Word → ℕ
word_number ServingDistance = serving_distance_word
word_number Reach = reach_word
word_number Mark = mark_word

-- the sites that are marked
unfoldable pub marked_sites : ℕ → List ℕ → List ℕ
marked_sites n words = those (λ v. eqb (word_of words v mark_word) 1) (range 1 (n - 1))

-- what a cache at v would save, by the words
abbrev pub saving_from : List ℕ → ℕ → ℕ
saving_from words v = word_of words v reach_word * (word_of words v distance_word - word_of words v serving_distance_word)

-- of the words of n nodes only word f has changed, and for each of the first v nodes u it is a u
pub record Wrote (n f : ℕ) (a : ℕ → ℕ) (v : ℕ) (old new : List ℕ) : Type 0 where
  pub front : FrontOnly (node_words * n) old new
  pub others : (u g : ℕ) → g < node_words → (g ≡ f → ⊥) → word_of new u g ≡ word_of old u g
  pub held : (u : ℕ) → u < v → word_of new u f ≡ a u

-- the serving distance of v, from the words: a marked node's own distance, else its parent's serving distance
abbrev pub served_from : Tree → List ℕ → ℕ → ℕ
served_from t words v =
    cond (eqb (word_of words v mark_word) 1) (word_of words v distance_word) (word_of words (t.parent v) serving_distance_word)

-- the distances of the nodes of an accepted file are stored
pub record DistancesStored (file : List ℕ) (n : ℕ) (words : List ℕ) : Type 0 where
  pub room : NodeRoom file n words
  pub distances : (v : ℕ) → v < n → word_of words v distance_word ≡ distance (tree_of file) v

-- and the words of each node say how far its serving node is and what reaches it, with caches at the marked sites
pub record Current (file : List ℕ) (n : ℕ) (words : List ℕ) : Type 0 where
  pub stored : DistancesStored file n words
  pub served : (v : ℕ) → v < n → word_of words v serving_distance_word ≡ serving_distance (tree_of file) (marked_sites n words) v
  pub reached : (v : ℕ) → v < n → word_of words v reach_word ≡ reach (tree_of file) (demand_of file) (marked_sites n words) v

-- ---- before the first step

-- at each node is stored what is gathered once nodes v to n − 1 were passed
abbrev pub PassedFrom : List ℕ → ℕ → ℕ → List ℕ → Type 0
PassedFrom file n v words = (p : ℕ) → p < n → word_of words p reach_word ≡ gathered (tree_of file) (demand_of file) v p

-- and that is written
abbrev pub Passes : List ℕ → ℕ → ℕ → List ℕ → List ℕ → Type 0
Passes file n v = Wrote n reach_word (gathered (tree_of file) (demand_of file) v) n

-- the flow that reaches each node where no site is taken is written
abbrev pub Gathers : List ℕ → ℕ → List ℕ → List ℕ → Type 0
Gathers file n = Wrote n reach_word (reach (tree_of file) (demand_of file) []) n

-- no site is taken, and the words say so
pub record Prepared (file : List ℕ) (n : ℕ) (old new : List ℕ) : Type 0 where
  pub current : Current file n new
  pub marks : marked_sites n new ≡ []
  pub front : FrontOnly (node_words * n) old new

-- ---- a step

-- the words allow the savings of n nodes to be computed without overflow
pub record Weighed (n : ℕ) (words : List ℕ) : Type 0 where
  pub some : 1 ≤ n
  pub room : node_words * n ≤ length words
  pub near : (v : ℕ) → v < n → word_of words v serving_distance_word ≤ word_of words v distance_word
  pub small : (v : ℕ) → v < n → saving_from words v < 2 ^ 64

-- what a step finds among the nodes before v: the first of the open sites that save most, and something, or that none saves
abbrev pub Finds : Tree → List ℕ → ℕ → Option Found → Type 0
Finds t words v (Some found) = (0 < found.saving.0) × FirstGreatest (is_closed t) (saving_from words) v found.site found.saving.0
Finds t words v None = (u : ℕ) → 1 ≤ u → u < v → is_closed t u ≡ false → saving_from words u ≡ 0

-- a site that is not marked
pub record Free (n x : ℕ) (words : List ℕ) : Type 0 where
  pub site : 0 < x
  pub below : x < n
  pub outside : has (marked_sites n words) x ≡ false

-- what reaches each node once x is taken too is written
abbrev pub Relieves : List ℕ → ℕ → ℕ → List ℕ → List ℕ → Type 0
Relieves file n x old new = Wrote n reach_word (reach (tree_of file) (demand_of file) (with_node x (marked_sites n old))) n old new

-- the distances of the serving nodes of the nodes before v are stored
abbrev pub ServedTo : List ℕ → ℕ → ℕ → List ℕ → Type 0
ServedTo file n v words = (u : ℕ) → u < v → word_of words u serving_distance_word ≡ serving_distance (tree_of file) (marked_sites n words) u

-- those of all nodes are written
abbrev pub Serves : List ℕ → ℕ → List ℕ → List ℕ → Type 0
Serves file n old new = Wrote n serving_distance_word (serving_distance (tree_of file) (marked_sites n old)) n old new

-- node x has been taken: it is marked besides, and the words are right for the marked nodes
pub record SiteTaken (file : List ℕ) (n x : ℕ) (old new : List ℕ) : Type 0 where
  pub current : Current file n new
  pub marks : marked_sites n new ≡ with_node x (marked_sites n old)
  pub front : FrontOnly (node_words * n) old new
