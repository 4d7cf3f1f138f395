-- Laws of the words of nodes: what a store changes, what an accepted file says of its nodes, and what the words say of a node.
use mathlib.Core.Path.{◌≡◌, sym, ◌∙◌}
use mathlib.Core.List.{List}
use Prim.Native.Nat.{ℕ, zero, suc, ◌+◌, ◌*◌, ◌<◌}
use native.Mathlib.Decide.{ℕ_discrete}
use native.Mathlib.Omega.{arith}
use lib.ListN.{take, set, length-set}
use lib.Seq.{get_or-set_same, get_or-set_other}
use Rattle.laws.specs.Fronts.{FrontOnly}
use Rattle.laws.proofs.Fronts.{same_front_entry}
use Rattle.model.specs.File.{Tree, tree_of, demand_of, count_of}
use Rattle.model.specs.Accepted.{Sound}
use Rattle.model.proofs.Routes.{parent_before}
use Rattle.model.proofs.Accepted.{record_before, accepted_header, accepted_sound}
use Rattle.fields.specs.Table.{InFile}
use Rattle.node_words.specs.Words.{node_words, word_at, distance_word, depth_word, child_word, sibling_word, word_of, HasNode, NodeRoom, SiteRoom, NodeWords, Noted}

-- ---- one store

-- the word stored
pub word_same : (s : List ℕ) (v f x : ℕ) → f < node_words → HasNode s v → word_of (set s (word_at v f) x) v f ≡ x
word_same s v f x h k = get_or-set_same s (word_at v f) x 0 (omega arith)

-- the words of other nodes
pub other_node : (s : List ℕ) (v f x u g : ℕ) → (u ≡ v → ⊥) → f < node_words → g < node_words → word_of (set s (word_at v f) x) u g ≡ word_of s u g
other_node s v f x u g n h k = get_or-set_other s (word_at v f) (word_at u g) x 0 (λ e. n (omega arith))

-- the other words of all nodes
pub other_word : (s : List ℕ) (v f x u g : ℕ) → (g ≡ f → ⊥) → f < node_words → g < node_words → word_of (set s (word_at v f) x) u g ≡ word_of s u g
other_word s v f x u g n h k = get_or-set_other s (word_at v f) (word_at u g) x 0 (λ e. n (omega arith))

-- ---- two stores, for one node after another

-- the words after a store of words f and f + 1 of node v
abbrev pub with_pair : List ℕ → ℕ → ℕ → ℕ → ℕ → List ℕ
with_pair words v f x y = set (set words (word_at v f) x) (word_at v (f + 1)) y

module _ (f : ℕ) (a b : ℕ → ℕ) where
  pub noted_none : (s : List ℕ) → Noted f a b s 0
  noted_none s = record { first = λ v h. absurd (omega arith); second = λ v h. absurd (omega arith) }

  pub noted_next : {s : List ℕ} {v : ℕ} → f + 1 < node_words → HasNode s v → Noted f a b s v → Noted f a b (with_pair s v f (a v) (b v)) (v + 1)
  noted_next {s = s} {v = v} k h m =
      record {
        first = λ u l.
            elim (ℕ_discrete u v) [
              | yes e ↦ rw e (other_word r v (f + 1) (b v) v f (λ z. omega arith) (omega arith) (omega arith) ∙ word_same s v f (a v) (omega arith) h)
              | no e ↦ earlier u f e (omega arith) ∙ m.first u (omega arith)
            ];
        second = λ u l.
            elim (ℕ_discrete u v) [
              | yes e ↦ rw e (word_same r v (f + 1) (b v) (omega arith) (rw length-set h))
              | no e ↦ earlier u (f + 1) e (omega arith) ∙ m.second u (omega arith)
            ];
      }
    where
      r : List ℕ
      r = set s (word_at v f) (a v)

      earlier : (u g : ℕ) → (u ≡ v → ⊥) → g < node_words → word_of (with_pair s v f (a v) (b v)) u g ≡ word_of s u g
      earlier u g e l = other_node r v (f + 1) (b v) u g e (omega arith) l ∙ other_node s v f (a v) u g e (omega arith) l

-- ---- an accepted file with room for its nodes

module _ {file : List ℕ} {n : ℕ} {s : List ℕ} (r : NodeRoom file n s) where
  pub room_sound : Sound (tree_of file) (demand_of file)
  room_sound = accepted_sound file r.accepted

  pub room_some : 0 < n
  room_some = omega (arith, r.count, room_sound.some)

  pub room_record : {v : ℕ} → v < n → InFile file v
  room_record {v} h =
      let head = accepted_header file r.accepted in
      let here : v < count_of file = omega (arith, r.count) in
      record { node = omega (arith, head.few); long = omega (arith, head.exact, record_before file here) }

  -- room for the nodes stays
  pub room_kept : {l : List ℕ} → FrontOnly (node_words * n) s l → NodeRoom file n l
  room_kept f = record { accepted = r.accepted; count = r.count; room = omega (arith, r.room, f.long) }

module _ {file : List ℕ} {n : ℕ} {s : List ℕ} where
  -- a parent stands before its node
  pub room_parent : {v : ℕ} → SiteRoom file n s v → (tree_of file).parent v < v
  room_parent {v = zero} here = absurd (omega (arith, here.site))
  room_parent {v = suc i} here = omega (arith, parent_before (tree_of file) (room_sound here.nodes).preorder i)

  -- and the words have room for it
  pub room_above : {v up : ℕ} → SiteRoom file n s v → up ≡ (tree_of file).parent v → HasNode s up
  room_above here e = omega (arith, room_parent here, here.below, here.nodes.room)

-- ---- the words of all nodes

-- they are the same in another list with the same front
pub node_words_same : (t : Tree) (s r : List ℕ) → take (node_words * t.count) s ≡ take (node_words * t.count) r → NodeWords t s → NodeWords t r
node_words_same t s r e w =
    record {
      distance = λ v h. kept v distance_word (omega arith) h ∙ w.distance v h;
      depth = λ v h. kept v depth_word (omega arith) h ∙ w.depth v h;
      child = λ v h. kept v child_word (omega arith) h ∙ w.child v h;
      sibling = λ v p h. kept v sibling_word (omega arith) h ∙ w.sibling v p h;
      server = λ h. kept 0 sibling_word (omega arith) h ∙ w.server h;
    }
  where
    kept : (v f : ℕ) → f < node_words → v < t.count → word_of r v f ≡ word_of s v f
    kept v f k h = same_front_entry (node_words * t.count) r s (word_at v f) (sym e) (omega arith)
