-- The pass from the last node up: each node becomes the first child of its parent, before the one that was.
use mathlib.Core.Path.{◌≡◌, refl, sym, ◌∙◌}
use mathlib.Core.List.{List}
use Prim.Native.Nat.{ℕ, zero, suc, ◌*◌, ◌-◌, ◌≤◌, ◌<◌}
use native.Mathlib.Decide.{ℕ_discrete}
use native.Mathlib.Omega.{arith}
use lib.ListN.{length, set, length-set}
use Rattle.laws.proofs.Fronts.{front_only_none, front_only_set}
use Rattle.model.specs.File.{Tree, tree_of}
use Rattle.best_rows.specs.TreeRows.{first_after, nodes_after, next_sibling}
use Rattle.best_rows.proofs.TreeRows.{first_after_none, first_after_child, first_after_other, first_child_kept}
use Rattle.node_words.specs.Words.{node_words, word_at, distance_word, depth_word, child_word, sibling_word, word_of, NodeRoom, SiteRoom, NodeWords, Measured, Unlinked, Linked, LinksOnly}
use Rattle.node_words.proofs.Words.{word_same, other_node, other_word, room_sound, room_parent}

-- ---- distances and depths stay

module _ (n : ℕ) where
  pub links_only_none : (s : List ℕ) → LinksOnly n s s
  links_only_none s = record { front = front_only_none (node_words * n) s; measures = λ v f h. refl }

  -- a store of a child or a sibling
  links_only_set : {s r : List ℕ} (v f x : ℕ) → v < n → child_word ≤ f → f < node_words → LinksOnly n s r → LinksOnly n s (set r (word_at v f) x)
  links_only_set {r = r} v f x h k l o =
      record {
        front = front_only_set (node_words * n) (word_at v f) x (omega arith) o.front;
        measures = λ u g p. other_word r v f x u g (λ e. omega arith) l (omega arith) ∙ o.measures u g p;
      }

-- ---- the nodes after a node are linked

-- the last node has none after it
linked_none : (t : Tree) (s : List ℕ) → Unlinked s t.count → Linked t s (t.count - 1)
linked_none t s c =
    let none : nodes_after t (t.count - 1) ≡ 0 = omega arith in
    record {
      child = λ p h. rw (none, first_after_none t (t.count - 1) p) (c.first p h);
      sibling = λ v h k. absurd (omega arith);
      server = c.second 0;
    }

-- one node more, its parent's first child
linked_next : (t : Tree) (s : List ℕ) (i : ℕ) → let v = suc i in let up = t.parent v in
    v < t.count → up < t.count → node_words * t.count ≤ length s → Linked t s v
    → Linked t (set (set s (word_at v sibling_word) (word_of s up child_word)) (word_at up child_word) v) i
unfolding next_sibling
linked_next t s i h k room l =
    let v = suc i in
    let left : nodes_after t i ≡ suc (nodes_after t v) = omega arith in
    record {
      child = λ p b. rw left (child_of_lem p b);
      sibling = λ u a b.
          other_word r up child_word v u sibling_word (λ z. omega arith) (omega arith) (omega arith)
          ∙ elim (ℕ_discrete u v) [
            | yes e ↦ rw e (word_same s v sibling_word _ (omega arith) (omega arith) ∙ l.child up k)
            | no e ↦ other_node s v sibling_word _ u sibling_word e (omega arith) (omega arith) ∙ l.sibling u (omega arith) b
          ];
      server = λ b.
          other_word r up child_word v 0 sibling_word (λ z. omega arith) (omega arith) (omega arith)
          ∙ other_node s v sibling_word _ 0 sibling_word (λ z. omega arith) (omega arith) (omega arith) ∙ l.server b;
    }
  where
    up : ℕ
    up = t.parent (suc i)

    r : List ℕ
    r = set s (word_at (suc i) sibling_word) (word_of s up child_word)

    child_of_lem : (p : ℕ) → p < t.count → word_of (set r (word_at up child_word) (suc i)) p child_word ≡ first_after t (suc (nodes_after t (suc i))) i p
    child_of_lem p b =
        elim (ℕ_discrete p up) [
          | yes e ↦ rw e (word_same r up child_word (suc i) (omega arith) (rw length-set (omega arith)) ∙ sym (first_after_child t (nodes_after t (suc i)) i up refl))
          | no e ↦
              other_node r up child_word (suc i) p child_word e (omega arith) (omega arith)
              ∙ other_word s (suc i) sibling_word _ p child_word (λ z. omega arith) (omega arith) (omega arith)
              ∙ l.child p b ∙ sym (first_after_other t (nodes_after t (suc i)) i p (λ z. e (sym z)))
        ]

-- ---- in an accepted file

module _ (file : List ℕ) where
  abbrev t : Tree
  t = tree_of file

  module _ {n : ℕ} {s : List ℕ} where
    pub linked_last : NodeRoom file n s → Unlinked s n → Linked t s (n - 1)
    linked_last room c = rw room.count (linked_none t s (rw room.count at c))

    pub linked_site : {r l : List ℕ} {v up first : ℕ} → SiteRoom file n s v → Linked t s v → up ≡ t.parent v → first ≡ word_of s up child_word
        → r ≡ set s (word_at v sibling_word) first → l ≡ set r (word_at up child_word) v
        → Linked t l (v - 1) × LinksOnly n s l
    linked_site {v = zero} here k eu ef er el = absurd (omega (arith, here.site))
    linked_site {v = suc i} here k eu ef er el =
        let room = here.nodes in
        let before : t.parent (suc i) < n = omega (arith, room_parent here, here.below) in
        let last : suc i - 1 ≡ i = omega arith in
        rw (el, er, ef, eu, last) (
          linked_next t s i (omega (arith, room.count, here.below)) (omega (arith, room.count)) (omega (arith, room.count, room.room)) k,
          links_only_set n (t.parent (suc i)) child_word (suc i) before (omega arith) (omega arith)
              (links_only_set n (suc i) sibling_word _ here.below (omega arith) (omega arith) (links_only_none n s)),
        )

    -- both passes together
    pub node_words_hold : {r : List ℕ} → NodeRoom file n s → Measured t s n → LinksOnly n s r → Linked t r 0 → NodeWords t r
    node_words_hold room m o l =
        let below : (v : ℕ) → v < t.count → v < n = λ v h. omega (arith, room.count) in
        record {
          distance = λ v h. o.measures v distance_word (omega arith) ∙ m.first v (below v h);
          depth = λ v h. o.measures v depth_word (omega arith) ∙ m.second v (below v h);
          child = λ v h. l.child v h ∙ first_child_kept t (room_sound room).preorder v 0 v (omega arith) h;
          sibling = l.sibling;
          server = l.server;
        }
