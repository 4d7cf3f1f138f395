-- Words of one kind written node after node, and the marked sites as a set.
use mathlib.Core.Path.{◌≡◌, refl, sym, ap, ◌∙◌}
use mathlib.Core.Bool.{true, false, ◌||◌, and-true}
use mathlib.Core.List.{List, []}
use Prim.Native.Nat.{ℕ, ◌+◌, ◌*◌, ◌-◌, ◌≤◌, ◌<◌}
use native.Mathlib.Decide.{ℕ_discrete}
use native.Mathlib.Omega.{arith}
use lib.Dec.{eqb}
use lib.ListN.{length, set}
use borrow.Author.Tests.{eq-eqb, ne_eqb}
use Rattle.laws.specs.Lists.{range, has, those}
use Rattle.laws.proofs.Lists.{in_range, has_those}
use Rattle.laws.proofs.Fronts.{front_only_none, front_only_set, front_only_then}
use Rattle.model.specs.Rules.{ascends}
use Rattle.model.specs.Greedy.{with_node}
use Rattle.model.proofs.Ascending.{ascends_range, ascends_those, same_members}
use Rattle.model.proofs.WithNode.{ascends_with_node, has_with_node}
use Rattle.node_words.specs.Words.{node_words, word_at, distance_word, word_of}
use Rattle.node_words.proofs.Words.{room_kept, word_same, other_node, other_word}
use Rattle.greedy.specs.Words.{mark_word, marked_sites, Wrote, DistancesStored}

-- ---- words of one kind

module _ (n f : ℕ) (a : ℕ → ℕ) where
  -- nothing, where the words are as they shall be
  pub wrote_nothing : {s : List ℕ} {v : ℕ} → ((u : ℕ) → u < v → word_of s u f ≡ a u) → Wrote n f a v s s
  wrote_nothing {s} held = record { front = front_only_none (node_words * n) s; others = λ u g _ _. refl; held = held }

  pub wrote_none : (s : List ℕ) → Wrote n f a 0 s s
  wrote_none s = wrote_nothing (λ u h. absurd (omega arith))

  -- a store of one word more, where the words of the nodes before it are as they shall be
  pub wrote_at : {s r l : List ℕ} {b : ℕ → ℕ} {m : ℕ} (v w x : ℕ) → f < node_words → v < n → node_words * n ≤ length s → Wrote n f b m s r
      → l ≡ set r (word_at v f) x → x ≡ a v → ((u : ℕ) → u < w → (u ≡ v → ⊥) → word_of r u f ≡ a u) → Wrote n f a w s l
  wrote_at {r = r} v w x k h room wrote el ex rest =
      rw el
      (record {
        front = front_only_set (node_words * n) (word_at v f) x (omega arith) wrote.front;
        others = λ u g l q. other_word r v f x u g q k l ∙ wrote.others u g l q;
        held = λ u l. elim (ℕ_discrete u v) [
          | yes e ↦ rw e (word_same r v f x k (omega (arith, wrote.front.long)) ∙ ex)
          | no e ↦ other_node r v f x u f e k k ∙ rest u l e
        ];
      })

  pub wrote_next : {s r l : List ℕ} {v x : ℕ} → f < node_words → v < n → node_words * n ≤ length s → Wrote n f a v s r → l ≡ set r (word_at v f) x → x ≡ a v
      → Wrote n f a (v + 1) s l
  wrote_next {v = v} {x = x} k h room wrote el ex =
      wrote_at v (v + 1) x k h room wrote el ex (λ u l e. wrote.held u (omega arith))

  pub wrote_then : {s r l : List ℕ} {b : ℕ → ℕ} {m v : ℕ} → Wrote n f b m s r → Wrote n f a v r l → Wrote n f a v s l
  wrote_then first second =
      record {
        front = front_only_then (node_words * n) first.front second.front;
        others = λ u g l q. second.others u g l q ∙ first.others u g l q;
        held = second.held;
      }

-- ---- the marked sites

module _ (n : ℕ) where
  -- they stay where words of another kind are written
  pub marks_kept : {f v : ℕ} {a : ℕ → ℕ} {s r : List ℕ} → (mark_word ≡ f → ⊥) → Wrote n f a v s r → marked_sites n r ≡ marked_sites n s
  unfolding marked_sites
  marks_kept q wrote = λ i. those (λ u. eqb (wrote.others u mark_word (omega arith) q i) 1) (range 1 (n - 1))

  pub has_marked : (s : List ℕ) (v : ℕ) → 1 ≤ v → v < n → has (marked_sites n s) v ≡ eqb (word_of s v mark_word) 1
  unfolding marked_sites
  has_marked s v h k = rw (has_those, in_range 1 (n - 1) v h (omega arith)) (and-true _)

  marked_is_set : (s : List ℕ) → ascends 0 n (marked_sites n s) ≡ true
  unfolding marked_sites
  marked_is_set s = ascends_those n _ 0 (range 1 (n - 1)) (ascends_range n 0 (n - 1) (omega arith))

  -- where every mark is 0
  pub marked_none : (s : List ℕ) → ((v : ℕ) → v < n → word_of s v mark_word ≡ 0) → marked_sites n s ≡ []
  unfolding ascends has
  marked_none s zeros =
      same_members n 0 (marked_sites n s) [] (marked_is_set s) refl (λ v h k. has_marked s v h k ∙ ap (λ (x : ℕ). eqb x 1) (zeros v k))

  module _ (s : List ℕ) (x : ℕ) (room : node_words * n ≤ length s) (below : x < n) where
    abbrev more : List ℕ
    more = set s (word_at x mark_word) 1

    has_more : (v : ℕ) → 0 < v → v < n → has (marked_sites n more) v ≡ (eqb x v || has (marked_sites n s) v)
    has_more v h k =
        rw (has_marked more v h k)
        (elim (ℕ_discrete v x) [
          | yes e ↦ rw (e, word_same s x mark_word 1 (omega arith) (omega arith), eq-eqb x x refl)
          | no e ↦ rw (other_node s x mark_word 1 v mark_word e (omega arith) (omega arith), ne_eqb x v (λ q. e (sym q))) (sym (has_marked s v h k))
        ])

    -- one site more
    pub marked_more : 1 ≤ x → has (marked_sites n s) x ≡ false → marked_sites n more ≡ with_node x (marked_sites n s)
    marked_more site lacks =
        same_members n 0 (marked_sites n more) (with_node x (marked_sites n s)) (marked_is_set more)
        (ascends_with_node n 0 x (marked_sites n s) site below lacks (marked_is_set s))
        (λ v h k. has_more v h k ∙ sym (has_with_node x v (marked_sites n s)))

-- ---- the distances

-- they stay where words of another kind are written
pub stored_kept : {file : List ℕ} {n f v : ℕ} {a : ℕ → ℕ} {s r : List ℕ} → (distance_word ≡ f → ⊥) → DistancesStored file n s → Wrote n f a v s r → DistancesStored file n r
stored_kept q stored wrote =
    record {
      room = room_kept stored.room wrote.front;
      distances = λ u h. wrote.others u distance_word (omega arith) q ∙ stored.distances u h;
    }
