-- Laws of loops over a set: rule 12 from its front, first that it ascends and then that it is open, and the members that are left as the node number goes up.
use mathlib.Core.Path.{◌≡◌, refl, sym, ◌∙◌}
use mathlib.Core.Bool.{Bool, true, false, cond, or-false}
use mathlib.Core.List.{List, [], ◌∷◌}
use Prim.Native.Nat.{ℕ, zero, suc, ◌+◌, ◌≤◌, ◌<◌}
use native.Mathlib.Numerals.{add-one}
use native.Mathlib.Decide.{dec_lt, ℕ_discrete}
use native.Mathlib.Omega.{arith}
use lib.Dec.{eqb}
use lib.ListN.{length, get_or, drop}
use lib.Seq.{drop-cons, drop-nil}
use borrow.Author.Tests.{lt-ltb, le-leb, lt-leb, eq-eqb, ne_eqb}
use Rattle.std.specs.List.{list_all}
use Rattle.laws.specs.Lists.{has, all_of, those}
use Rattle.laws.proofs.Bools.{by_test}
use Rattle.model.specs.Rules.{ascends}
use Rattle.model.proofs.Ascending.{ascends_cons, ascends_bounds}
use Rattle.placement.specs.Passes.{members_from}

-- ---- rule 12: the first i members ascend, the last of them is a

past_end : (k : List ℕ) (i : ℕ) → length k ≤ i → drop i k ≡ []
past_end [] i h = drop-nil i
past_end (x ∷ k) zero h = absurd (omega arith)
past_end (x ∷ k) (suc i) h = past_end k i (omega arith)

module _ (n : ℕ) (k : List ℕ) (a i : ℕ) (so_far : ascends 0 n k ≡ ascends a n (drop i k)) where
  pub set_goes_on : i < length k → a < get_or k i 0 → get_or k i 0 < n → ascends 0 n k ≡ ascends (get_or k i 0) n (drop (i + 1) k)
  unfolding ascends
  set_goes_on h low high = so_far ∙ rw (drop-cons k i 0 h, lt-ltb a (get_or k i 0) low, lt-ltb (get_or k i 0) n high, add-one i)

  pub set_breaks : i < length k → (a < get_or k i 0 → get_or k i 0 < n → ⊥) → ascends 0 n k ≡ false
  set_breaks h bad =
      by_test (λ b. b ≡ false) (ascends 0 n k)
      (λ e. let parts = (ascends_cons n a (get_or k i 0) (drop (suc i) k)).0 (rw (← drop-cons k i 0 h) (sym so_far ∙ e)) in absurd (bad parts.0 parts.1))
      (λ _. refl)

  pub set_ends : length k ≤ i → ascends 0 n k ≡ true
  unfolding ascends
  set_ends h = so_far ∙ rw (past_end k i h)

-- each member is open
pub all_asked : (p : ℕ → Bool) (k : List ℕ) → list_all p k ≡ all_of p k
unfolding all_of
all_asked p [] = refl
all_asked p (x ∷ k) = rw (all_asked p k) refl

-- ---- its size and its entries

-- a set has fewer members than the tree has nodes
pub set_size : (n a : ℕ) (k : List ℕ) → a < n → ascends a n k ≡ true → a + length k < n
set_size n a [] h s = omega arith
set_size n a (v ∷ k) h s = let parts = (ascends_cons n a v k).0 s in omega (arith, parts.0, set_size n v k parts.1 parts.2)

-- each entry lies above a and below n
pub entry_in_set : (n a : ℕ) (k : List ℕ) (j : ℕ) → j < length k → ascends a n k ≡ true → (a < get_or k j 0) × (get_or k j 0 < n)
entry_in_set n a [] j h s = absurd (omega arith)
entry_in_set n a (v ∷ k) zero h s = let parts = (ascends_cons n a v k).0 s in (parts.0, parts.1)
entry_in_set n a (v ∷ k) (suc j) h s =
    let parts = (ascends_cons n a v k).0 s in
    let later = entry_in_set n v k j (omega arith) parts.2 in
    (omega (arith, parts.0, later.0), later.1)

-- ---- the members that are left, of a set that ascends from above a on

-- is v the first of them?
first_is : List ℕ → ℕ → Bool
first_is [] v = false
first_is (x ∷ k) v = eqb x v

none_first : (k : List ℕ) (v : ℕ) → length k ≡ 0 → first_is k v ≡ false
unfolding first_is
none_first [] v h = refl
none_first (x ∷ k) v h = absurd (omega arith)

module _ (n : ℕ) where
  -- up to the number after a all are left
  pub all_left : (a v : ℕ) (k : List ℕ) → v ≤ a + 1 → ascends a n k ≡ true → members_from k v ≡ k
  unfolding members_from those
  all_left a v [] h s = refl
  all_left a v (x ∷ k) h s =
      let parts = (ascends_cons n a x k).0 s in
      rw (le-leb v x (omega (arith, parts.0)), all_left x v k (omega (arith, parts.0)) parts.2)

  lacks_earlier : (a v : ℕ) (k : List ℕ) → v ≤ a → ascends a n k ≡ true → has k v ≡ false
  lacks_earlier a v k h s = by_test (λ b. b ≡ false) (has k v) (λ m. absurd (omega (arith, ascends_bounds n a v k s m))) (λ _. refl)

  -- the node is a member just if it is the first of those left
  member_first : (a v : ℕ) (k : List ℕ) → ascends a n k ≡ true → first_is (members_from k v) v ≡ has k v
  unfolding members_from those has first_is
  member_first a v [] s = refl
  member_first a v (x ∷ k) s =
      let parts = (ascends_cons n a x k).0 s in
      elim (dec_lt x v) [
        | yes l ↦ rw (lt-leb v x l, ne_eqb x v (λ e. omega arith)) (member_first x v k parts.2)
        | no l ↦ rw (le-leb v x (omega arith), lacks_earlier x v k (omega arith) parts.2, or-false (eqb x v))
      ]

  -- and is then not left for the next
  left_after : (a v : ℕ) (k : List ℕ) → ascends a n k ≡ true
      → members_from k (v + 1) ≡ cond (first_is (members_from k v) v) (drop 1 (members_from k v)) (members_from k v)
  unfolding members_from those first_is
  left_after a v [] s = refl
  left_after a v (x ∷ k) s =
      let parts = (ascends_cons n a x k).0 s in
      elim (dec_lt x v) [
        | yes l ↦ rw (lt-leb v x l, lt-leb (v + 1) x (omega arith)) (left_after x v k parts.2)
        | no l ↦
            let rest = all_left x v k (omega arith) parts.2 in
            let next = all_left x (v + 1) k (omega arith) parts.2 in
            elim (ℕ_discrete x v) [
              | yes e ↦ rw (le-leb v x (omega arith), eq-eqb x v e, lt-leb (v + 1) x (omega arith), rest) next
              | no e ↦ rw (le-leb v x (omega arith), ne_eqb x v e, le-leb (v + 1) x (omega arith), rest, next) refl
            ]
      ]

-- ---- what is taken off the members that are left at v

module _ {left : List ℕ} (v n : ℕ) (set : List ℕ) (up : ascends 0 n set ≡ true) (is : left ≡ members_from set v) where
  taken_is : {b : Bool} → first_is left v ≡ b → (b ≡ has set v) × (cond b (drop 1 left) left ≡ members_from set (v + 1))
  taken_is e = (sym e ∙ rw is (member_first n 0 v set up), rw (← e, is) (sym (left_after n 0 v set up)))

  -- none is left
  pub none_left : length left ≡ 0 → (false ≡ has set v) × (left ≡ members_from set (v + 1))
  none_left h = taken_is (none_first left v h)

  module _ {x : ℕ} {rest : List ℕ} (first : left ≡ x ∷ rest) where
    -- the first of them is another
    pub other_left : (x ≡ v → ⊥) → (false ≡ has set v) × (left ≡ members_from set (v + 1))
    unfolding first_is
    other_left other = taken_is (rw first (ne_eqb x v other))

    -- it is v
    pub first_taken : x ≡ v → (true ≡ has set v) × (rest ≡ members_from set (v + 1))
    unfolding first_is
    first_taken same = let taken = taken_is (rw first (eq-eqb x v same)) in (taken.0, rw first at taken.1)
