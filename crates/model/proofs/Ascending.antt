-- Laws of ascending lists: how they are made, their members, and that the members tell the list; and of sets.
use mathlib.Core.Path.{◌≡◌, refl, sym, ◌∙◌}
use mathlib.Core.Bool.{Bool, true, false, cond, ◌&&◌}
use mathlib.Core.List.{List, [], ◌∷◌, cons-eq-cons}
use mathlib.Core.Logic.{◌↔◌, ◌⊎◌, inl, inr}
use Prim.Native.Nat.{ℕ, zero, suc, ◌-◌, ◌≤◌, ◌<◌}
use native.Mathlib.Decide.{ℕ_discrete}
use native.Mathlib.Omega.{arith}
use lib.Dec.{ltb}
use borrow.Author.Tests.{ltb-true, lt-ltb}
use Rattle.laws.specs.Lists.{range, has, all_of, those}
use Rattle.laws.proofs.Bools.{by_test, both}
use Rattle.laws.proofs.Lists.{has_cases, has_none, has_head, has_other, all_said}
use Rattle.model.specs.File.{Tree}
use Rattle.model.specs.Rules.{ascends, is_set}

-- lists that ascend from above a on, each below n
module _ (n : ℕ) where
  pub ascends_cons : (a v : ℕ) (vs : List ℕ) → ascends a n (v ∷ vs) ≡ true ↔ ((a < v) × (v < n) × (ascends v n vs ≡ true))
  unfolding ascends
  ascends_cons a v vs = (
    λ h.
        let p = both (ltb a v && ltb v n) (ascends v n vs) h in
        let q = both (ltb a v) (ltb v n) p.0 in
        (ltb-true a v q.0, ltb-true v n q.1, p.1),
    λ h. rw (lt-ltb a v h.0, lt-ltb v n h.1) h.2,
  )

  -- from above a smaller number on
  pub ascends_lower : (a b : ℕ) (l : List ℕ) → a ≤ b → ascends b n l ≡ true → ascends a n l ≡ true
  unfolding ascends
  ascends_lower a b [] le h = refl
  ascends_lower a b (v ∷ vs) le h = let p = (ascends_cons b v vs).0 h in (ascends_cons a v vs).1 (omega arith, p.1, p.2)

  -- it begins with the number after a, or ascends from above that
  pub ascends_split : (a : ℕ) (k : List ℕ) → ascends a n k ≡ true
      → (ascends (suc a) n k ≡ true) ⊎ ((l : List ℕ) × (k ≡ suc a ∷ l) × (ascends (suc a) n l ≡ true))
  unfolding ascends
  ascends_split a [] h = inl refl
  ascends_split a (v ∷ l) h =
      let p = (ascends_cons a v l).0 h in
      elim (ℕ_discrete v (suc a)) [
        | yes e ↦ inr (l, rw e, rw e at p.2)
        | no e ↦ inl ((ascends_cons (suc a) v l).1 (omega arith, p.1, p.2))
      ]

  -- m numbers from a + 1 on
  pub ascends_range : (a m : ℕ) → m ≤ n - suc a → ascends a n (range (suc a) m) ≡ true
  unfolding ascends range
  ascends_range a zero le = refl
  ascends_range a (suc m) le =
      (ascends_cons a (suc a) (range (suc (suc a)) m)).1 (omega arith, omega arith, ascends_range (suc a) m (omega arith))

  -- those that pass a test
  pub ascends_those : (p : ℕ → Bool) (a : ℕ) (l : List ℕ) → ascends a n l ≡ true → ascends a n (those p l) ≡ true
  unfolding those
  ascends_those p a [] h = h
  ascends_those p a (v ∷ vs) h =
      let parts = (ascends_cons a v vs).0 h in
      let rest = ascends_those p v vs parts.2 in
      by_test (λ b. ascends a n (cond b (v ∷ those p vs) (those p vs)) ≡ true) (p v)
      (λ _. (ascends_cons a v (those p vs)).1 (parts.0, parts.1, rest)) (λ _. ascends_lower a v (those p vs) (omega arith) rest)

  -- each member lies above a and below n
  pub ascends_bounds : (a u : ℕ) (l : List ℕ) → ascends a n l ≡ true → has l u ≡ true → (a < u) × (u < n)
  ascends_bounds a u [] h m = absurd (has_none u m)
  ascends_bounds a u (v ∷ vs) h m =
      let parts = (ascends_cons a v vs).0 h in
      has_cases ((a < u) × (u < n)) v u vs (λ e. omega arith) (λ i. let bounds = ascends_bounds v u vs parts.2 i in omega arith) m

  -- none is below the first of them
  ascends_least : (u v : ℕ) (k : List ℕ) → ascends u n k ≡ true → has (u ∷ k) v ≡ true → u ≤ v
  ascends_least u v k h = has_cases (u ≤ v) u v k (λ e. omega arith) (λ m. omega (arith, ascends_bounds u v k h m))

  -- a list that has the same of the numbers after a has the first of them
  has_first : (a v : ℕ) (k l : List ℕ) → ascends a n (v ∷ l) ≡ true → ((w : ℕ) → a < w → w < n → has k w ≡ has (v ∷ l) w) → has k v ≡ true
  has_first a v k l h s = let p = (ascends_cons a v l).0 h in s v p.0 p.1 ∙ has_head v l

  -- ascending lists with the same members are the same
  pub same_members : (a : ℕ) (k l : List ℕ) → ascends a n k ≡ true → ascends a n l ≡ true
      → ((v : ℕ) → a < v → v < n → has k v ≡ has l v) → k ≡ l
  same_members a [] [] g h s = refl
  same_members a [] (v ∷ l) g h s = absurd (has_none v (has_first a v [] l h s))
  same_members a (u ∷ k) [] g h s = absurd (has_none u (has_first a u [] k g (λ w i j. sym (s w i j))))
  same_members a (u ∷ k) (v ∷ l) g h s =
      let p = (ascends_cons a u k).0 g in
      let q = (ascends_cons a v l).0 h in
      let no_more = ascends_least u v k p.2 (has_first a v (u ∷ k) l h s) in
      let no_less = ascends_least v u l q.2 (has_first a u (v ∷ l) k g (λ w i j. sym (s w i j))) in
      let e : u ≡ v = omega arith in
      cons-eq-cons.1 (
        e,
        same_members u k l p.2 (rw e q.2)
            (λ w i j. sym (has_other u w k (omega arith)) ∙ s w (omega arith) j ∙ has_other v w l (omega arith)),
      )

-- ---- sets

module _ (t : Tree) (k : List ℕ) where
  -- a list that ascends below n, each of its nodes open
  pub set_said_lem : is_set t k ≡ true ↔ ((ascends 0 t.count k ≡ true) × ((v : ℕ) → has k v ≡ true → t.is_open v ≡ true))
  unfolding is_set
  set_said_lem = (
    λ h. let parts = both (ascends 0 t.count k) (all_of t.is_open k) h in (parts.0, (all_said t.is_open k).0 parts.1),
    λ h. rw h.0 ((all_said t.is_open k).1 h.1),
  )

  pub set_ascends : is_set t k ≡ true → ascends 0 t.count k ≡ true
  set_ascends h = (set_said_lem.0 h).0

  -- by whether it ascends below n, and then by whether each of its nodes is open
  pub not_ascending : {n : ℕ} → n ≡ t.count → ascends 0 n k ≡ false → is_set t k ≡ false
  unfolding is_set
  not_ascending e h = rw (← e, h)

  pub set_by_open : {n : ℕ} → n ≡ t.count → ascends 0 n k ≡ true → is_set t k ≡ all_of t.is_open k
  unfolding is_set
  set_by_open e h = rw (← e, h)

pub empty_is_set : (t : Tree) → is_set t [] ≡ true
unfolding is_set ascends all_of
empty_is_set t = refl
