-- Laws of how many of a list pass a test, and of the first that does.
use mathlib.Core.Path.{◌≡◌, refl}
use mathlib.Core.Bool.{Bool, true, false, cond, ◌||◌}
use mathlib.Core.List.{List, [], ◌∷◌, ◌++◌}
use mathlib.Core.Logic.{◌⊎◌, inl, inr}
use Prim.Native.Nat.{ℕ, ◌+◌, ◌≤◌}
use native.Mathlib.Omega.{arith}
use lib.ListN.{length}
use Rattle.laws.specs.Lists.{has, any_of, those, how_many, first_that, bit}
use Rattle.laws.proofs.Bools.{by_test}
use Rattle.laws.proofs.Lists.{has_head, has_tail}

pub length_those : (p : ℕ → Bool) (l : List ℕ) → length (those p l) ≡ how_many p l
unfolding those how_many
length_those p [] = refl
length_those p (x ∷ xs) =
    by_test (λ b. length (cond b (x ∷ those p xs) (those p xs)) ≡ cond b 1 0 + how_many p xs) (p x)
    (λ _. omega (arith, length_those p xs)) (λ _. omega (arith, length_those p xs))

pub bit_le : (b : Bool) → bit b ≤ 1
bit_le b = by_test (λ b. bit b ≤ 1) b (λ _. omega arith) (λ _. omega arith)

pub how_many_snoc : (p : ℕ → Bool) (l : List ℕ) (x : ℕ) → how_many p (l ++ (x ∷ [])) ≡ how_many p l + bit (p x)
unfolding how_many
how_many_snoc p [] x = omega arith
how_many_snoc p (y ∷ l) x = omega (arith, how_many_snoc p l x)

pub how_many_le : (p : ℕ → Bool) (l : List ℕ) → how_many p l ≤ length l
unfolding how_many
how_many_le p [] = omega arith
how_many_le p (y ∷ l) = omega (arith, bit_le (p y), how_many_le p l)

-- none passes a test that nothing passes
pub how_many_none : (l : List ℕ) → how_many (λ _. false) l ≡ 0
unfolding how_many
how_many_none [] = refl
how_many_none (x ∷ l) = omega (arith, how_many_none l)

-- of two tests that no number passes both
pub how_many_either : (p q : ℕ → Bool) (l : List ℕ) → ((x : ℕ) → p x ≡ true → q x ≡ false) → how_many (λ x. p x || q x) l ≡ how_many p l + how_many q l
unfolding how_many
how_many_either p q [] h = refl
how_many_either p q (x ∷ l) h =
    let one : bit (p x || q x) ≡ bit (p x) + bit (q x) =
    by_test (λ b. p x ≡ b → bit (b || q x) ≡ bit b + bit (q x)) (p x) (λ _ e. rw (h x e)) (λ _ _. omega arith) refl in
    omega (arith, one, how_many_either p q l h)

-- none of a list passes a test
pub any_none : (p : ℕ → Bool) (l : List ℕ) → ((x : ℕ) → has l x ≡ true → p x ≡ false) → any_of p l ≡ false
unfolding any_of
any_none p [] h = refl
any_none p (x ∷ l) h = rw (h x (has_head x l)) (any_none p l (λ y m. h y (has_tail x y l m)))

-- of two tests it does not matter which is asked first
pub how_many_those : (p q : ℕ → Bool) (l : List ℕ) → how_many p (those q l) ≡ how_many q (those p l)
unfolding those how_many
how_many_those p q [] = refl
how_many_those p q (x ∷ xs) =
    let ih = how_many_those p q xs in
    by_test (λ a. how_many p (cond a (x ∷ those q xs) (those q xs)) ≡ how_many q (cond (p x) (x ∷ those p xs) (those p xs))) (q x)
    (λ e. by_test (λ b. cond b 1 0 + how_many p (those q xs) ≡ how_many q (cond b (x ∷ those p xs) (those p xs))) (p x)
    (λ _. rw e (omega arith)) (λ _. omega arith))
    (λ e. by_test (λ b. how_many p (those q xs) ≡ how_many q (cond b (x ∷ those p xs) (those p xs))) (p x)
    (λ _. rw e (omega arith)) (λ _. ih))

-- the first that passes is the default, or one of the list that passes
pub first_that_cases : (p : ℕ → Bool) (d : ℕ) (l : List ℕ)
    → let x = first_that p d l in (x ≡ d) ⊎ ((has l x ≡ true) × (p x ≡ true))
unfolding first_that
first_that_cases p d [] = inl refl
first_that_cases p d (x ∷ xs) =
    by_test (λ b. let y = cond b x (first_that p d xs) in (y ≡ d) ⊎ ((has (x ∷ xs) y ≡ true) × (p y ≡ true))) (p x)
    (λ e. inr (has_head x xs, e))
    (λ _. elim (first_that_cases p d xs) [ inl e ↦ inl e | inr e ↦ inr (has_tail x _ xs e.0, e.1) ])
