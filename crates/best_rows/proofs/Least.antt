-- Laws of the smallest index with the least value: every other value is larger, or as large at a later index; and a loop's
-- running minimum is the value there.
use mathlib.Core.Path.{◌≡◌, refl, ap}
use mathlib.Core.Bool.{cond}
use Prim.Native.Nat.{ℕ, zero, suc, ◌≤◌, ◌<◌, min}
use native.Mathlib.Decide.{dec_le}
use native.Mathlib.Omega.{arith}
use lib.Dec.{ltb}
use borrow.Author.Tests.{ltb-true, ltb-false}
use Rattle.laws.specs.FirstLeast.{NoLaterBy}
use Rattle.laws.proofs.Bools.{by_test}
use Rattle.best_rows.specs.Least.{better, first_least, running_min}

-- a fact of the better of two is a fact of y where y is less, and of x where it is not
pub better_cases : {A : Type 0} (P : A → Type 0) (f : A → ℕ) (x y : A) → (f y < f x → P y) → (f x ≤ f y → P x) → P (better f x y)
unfolding better
better_cases P f x y less more =
    by_test (λ b. P (cond b y x)) (ltb (f y) (f x)) (λ e. less (ltb-true (f y) (f x) e)) (λ e. more (ltb-false (f y) (f x) e))

pub better_min : {A : Type 0} (f : A → ℕ) (x y : A) → f (better f x y) ≡ min (f x) (f y)
better_min f x y = better_cases (λ z. f z ≡ min (f x) (f y)) f x y (λ h. omega arith) (λ h. omega arith)

module _ (f : ℕ → ℕ) where
  pub first_least_within : (n : ℕ) → first_least f n ≤ n
  unfolding first_least
  first_least_within zero = omega arith
  first_least_within (suc n) =
      let earlier = first_least_within n in
      better_cases (λ i. i ≤ suc n) f _ _ (λ h. omega arith) (λ h. omega arith)

  pub first_least_wins : (n j : ℕ) → j ≤ n → NoLaterBy f (first_least f n) j
  unfolding first_least
  first_least_wins zero zero h = omega arith
  first_least_wins zero (suc j) h = omega arith
  first_least_wins (suc n) j h =
      elim (dec_le j n) [
        | yes i ↦
            let earlier = first_least_wins n j i in
            better_cases (λ i. NoLaterBy f i j) f _ _ (λ less. omega arith) (λ more. earlier)
        | no i ↦
            let e : f j ≡ f (suc n) = ap f (omega arith) in
            let earlier = first_least_within n in
            better_cases (λ i. NoLaterBy f i j) f _ _ (λ h. omega arith) (λ h. omega arith)
      ]

  -- an index whose value is smaller than each before it is the first with the least value
  pub first_least_self : (n : ℕ) → ((j : ℕ) → j < n → f n < f j) → first_least f n ≡ n
  unfolding first_least
  first_least_self zero smaller = refl
  first_least_self (suc n) smaller =
      let less = smaller (first_least f n) (omega (arith, first_least_within n)) in
      better_cases (λ i. i ≡ suc n) f (first_least f n) (suc n) (λ h. refl) (λ h. absurd (omega arith))

  -- a loop's running minimum is the least value of f, or top
  pub running_min_is : (top n : ℕ) → running_min top f (suc n) ≡ min top (f (first_least f n))
  unfolding running_min first_least
  running_min_is top zero = refl
  running_min_is top (suc n) =
      better_cases (λ i. min (running_min top f (suc n)) (f (suc n)) ≡ min top (f i)) f (first_least f n) (suc n)
      (λ h. omega (arith, running_min_is top n)) (λ h. omega (arith, running_min_is top n))
