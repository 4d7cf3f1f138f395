-- Laws of the smallest index with the least value: of two functions that agree, and of a loop that goes up to it.
use mathlib.Core.Path.{◌≡◌, refl, ap, ◌∙◌}
use Prim.Native.Nat.{ℕ, zero, suc, ◌≤◌, ◌<◌}
use native.Mathlib.Decide.{dec_lt}
use native.Mathlib.Omega.{arith}
use Rattle.best_rows.specs.Least.{better, first_least}
use Rattle.best_rows.proofs.Least.{first_least_within, first_least_wins}

pub first_least_same : (f g : ℕ → ℕ) (n : ℕ) → ((i : ℕ) → i ≤ n → f i ≡ g i)
    → (first_least f n ≡ first_least g n) × (f (first_least f n) ≡ g (first_least g n))
unfolding first_least better
first_least_same f g zero h = (refl, h 0 (omega arith))
first_least_same f g (suc n) h =
    let last = first_least_same f g n (λ i k. h i (omega arith)) in
    let same : better f (first_least f n) (suc n) ≡ better g (first_least g n) (suc n) = rw (last.1, last.0, h (suc n) (omega arith)) in
    (same, ap f same ∙ h _ (first_least_within g (suc n)))

module _ (f : ℕ → ℕ) (n r : ℕ) (before : r ≤ first_least f n) where
  -- where the value is larger, the index is still to come
  pub first_least_after : f (first_least f n) < f r → r < first_least f n
  first_least_after h =
      elim (dec_lt r (first_least f n)) [
        | yes i ↦ i
        | no i ↦ let same : f r ≡ f (first_least f n) = ap f (omega arith) in absurd (omega arith)
      ]

  -- where it is not, this is the index
  pub first_least_here : f r ≤ f (first_least f n) → r ≡ first_least f n
  first_least_here h =
      let wins = first_least_wins f n r (omega (arith, first_least_within f n)) in
      let same : f (first_least f n) ≡ f r = omega (arith, wins.0) in
      omega (arith, wins.1 same)
