-- Laws of a loop's running minimum: values that are not below the first one may be left out, and the order does not matter.
use mathlib.Core.Path.{◌≡◌, refl, ap}
use Prim.Native.Nat.{ℕ, zero, suc, ◌+◌, ◌-◌, ◌≤◌, ◌<◌, min}
use native.Mathlib.Decide.{dec_le}
use native.Mathlib.Omega.{arith}
use Rattle.best_rows.specs.Least.{running_min}

module _ (top : ℕ) where
  pub running_min_within : (f : ℕ → ℕ) (n : ℕ) → running_min top f n ≤ top
  unfolding running_min
  running_min_within f zero = omega arith
  running_min_within f (suc n) = omega (arith, running_min_within f n)

  -- two functions that are the same below the top
  pub running_min_same : (f g : ℕ → ℕ) (n : ℕ) → ((i : ℕ) → i < n → min top (f i) ≡ min top (g i)) → running_min top f n ≡ running_min top g n
  unfolding running_min
  running_min_same f g zero h = refl
  running_min_same f g (suc n) h =
      omega (arith, running_min_same f g n (λ i l. h i (omega arith)), h n (omega arith), running_min_within f n, running_min_within g n)

  -- from a to b nothing comes below the top
  pub running_min_leaves_out : (f : ℕ → ℕ) (a b : ℕ) → a ≤ b → ((i : ℕ) → a ≤ i → i < b → top ≤ f i) → running_min top f a ≡ running_min top f b
  unfolding running_min
  running_min_leaves_out f a zero h over = let e : a ≡ 0 = omega arith in rw e
  running_min_leaves_out f a (suc b) h over =
      elim (dec_le a b) [
        | yes l ↦ omega (arith, running_min_leaves_out f a b l (λ i p q. over i p (omega arith)), over b l (omega arith), running_min_within f b)
        | no l ↦ let e : a ≡ suc b = omega arith in rw e
      ]

  -- it is the greatest number that is above none of them
  running_min_under : (f : ℕ → ℕ) (n i : ℕ) → i < n → running_min top f n ≤ f i
  unfolding running_min
  running_min_under f zero i h = absurd (omega arith)
  running_min_under f (suc n) i h =
      elim (dec_le n i) [
        | yes l ↦ let e : f i ≡ f n = ap f (omega arith) in omega arith
        | no l ↦ omega (arith, running_min_under f n i (omega arith))
      ]

  running_min_over : (f : ℕ → ℕ) (n x : ℕ) → x ≤ top → ((i : ℕ) → i < n → x ≤ f i) → x ≤ running_min top f n
  unfolding running_min
  running_min_over f zero x h k = h
  running_min_over f (suc n) x h k = omega (arith, running_min_over f n x h (λ i l. k i (omega arith)), k n (omega arith))

  -- two functions of which one is the other backwards
  pub running_min_reversed : (f g : ℕ → ℕ) (n : ℕ) → ((i : ℕ) → i ≤ n → f i ≡ g (n - i)) → running_min top f (n + 1) ≡ running_min top g (n + 1)
  running_min_reversed f g n h =
      omega (
        arith,
        running_min_over f (n + 1) (running_min top g (n + 1)) (running_min_within g (n + 1)) (λ i l. rw (h i (omega arith)) (running_min_under g (n + 1) (n - i) (omega arith))),
        running_min_over g (n + 1) (running_min top f (n + 1)) (running_min_within f (n + 1))
            (λ i l. let back : n - (n - i) ≡ i = omega arith in
            omega (arith, running_min_under f (n + 1) (n - i) (omega arith), rw back at (h (n - i) (omega arith)))),
      )
