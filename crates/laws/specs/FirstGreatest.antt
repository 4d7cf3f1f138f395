-- The first number that has the greatest value, as a search upward from 1 holds it.
use Rattle.std.specs.Prelude.{◌≡◌, Bool, false, ℕ, ◌≤◌, ◌<◌}

-- of the numbers from 1 to v − 1 that are not skipped, best is the first with the greatest value of f, which is most; where
-- that is 0, so is best
pub record FirstGreatest (skipped : ℕ → Bool) (f : ℕ → ℕ) (v best most : ℕ) : Type 0 where
  pub below : best < v
  pub held : 0 < most → (1 ≤ best) × (skipped best ≡ false) × (f best ≡ most)
  pub idle : most ≡ 0 → best ≡ 0
  pub none_more : (u : ℕ) → 1 ≤ u → u < v → skipped u ≡ false → f u ≤ most
  pub earlier_less : (u : ℕ) → 1 ≤ u → u < best → skipped u ≡ false → f u < most
