-- The first entry of a line that is no larger than a target.
use Rattle.std.specs.Prelude.{ℕ, ◌≤◌, ◌<◌, Option, Some, None}

-- of the indexes 0 to k, i is the first at which f is no larger than the target
pub record FirstAt (f : ℕ → ℕ) (k target i : ℕ) : Type 0 where
  pub bound : i ≤ k
  pub before : (j : ℕ) → j < i → target < f j
  pub here : f i ≤ target

-- the index is that one, or there is none
abbrev pub FirstNoLarger : (ℕ → ℕ) → ℕ → ℕ → Option ℕ → Type 0
FirstNoLarger f k target (Some i) = FirstAt f k target i
FirstNoLarger f k target None = (j : ℕ) → j ≤ k → target < f j
