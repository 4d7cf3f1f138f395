-- The smallest number at which a function is least: of two numbers, and of a list.
use Rattle.std.specs.Prelude.{◌≡◌, true, List, ℕ, ◌≤◌}
use Rattle.laws.specs.Lists.{has}

module _ (f : ℕ → ℕ) where
  -- by f, i comes no later than j: f is less at i, or as small and i is no larger
  abbrev pub NoLaterBy : ℕ → ℕ → Type 0
  NoLaterBy i j = (f i ≤ f j) × (f i ≡ f j → i ≤ j)

  -- of the numbers of a list, v is the smallest at which f is least
  pub record FirstLeast (l : List ℕ) (v : ℕ) : Type 0 where
    pub member : has l v ≡ true
    pub no_later : (u : ℕ) → has l u ≡ true → NoLaterBy v u
