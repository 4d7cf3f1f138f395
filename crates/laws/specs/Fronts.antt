-- Two lists that differ at most in their fronts.
use Rattle.std.specs.Prelude.{◌≡◌, List, ℕ, length, drop}

-- the new list is as long as the old one, and the same from index m on
pub record FrontOnly (m : ℕ) (old new : List ℕ) : Type 0 where
  pub long : length new ≡ length old
  pub rest : drop m new ≡ drop m old
