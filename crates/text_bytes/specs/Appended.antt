-- What appending to a text leaves.
use Rattle.std.specs.Prelude.{◌≡◌, List, ℕ, ◌+◌, length}
use Rattle.std.proofs.lemmas.List.Edits.{sets}

-- bytes were appended to a text that ended at `at`; it ends at `end` now
pub record Appended (at : ℕ) (bytes old new : List ℕ) (end : ℕ) : Type 0 where
  pub stored : new ≡ sets old at bytes
  pub ended : end ≡ at + length bytes
