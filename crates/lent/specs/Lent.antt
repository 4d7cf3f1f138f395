-- The questions that every call with lent scratch asks before the one about its buffers.
use Rattle.std.specs.Prelude.{List, ℕ, ◌≤◌, leb, length}
use Rattle.model.specs.Rules.{Verdict, ask, ◌then◌, file_verdict, scratch_words}
use Rattle.fields.specs.declared.Tree as code
use Rattle.tree_file.specs.Checks.{AcceptedSizes}

-- the rules about the file, then rule 13 of a scratch of so many words
unfoldable pub lent_verdict : List ℕ → ℕ → Verdict
lent_verdict file words = file_verdict file then ask 13 0 (leb (scratch_words file) words)

-- where they hold: an accepted file with its n, k and h, and a scratch with the words that rule 13 asks for
pub record LentRoom (file : List ℕ) (sizes : code.Tree) (s : List ℕ) : Type 0 where
  pub of_file : AcceptedSizes file sizes
  pub room : scratch_words file ≤ length s
