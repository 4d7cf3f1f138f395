-- The questions that the call asks, and what holds of the node and the budget once they have passed.
use Rattle.std.specs.Prelude.{◌≡◌, Bool, List, ℕ, ◌≤◌, ◌<◌, leb}
use Rattle.model.specs.File.{Tree, count_of, budget_of}
use Rattle.model.specs.Rules.{Verdict, ask, passed, ◌then◌, file_verdict, ask_node, scratch_words}
use Rattle.model.specs.WithOrWithout.{SetWhere}

-- the rules about the file, then rule 16, then rule 13 of a scratch of so many words
unfoldable pub site_verdict : List ℕ → ℕ → ℕ → ℕ → Verdict
site_verdict file v b words = file_verdict file then ask_node file v b then ask 13 0 (leb (scratch_words file) words)

-- a node and a budget of an accepted file, as rule 16 has them
pub record AskedSite (file : List ℕ) (v b : ℕ) : Type 0 where
  pub accepted : file_verdict file ≡ passed
  pub site : 1 ≤ v
  pub node : v < count_of file
  pub budget : b ≤ budget_of file

-- there is a set of at most b nodes that contains v (u is true), or one that doesn't (u is false)
abbrev pub SomeSet : Tree → ℕ → ℕ → Bool → Type 0
SomeSet t b v u = (k : List ℕ) × SetWhere t b v u k
