-- The call's answer in the model's words.
use Rattle.std.specs.Prelude.{ℕ, Option, Some, None, Result}
use Rattle.model.specs.Calls.{Answer, Least, none, least_is}
use Rattle.tree_file.specs.declared.rules.Refusal.{Refusal}
use Rattle.tree_file.specs.Refusals.{answer_by}

-- a least budget, or none
abbrev pub budget_or_none : Option ℕ → Least
budget_or_none (Some b) = least_is b
budget_or_none None = none

abbrev pub budget_found : Result (Option ℕ) Refusal → Answer Least
budget_found = answer_by budget_or_none
