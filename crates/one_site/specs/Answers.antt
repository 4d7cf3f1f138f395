-- The call's answer in the model's words.
use Rattle.std.specs.Prelude.{Option, Some, None, Result}
use Rattle.model.specs.Calls.{Answer, Least, none, least_is}
use Rattle.units.specs.declared.Total.{Total}
use Rattle.tree_file.specs.declared.rules.Refusal.{Refusal}
use Rattle.tree_file.specs.Refusals.{answer_by}
use Rattle.one_site.specs.declared.Leasts.{Leasts}

-- a least total, or none
abbrev pub least_of : Option Total → Least
least_of (Some x) = least_is x.0
least_of None = none

-- the one with the node, and the one without it
abbrev pub both_of : Leasts → Least × Least
both_of found = (least_of found.with, least_is found.without.0)

abbrev pub leasts_of : Result Leasts Refusal → Answer (Least × Least)
leasts_of = answer_by both_of
