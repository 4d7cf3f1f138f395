-- The bill call's answer in the model's words, and what it writes where no rule is broken.
use Rattle.std.specs.Prelude.{◌≡◌, List, ℕ, Result}
use Rattle.std.proofs.lemmas.List.Edits.{sets}
use Rattle.model.specs.File.{tree_of, demand_of}
use Rattle.model.specs.Bill.{total}
use Rattle.model.specs.Calls.{Answer, serving_nodes, link_loads}
use Rattle.units.specs.declared.Total.{Total}
use Rattle.tree_file.specs.declared.rules.Refusal.{Refusal}
use Rattle.tree_file.specs.Refusals.{answer_by}

-- the total, or the refusal
abbrev pub bill_answer : Result Total Refusal → Answer ℕ
bill_answer = answer_by (λ sum. sum.0)

pub record BillWritten (file k servings loads : List ℕ) (x : ℕ) (servings' loads' : List ℕ) : Type 0 where
  pub total_is : x ≡ total (tree_of file) (demand_of file) k
  pub servings_are : servings' ≡ sets servings 0 (serving_nodes file k)
  pub loads_are : loads' ≡ sets loads 0 (link_loads file k)
