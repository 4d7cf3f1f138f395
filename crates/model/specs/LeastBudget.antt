-- 02, item 13, "From a target to a budget": the least budget whose plan total is no larger than a target; the call that finds it and
-- writes its set; and what holds of it, said without recursion and over all sets (`least_budget_said` in proofs/LeastBudget).
use Rattle.std.specs.Prelude.{◌≡◌, true, cond, List, [], ◌∷◌, ◌↔◌, ℕ, ◌≤◌, ◌<◌, leb, length}
use Rattle.model.specs.File.{Tree, Demand, tree_of, demand_of, budget_of}
use Rattle.model.specs.Rules.{Verdict, ◌then◌, file_verdict, is_set, scratch_words, ask_scratch, long_enough, ask_buffers}
use Rattle.model.specs.Bill.{total}
use Rattle.model.specs.Plan.{plan, plan_total}
use Rattle.model.specs.Calls.{Answer, answer, Least, none, least_is, after, ScratchAfter, budgets, plan_row}

-- ---- the least budget

-- of a list of budgets, the first whose plan total is no larger than the target
unfoldable pub first_within : Tree → Demand → ℕ → List ℕ → Least
first_within t d target [] = none
first_within t d target (b ∷ bs) = cond (leb (plan_total t d b) target) (least_is b) (first_within t d target bs)

-- "the least budget, at most k, whose plan total is no larger than the target", or "none"
unfoldable pub least_budget : List ℕ → ℕ → Least
least_budget file target = first_within (tree_of file) (demand_of file) target (budgets file)

-- ---- the call

-- what is lent to the call
pub record LeastBudgetMemory : Type 0 where
  pub scratch : List ℕ
  pub row : List ℕ

-- "Question 13 is asked as for the plan, then 14 for k entries": before the answer is known
unfoldable pub least_budget_verdict : List ℕ → LeastBudgetMemory → Verdict
least_budget_verdict file memory =
    file_verdict file then ask_scratch file memory.scratch then ask_buffers (long_enough (budget_of file) memory.row)

-- "with its set written as one row of the plan, or "none", which writes nothing"
abbrev pub row_written : List ℕ → Least → List ℕ
row_written file none = []
row_written file (least_is b) = plan_row file b

-- what the call guarantees for all arguments
pub record LeastBudgetCall (file : List ℕ) (target : ℕ) (memory : LeastBudgetMemory) (a : Answer Least) (memory' : LeastBudgetMemory) : Type 0 where
  pub answers : a ≡ answer (least_budget_verdict file memory) (least_budget file target)
  pub scratch_after : ScratchAfter (least_budget_verdict file memory) (scratch_words file) memory.scratch memory'.scratch
  pub row_after : memory'.row ≡ after (least_budget_verdict file memory) (row_written file (least_budget file target)) memory.row

-- ---- what holds of it

module _ (t : Tree) (d : Demand) (target : ℕ) where
  -- every set of at most b nodes costs more than the target
  abbrev pub AllCostMore : ℕ → Type 0
  AllCostMore b = (l : List ℕ) → is_set t l ≡ true → length l ≤ b → target < total t d l

  -- L is a set of at most b nodes that costs no more than the target
  pub record CheapEnough (b : ℕ) (l : List ℕ) : Type 0 where
    pub is_a_set : is_set t l ≡ true
    pub within : length l ≤ b
    pub cheap : total t d l ≤ target

-- of any file and target
pub record LeastBudgetSaid (file : List ℕ) (target : ℕ) : Type 0 where
  -- the first of the budgets 0 to k, and no other
  pub found : (b : ℕ) → least_budget file target ≡ least_is b
      ↔ ((b ≤ budget_of file)
      × (plan_total (tree_of file) (demand_of file) b ≤ target)
      × ((c : ℕ) → c < b → target < plan_total (tree_of file) (demand_of file) c))
  -- over all sets: one of at most b nodes costs no more than the target, and every one of fewer costs more
  pub found_over_sets : (b : ℕ) → least_budget file target ≡ least_is b
      ↔ ((b ≤ budget_of file)
      × ((l : List ℕ) × CheapEnough (tree_of file) (demand_of file) target b l)
      × ((c : ℕ) → c < b → AllCostMore (tree_of file) (demand_of file) target c))
  -- ""None" means that every set of at most k nodes costs more"
  pub none_over_sets : least_budget file target ≡ none ↔ AllCostMore (tree_of file) (demand_of file) target (budget_of file)
  -- the plan of the least budget has exactly so many nodes
  pub all_used : (b : ℕ) → least_budget file target ≡ least_is b → length (plan (tree_of file) (demand_of file) b) ≡ b
  -- a larger budget never costs more
  pub never_rise : (b c : ℕ) → b ≤ c → plan_total (tree_of file) (demand_of file) c ≤ plan_total (tree_of file) (demand_of file) b
