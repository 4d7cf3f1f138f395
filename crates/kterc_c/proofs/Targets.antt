-- The call of a host from a target to a budget, answer by answer.
use mathlib.Core.Path.{◌≡◌, refl, ap, ◌∙◌}
use mathlib.Core.Bool.{Bool, ◌&&◌}
use mathlib.Core.List.{List, [], ◌∷◌}
use Prim.Native.Nat.{ℕ, ◌≤◌, ◌<◌}
use lib.ListN.{length, set}
use borrow.Author.Tests.{le-leb, lt-leb}
use Rattle.laws.proofs.Stores.{sets_front}
use Rattle.model.specs.File.{budget_of}
use Rattle.model.specs.Rules.{Verdict, passed, broken, ◌then◌, long_enough, ask_buffers}
use Rattle.model.specs.Calls.{answered, refused, Least, none, least_is, after}
use Rattle.model.specs.LeastBudget.{LeastBudgetMemory, least_budget_verdict, LeastBudgetCall}
use Rattle.model.specs.Hosts.{code_of, none_code, least_budget_code, budget_written, HostLeastBudgetMemory, host_least_budget_verdict, HostLeastBudgetCall}
use Rattle.model.proofs.Verdicts.{answered_passed, refused_broken}
use Rattle.lent.specs.Lent.{lent_verdict}
use Rattle.lent.proofs.Asked.{rules_grouped}
use Rattle.kterc_c.proofs.Room.{ends_refused}

module _ (file : List ℕ) (target : ℕ) (memory : HostLeastBudgetMemory) where
  -- what rule 14 asks
  abbrev both_long : Bool
  both_long = long_enough 1 memory.budget && long_enough (budget_of file) memory.row

  questions : host_least_budget_verdict file memory ≡ (lent_verdict file (length memory.scratch) then ask_buffers both_long)
  unfolding host_least_budget_verdict
  questions = rules_grouped file memory.scratch both_long

  -- no room for the budget
  pub budget_no_room : {v : Verdict} {code : ℕ} → v ≡ (lent_verdict file (length memory.scratch) then broken 14 0) → code ≡ code_of v
      → length memory.budget < 1 → HostLeastBudgetCall file target memory code memory
  budget_no_room e f h =
      let end = ends_refused (lent_verdict file (length memory.scratch)) 14 0 in
      let verdict = rw (lt-leb 1 (length memory.budget) h) at questions ∙ end.2 in
      record {
        answers = rw verdict (f ∙ ap code_of (e ∙ end.2));
        scratch_after = rw verdict refl;
        budget_after = rw verdict;
        row_after = rw verdict;
      }

  -- what the call is lent
  abbrev buffers : LeastBudgetMemory
  buffers = record { scratch = memory.scratch; row = memory.row }

  module _ (room : 1 ≤ length memory.budget) where
    -- with room for the budget the questions are those of the call without it
    same_questions : host_least_budget_verdict file memory ≡ least_budget_verdict file buffers
    unfolding host_least_budget_verdict least_budget_verdict
    same_questions = rw (le-leb 1 (length memory.budget) room)

    pub budget_refused : {q i code : ℕ} {left : LeastBudgetMemory} → LeastBudgetCall file target buffers (refused q i) left → code ≡ code_of (broken q i)
        → HostLeastBudgetCall file target memory code record { scratch = left.scratch; budget = memory.budget; row = left.row }
    budget_refused call e =
        let told = same_questions ∙ refused_broken (least_budget_verdict file buffers) _ call.answers in
        record {
          answers = rw told e;
          scratch_after = rw same_questions call.scratch_after;
          budget_after = rw told;
          row_after = rw same_questions call.row_after;
        }

    budget_answered : (m : Least) {left : LeastBudgetMemory} {budget : List ℕ} → LeastBudgetCall file target buffers (answered m) left
        → budget ≡ after passed (budget_written m) memory.budget
        → HostLeastBudgetCall file target memory (least_budget_code (answered m)) record { scratch = left.scratch; budget = budget; row = left.row }
    budget_answered m call written =
        let told = answered_passed (least_budget_verdict file buffers) _ call.answers in
        record {
          answers = rw same_questions (ap least_budget_code call.answers);
          scratch_after = rw same_questions call.scratch_after;
          budget_after = rw (same_questions ∙ told.0) (rw told.1 at written);
          row_after = rw same_questions call.row_after;
        }

    pub budget_found_lem : {b : ℕ} {left : LeastBudgetMemory} → LeastBudgetCall file target buffers (answered (least_is b)) left
        → HostLeastBudgetCall file target memory 0 record { scratch = left.scratch; budget = set memory.budget 0 b; row = left.row }
    budget_found_lem {b} call = budget_answered (least_is b) call (sets_front memory.budget (b ∷ []) room)

    -- none writes nothing
    pub none_found_lem : {left : LeastBudgetMemory} → LeastBudgetCall file target buffers (answered none) left
        → HostLeastBudgetCall file target memory none_code record { scratch = left.scratch; budget = memory.budget; row = left.row }
    none_found_lem call = budget_answered none call refl
