-- What calls ask, and in which order. The bill and the ranking: the rules about the file, then 12, and the bill 14. The plan, the greedy
-- rule, the report and the call from a target to a budget: the rules about the file, then 13, then 14.
use mathlib.Core.Path.{◌≡◌, refl}
use mathlib.Core.Bool.{Bool, true, false, ◌&&◌}
use mathlib.Core.List.{List}
use mathlib.Core.Logic.{◌↔◌}
use Prim.Native.Nat.{ℕ, ◌≤◌}
use lib.ListN.{length}
use borrow.Author.Tests.{leb-true, le-leb, lt-leb}
use Rattle.laws.proofs.Bools.{both, cannot_hold}
use Rattle.model.specs.File.{tree_of, budget_of}
use Rattle.model.specs.Rules.{Verdict, passed, ask, ◌then◌, file_verdict, is_set, scratch_words, ask_scratch, long_enough, ask_buffers}
use Rattle.model.specs.Calls.{BillMemory, bill_verdict, bill_buffers_long, rank_verdict, plan_buffers_long, PlanMemory, plan_verdict, greedy_buffers_long, GreedyMemory, greedy_verdict}
use Rattle.model.specs.LeastBudget.{LeastBudgetMemory, least_budget_verdict}
use Rattle.model.specs.Report.{ReportMemory, report_buffers_long, report_verdict}
use Rattle.model.specs.Hosts.{HostBillMemory, host_bill_verdict, HostLeastBudgetMemory, host_least_budget_verdict}
use Rattle.model.specs.CallLaws.{SetsAsked, AskedInOrder}
use Rattle.model.proofs.Verdicts.{ask_passed, then_passed}

-- the first "no" of the rules about the file, 12 and the rest
sets_asked : {Sets : Type 0} (file : List ℕ) (sets : Bool) (rest : Verdict) → (sets ≡ true ↔ Sets)
    → SetsAsked file Sets rest (file_verdict file then ask 12 0 sets then rest)
sets_asked file sets rest said =
    record {
      file_first = λ q i e. rw e refl;
      sets_next = λ e n. rw (e, cannot_hold sets said.0 n) refl;
      rest_last = λ e h. rw (e, said.1 h) refl;
      passes = (
        λ h.
            let first = then_passed (file_verdict file) _ h in
            let second = then_passed (ask 12 0 sets) rest first.1 in
            (first.0, said.0 (ask_passed 12 0 sets second.0), second.1),
        λ h. rw (h.0, said.1 h.1) h.2,
      );
    }

-- 12 of two sets is 12 of both
both_asked : (a b : Bool) → (ask 12 0 a then ask 12 0 b) ≡ (ask 12 0 (a && b) then passed)
both_asked true true = refl
both_asked true false = refl
both_asked false b = refl

-- the rules about the file, then 13, then 14
lent_passes : (file scratch : List ℕ) (long : Bool) → (file_verdict file then ask_scratch file scratch then ask_buffers long) ≡ passed
    ↔ ((file_verdict file ≡ passed) × (scratch_words file ≤ length scratch) × (long ≡ true))
lent_passes file scratch long = (
  λ h.
      let first = then_passed (file_verdict file) _ h in
      let second = then_passed (ask_scratch file scratch) (ask_buffers long) first.1 in
      (first.0, leb-true _ _ (ask_passed 13 0 _ second.0), ask_passed 14 0 long second.1),
  λ h. rw (h.0, le-leb (scratch_words file) (length scratch) h.1, h.2) refl,
)

-- the first "no" of them
asked_in_order : {Long : Type 0} (file scratch : List ℕ) (long : Bool) → (long ≡ true ↔ Long)
    → AskedInOrder file scratch Long (file_verdict file then ask_scratch file scratch then ask_buffers long)
asked_in_order file scratch long said =
    let asked = lent_passes file scratch long in
    record {
      file_first = λ q i e. rw e refl;
      scratch_next = λ e s. rw (e, lt-leb (scratch_words file) (length scratch) s) refl;
      buffers_last = λ e s n. rw (e, le-leb (scratch_words file) (length scratch) s, cannot_hold long said.0 n) refl;
      passes = (
        λ h. let p = asked.0 h in (p.0, p.1, said.0 p.2),
        λ h. asked.1 (h.0, h.1, said.1 h.2),
      );
    }

-- where `Long` is the test of the buffers itself
asked_by_test : (file scratch : List ℕ) (long : Bool)
    → AskedInOrder file scratch (long ≡ true) (file_verdict file then ask_scratch file scratch then ask_buffers long)
asked_by_test file scratch long = asked_in_order file scratch long (λ h. h, λ h. h)

-- ---- the calls

module _ (file : List ℕ) where
  pub bill_asked_lem : (set : List ℕ) (memory : BillMemory)
      → SetsAsked file (is_set (tree_of file) set ≡ true) (ask 14 0 (bill_buffers_long file memory.servings memory.loads)) (bill_verdict file set memory)
  unfolding bill_verdict
  bill_asked_lem set memory = sets_asked file (is_set (tree_of file) set) _ (λ h. h, λ h. h)

  pub host_bill_asked_lem : (set : List ℕ) (memory : HostBillMemory)
      → SetsAsked file (is_set (tree_of file) set ≡ true)
      (ask 14 0 (long_enough 1 memory.totals && bill_buffers_long file memory.servings memory.loads))
      (host_bill_verdict file set memory)
  unfolding host_bill_verdict
  host_bill_asked_lem set memory = sets_asked file (is_set (tree_of file) set) _ (λ h. h, λ h. h)

  pub rank_asked_lem : (k l : List ℕ) → SetsAsked file ((is_set (tree_of file) k ≡ true) × (is_set (tree_of file) l ≡ true)) passed (rank_verdict file k l)
  unfolding rank_verdict
  rank_asked_lem k l =
      let first = is_set (tree_of file) k in
      let second = is_set (tree_of file) l in
      rw (both_asked first second) (sets_asked file (first && second) passed (both first second, λ h. rw (h.0, h.1) refl))

  pub plan_asked_lem : (memory : PlanMemory)
      → AskedInOrder file memory.scratch (plan_buffers_long file memory.totals memory.rows ≡ true) (plan_verdict file memory)
  unfolding plan_verdict
  plan_asked_lem memory = asked_by_test file memory.scratch (plan_buffers_long file memory.totals memory.rows)

  pub greedy_asked_lem : (memory : GreedyMemory)
      → AskedInOrder file memory.scratch (greedy_buffers_long file memory.totals memory.nodes ≡ true) (greedy_verdict file memory)
  unfolding greedy_verdict
  greedy_asked_lem memory = asked_by_test file memory.scratch (greedy_buffers_long file memory.totals memory.nodes)

  pub report_asked_lem : (memory : ReportMemory) → AskedInOrder file memory.scratch (report_buffers_long file memory ≡ true) (report_verdict file memory)
  unfolding report_verdict
  report_asked_lem memory = asked_by_test file memory.scratch (report_buffers_long file memory)

  pub least_budget_asked_lem : (memory : LeastBudgetMemory)
      → AskedInOrder file memory.scratch (budget_of file ≤ length memory.row) (least_budget_verdict file memory)
  unfolding least_budget_verdict
  least_budget_asked_lem memory =
      let rows = long_enough (budget_of file) memory.row in
      asked_in_order file memory.scratch rows (leb-true _ _, le-leb _ _)

  pub host_least_budget_asked_lem : (memory : HostLeastBudgetMemory)
      → AskedInOrder file memory.scratch ((1 ≤ length memory.budget) × (budget_of file ≤ length memory.row)) (host_least_budget_verdict file memory)
  unfolding host_least_budget_verdict
  host_least_budget_asked_lem memory =
      let one = long_enough 1 memory.budget in
      let rows = long_enough (budget_of file) memory.row in
      let said : (one && rows) ≡ true → (1 ≤ length memory.budget) × (budget_of file ≤ length memory.row) =
      λ h. let p = both one rows h in (leb-true _ _ p.0, leb-true _ _ p.1) in
      asked_in_order file memory.scratch (one && rows)
      (said, λ h. rw (le-leb 1 (length memory.budget) h.0, le-leb (budget_of file) (length memory.row) h.1) refl)
