-- The call, answer by answer: a refusal changes nothing.
use mathlib.Core.Path.{◌≡◌, refl, sym, ap, ◌∙◌}
use mathlib.Core.List.{List}
use Prim.Native.Nat.{ℕ, ◌≤◌}
use lib.Dec.{leb}
use lib.ListN.{length}
use borrow.Author.Tests.{leb-true}
use Rattle.std.specs.Result.{IsErrAnd}
use Rattle.std.proofs.lemmas.Result.{err_from_is_err_and}
use Rattle.std.specs.Prelude.{Option, Result}
use Rattle.laws.specs.Fronts.{FrontOnly}
use Rattle.model.specs.File.{budget_of}
use Rattle.model.specs.Rules.{passed, broken, ask, scratch_words, long_enough}
use Rattle.model.specs.Calls.{answered, refused, answer, Least, after}
use Rattle.model.specs.LeastBudget.{least_budget, row_written, LeastBudgetMemory, least_budget_verdict, LeastBudgetCall}
use Rattle.model.proofs.Verdicts.{ask_passed}
use Rattle.fields.specs.declared.Tree as code
use Rattle.tree_file.specs.declared.rules.Refusal.{Refusal}
use Rattle.tree_file.specs.Refusals.{rule_number, broken_by}
use Rattle.tree_file.specs.Checks.{sizes_of}
use Rattle.lent.specs.Lent.{lent_verdict}
use Rattle.lent.proofs.Asked.{lent_told, refused_before_buffers, buffers_decide}
use Rattle.least_budget.specs.Answers.{budget_or_none, budget_found}

module _ (file : List ℕ) (target : ℕ) (memory : LeastBudgetMemory) where
  -- a refusal changes nothing
  refused_whole : {q i : ℕ} → broken q i ≡ least_budget_verdict file memory → LeastBudgetCall file target memory (refused q i) memory
  refused_whole e = record { answers = rw (← e) refl; scratch_after = rw (← e) refl; row_after = rw (← e) }

  -- the rules before rule 14 refuse
  pub target_refused : (r : Result (Option ℕ) Refusal) (e : Refusal) → IsErrAnd r (λ y. y ≡ e)
      → refused (rule_number e.rule) e.record ≡ answer (lent_verdict file (length memory.scratch)) (sizes_of file)
      → LeastBudgetCall file target memory (budget_found r) memory
  unfolding least_budget_verdict
  target_refused r e h k = let p = err_from_is_err_and r h in
      rw (p.1, p.2) (refused_whole (refused_before_buffers file memory.scratch (long_enough (budget_of file) memory.row) k))

  module _ {sizes : code.Tree} (e : answered sizes ≡ answer (lent_verdict file (length memory.scratch)) (sizes_of file)) where
    -- then rule 14 decides, with the sizes found
    row_decides : ask 14 0 (leb sizes.budget (length memory.row)) ≡ least_budget_verdict file memory
    unfolding least_budget_verdict
    row_decides = buffers_decide file memory.scratch _ e (rw (lent_told file e).2)

    pub row_refused : (x : Refusal) → broken_by x ≡ ask 14 0 (leb sizes.budget (length memory.row))
        → LeastBudgetCall file target memory (refused (rule_number x.rule) x.record) memory
    row_refused x k = refused_whole (k ∙ row_decides)

    module _ (h : passed ≡ ask 14 0 (leb sizes.budget (length memory.row))) where
      pub target_long : budget_of file ≤ length memory.row
      target_long = rw (lent_told file e).2 at (leb-true sizes.budget (length memory.row) (ask_passed 14 0 _ (sym h)))

      all_passed : least_budget_verdict file memory ≡ passed
      all_passed = sym (h ∙ row_decides)

      -- all rules hold
      pub target_answered : {m : Least} {memory' : LeastBudgetMemory} → m ≡ least_budget file target
          → FrontOnly (scratch_words file) memory.scratch memory'.scratch
          → memory'.row ≡ after passed (row_written file (least_budget file target)) memory.row
          → LeastBudgetCall file target memory (answered m) memory'
      target_answered f s r = record { answers = rw all_passed (ap answered f); scratch_after = rw all_passed (s.long, s.rest); row_after = rw all_passed r }
