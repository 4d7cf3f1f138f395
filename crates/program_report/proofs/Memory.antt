-- Within the limits of rule 15 the program's own memory passes rules 13 and 14.
use mathlib.Core.Path.{◌≡◌, refl, ap, ◌∙◌}
use mathlib.Core.Bool.{true, ◌&&◌}
use mathlib.Core.List.{List}
use Prim.Native.Nat.{ℕ, suc, ◌*◌, ◌≤◌}
use native.Mathlib.Nat.{mul-le-mul}
use native.Mathlib.Omega.{arith}
use lib.Dec.{leb}
use lib.ListN.{length}
use borrow.Author.Tests.{leb-true, le-leb}
use Rattle.std.specs.Prelude.{Result, Ok, Err, ⊤, IsOk}
use Rattle.laws.proofs.Bools.{both}
use Rattle.model.specs.File.{tree_of, count_of, budget_of}
use Rattle.model.specs.Tree.{height}
use Rattle.model.specs.Rules.{Verdict, passed, is_passed, file_verdict, accepted, scratch_words}
use Rattle.model.specs.Calls.{after, plan_totals, plan_rows, greedy_totals}
use Rattle.model.specs.Report.{program_nodes, program_height, program_budget, is_small, ReportMemory, report_verdict, ReportCall}
use Rattle.model.proofs.Words.{words_within}
use Rattle.model.proofs.Reported.{report_passes_lem}
use Rattle.model.proofs.Verdicts.{broken≢passed}
use Rattle.tree_file.specs.declared.rules.Refusal.{Refusal}
use Rattle.tree_file.specs.Refusals.{verdict_of}
use Rattle.program_report.specs.Memory.{program_scratch}
use Rattle.program_report.specs.declared.Report.{Report}

module _ (file : List ℕ) (small : is_small file ≡ true) where
  pub limits : (count_of file ≤ program_nodes) × (height (tree_of file) ≤ program_height) × (budget_of file ≤ program_budget)
  limits =
      let few = leb (count_of file) program_nodes in
      let low = leb (height (tree_of file)) program_height in
      let parts = both (few && low) (leb (budget_of file) program_budget) small in
      let shape = both few low parts.0 in
      (leb-true _ _ shape.0, leb-true _ _ shape.1, leb-true _ _ parts.1)

  enough_words : scratch_words file ≤ program_scratch
  enough_words =
      let n = limits.0 in
      omega (arith, words_within file {m = program_nodes} {h = program_height} {k = program_budget} (omega arith) limits.1 limits.2)

  rows_within : suc (budget_of file) * budget_of file ≤ suc program_budget * program_budget
  rows_within =
      let k = limits.2 in
      let s : suc (budget_of file) ≤ suc program_budget = omega arith in
      mul-le-mul s k

  pub memory_enough : (memory : ReportMemory) → file_verdict file ≡ passed
      → length memory.scratch ≡ program_scratch
      → length memory.plan_totals ≡ suc program_budget
      → length memory.plan_rows ≡ suc program_budget * program_budget
      → length memory.greedy_totals ≡ suc program_budget
      → length memory.greedy_nodes ≡ program_budget
      → report_verdict file memory ≡ passed
  unfolding accepted
  memory_enough memory ok s t r g n =
      let k = limits.2 in
      (report_passes_lem file memory).1 (
        ap is_passed ok,
        rw s (le-leb _ _ enough_words),
        rw (t, r, g, n, le-leb (suc (budget_of file)) (suc program_budget) (omega arith), le-leb _ _ rows_within, le-leb (budget_of file) program_budget k),
      )

-- ---- the report that it holds

module _ (file : List ℕ) {memory memory' : ReportMemory} {v : Verdict} (call : ReportCall file memory v memory')
    (passes : report_verdict file memory ≡ passed) where
  pub written : ◌≡◌ {A = Report}
      (record { totals = memory'.plan_totals; rows = memory'.plan_rows; greedy_totals = memory'.greedy_totals })
      (record {
        totals = after passed (plan_totals file) memory.plan_totals;
        rows = after passed (plan_rows file) memory.plan_rows;
        greedy_totals = after passed (greedy_totals file) memory.greedy_totals;
      })
  written =
      let e = call.verdict ∙ passes in
      λ i.
      record {
        totals = (call.plan_totals_after ∙ ap (λ u. after u (plan_totals file) memory.plan_totals) e) i;
        rows = (call.plan_rows_after ∙ ap (λ u. after u (plan_rows file) memory.plan_rows) e) i;
        greedy_totals = (call.greedy_totals_after ∙ ap (λ u. after u (greedy_totals file) memory.greedy_totals) e) i;
      }

-- a ruling that passes is no refusal
pub is_unrefused : (r : Result ⊤ Refusal) → verdict_of r ≡ passed → IsOk r
is_unrefused (Ok x) e = refl
is_unrefused (Err d) e = absurd (broken≢passed e)
