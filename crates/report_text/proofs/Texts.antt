-- The text of a report and of a refusal, as it is appended to memory of its own.
use mathlib.Core.Path.{◌≡◌, ap}
use mathlib.Core.List.{List, flat_map}
use Prim.Native.Nat.{ℕ, suc, ◌≤◌}
use native.Mathlib.Numerals.{add-one}
use native.Mathlib.Omega.{arith}
use lib.ListN.{length, take}
use Rattle.laws.specs.Lists.{range}
use Rattle.laws.proofs.Rows.{flat_same}
use Rattle.model.specs.File.{budget_of}
use Rattle.model.specs.Rules.{passed}
use Rattle.model.specs.Calls.{answered, refused, answer, plan_totals, plan_rows, greedy_totals}
use Rattle.model.specs.Report.{report_text, first_look, text_within, program_verdict, program_text, refusal_text}
use Rattle.model.proofs.Verdicts.{answered_passed, refused_broken}
use Rattle.model.proofs.Versions.{looked_whole}
use Rattle.model.proofs.Reported.{row_holds_plan, holds_plan_total, holds_greedy_total}
use Rattle.model.proofs.Written.{written_there, length_plan_totals, length_plan_rows, length_greedy_totals}
use Rattle.fields.specs.declared.Tree as code
use Rattle.tree_file.specs.Checks.{sizes_of}
use Rattle.program_report.specs.Memory.{report_of}
use Rattle.program_report.specs.declared.Report.{Report}
use Rattle.program_report.proofs.Rules.{program_accepted}
use Rattle.program_report.proofs.Memory.{limits}
use Rattle.text_bytes.proofs.Appended.{appended_text}
use Rattle.report_text.specs.Lines.{budget_line, AppendedWithin, ReportBuffers}

-- ---- a text by value

-- the front of memory of its own, after bytes were appended from its start on
pub appended_text_within : {room e : ℕ} {bytes old new : List ℕ} → AppendedWithin room 0 bytes old new e → room ≤ length old → take e new ≡ bytes
appended_text_within a h = appended_text a.appended (omega (arith, a.within, a.appended.ended))

-- ---- the report

module _ (file : List ℕ) where
  -- the program's memory holds a report of its budget
  pub memory_reported : program_verdict file ≡ passed → {k : ℕ} {r : Report} → k ≡ budget_of file → r ≡ report_of file
      → ReportBuffers k r.totals r.rows r.greedy_totals
  memory_reported ok budget held =
      let more = add-one (budget_of file) in
      rw (budget, held)
      (record {
        small = (limits file (program_accepted file ok).1).2;
        totals_long = rw more (written_there (plan_totals file) _ (length_plan_totals file));
        rows_long = rw more (written_there (plan_rows file) _ (length_plan_rows file));
        greedy_totals_long = rw more (written_there (greedy_totals file) _ (length_greedy_totals file));
      })

  -- and its lines are the report's text
  pub memory_lines : {k : ℕ} {r : Report} → k ≡ budget_of file → r ≡ report_of file
      → flat_map (budget_line k r.totals r.rows r.greedy_totals) (range 0 (suc k)) ≡ report_text file
  unfolding budget_line report_text
  memory_lines budget held =
      rw (budget, held)
      (flat_same _ _ 0 (suc (budget_of file))
      (λ b _ h. rw (row_holds_plan file _ b (omega arith), holds_plan_total file _ b (omega arith), holds_greedy_total file _ b (omega arith))))

-- ---- the text of an input, by the program's answer

module _ (input : List ℕ) where
  pub accepted_answer : {sizes : code.Tree} → answered sizes ≡ answer (program_verdict (take first_look input)) (sizes_of input)
      → (program_verdict input ≡ passed) × (sizes.budget ≡ budget_of input)
  accepted_answer e =
      let told = answered_passed (program_verdict (take first_look input)) (sizes_of input) e in
      (rw (looked_whole input told.0).0 at told.0, ap (λ x. x.budget) told.1)

  pub accepted_text : {sizes : code.Tree} → answered sizes ≡ answer (program_verdict (take first_look input)) (sizes_of input)
      → program_text input ≡ report_text input
  unfolding text_within
  accepted_text e =
      let told = answered_passed (program_verdict (take first_look input)) (sizes_of input) e in
      rw (told.0, (looked_whole input told.0).0)

  pub refused_text : {q i : ℕ} → refused q i ≡ answer (program_verdict (take first_look input)) (sizes_of input) → program_text input ≡ refusal_text q i
  unfolding text_within
  refused_text e = rw (refused_broken (program_verdict (take first_look input)) (sizes_of input) e)
