-- The report call, answer by answer: a refusal writes nothing, and what is written meets demand 3.
use mathlib.Core.Path.{◌≡◌, refl}
use mathlib.Core.Bool.{Bool, true, ◌&&◌}
use mathlib.Core.List.{List}
use Prim.Native.Nat.{ℕ, suc, ◌*◌}
use lib.Dec.{leb}
use lib.ListN.{length}
use lib.Seq.{sets}
use Rattle.laws.specs.Fronts.{FrontOnly}
use Rattle.laws.proofs.Bools.{both}
use Rattle.laws.proofs.Fronts.{front_only_then, front_only_wider}
use Rattle.model.specs.Rules.{passed, broken, ask, scratch_words}
use Rattle.model.specs.Calls.{answered, refused, answer, plan_totals, plan_rows, PlanMemory, GreedyMemory}
use Rattle.model.specs.Report.{ReportMemory, report_buffers_long, report_verdict, ReportCall}
use Rattle.model.proofs.Verdicts.{broken≢passed}
use Rattle.model.proofs.Reported.{report_meets_demand}
use Rattle.fields.specs.declared.Tree as code
use Rattle.std.specs.Prelude.{Result, ⊤}
use Rattle.std.specs.Result.{IsErrAnd}
use Rattle.tree_file.specs.declared.rules.Refusal.{Refusal}
use Rattle.tree_file.specs.Refusals.{broken_by, verdict_of}
use Rattle.tree_file.specs.Checks.{sizes_of}
use Rattle.tree_file.proofs.Rulings.{refused_as}
use Rattle.lent.specs.Lent.{lent_verdict}
use Rattle.lent.proofs.Asked.{lent_told, lent_room_lem, refused_before_buffers, buffers_decide}
use Rattle.optimum.proofs.Answers.{plan_long_lem, totals_after_lem, rows_after_lem}
use Rattle.greedy.specs.Run.{GreedyWritten}
use Rattle.greedy.proofs.Answers.{nodes_fit, greedy_room_lem}
use Rattle.report.specs.Written.{ReportRoom, ReportWritten}

-- ---- both answers

pub both_written : {file : List ℕ} {sizes : code.Tree} {memory memory' : ReportMemory} {mid : List ℕ}
    → ReportRoom file sizes memory → FrontOnly (scratch_words file) memory.scratch mid
    → memory'.plan_totals ≡ sets memory.plan_totals 0 (plan_totals file) → memory'.plan_rows ≡ sets memory.plan_rows 0 (plan_rows file)
    → GreedyWritten file sizes.nodes mid memory.greedy_totals memory.greedy_nodes memory'.scratch memory'.greedy_totals memory'.greedy_nodes
    → ReportWritten file memory memory'
both_written {file} {sizes} l f t r ran =
    let count : sizes.nodes ≡ _ = l.for_greedy.room.count in
    record {
      front = front_only_then (scratch_words file) f (front_only_wider (rw count (nodes_fit file)) ran.front);
      plan_totals_after = totals_after_lem l.plan_long t;
      plan_rows_after = rows_after_lem l.plan_long r;
      greedy_totals_after = ran.totals_after;
      greedy_nodes_after = ran.nodes_after;
    }

-- ---- each answer

module _ (file : List ℕ) (memory : ReportMemory) where
  -- a refusal changes nothing
  refused_whole : {q i : ℕ} → broken q i ≡ report_verdict file memory → ReportCall file memory (broken q i) memory
  refused_whole e =
      record {
        verdict = e;
        scratch_after = refl;
        plan_totals_after = refl;
        plan_rows_after = refl;
        greedy_totals_after = refl;
        greedy_nodes_after = refl;
        demand_three = λ passes. absurd (broken≢passed passes);
      }

  pub report_refused : (r : Result ⊤ Refusal) (e : Refusal) → IsErrAnd r (λ y. y ≡ e) → broken_by e ≡ report_verdict file memory
      → ReportCall file memory (verdict_of r) memory
  report_refused r e h k = rw (refused_as r e h refl) (refused_whole k)

  -- the rules before rule 14 refuse
  pub report_refused_lem : {q i : ℕ} → refused q i ≡ answer (lent_verdict file (length memory.scratch)) (sizes_of file)
      → ReportCall file memory (broken q i) memory
  unfolding report_verdict
  report_refused_lem e = refused_whole (refused_before_buffers file memory.scratch (report_buffers_long file memory) e)

  pub report_before_buffers : {q i : ℕ} → refused q i ≡ answer (lent_verdict file (length memory.scratch)) (sizes_of file) → broken q i ≡ report_verdict file memory
  report_before_buffers e = (report_refused_lem e).verdict

  module _ {sizes : code.Tree} (e : answered sizes ≡ answer (lent_verdict file (length memory.scratch)) (sizes_of file)) where
    -- rule 14, as it is asked with the sizes found
    abbrev plan_fits : Bool
    plan_fits =
        leb (suc sizes.budget) (length memory.plan_totals) && leb (suc sizes.budget * sizes.budget) (length memory.plan_rows)

    abbrev greedy_fits : Bool
    greedy_fits = leb (suc sizes.budget) (length memory.greedy_totals) && leb sizes.budget (length memory.greedy_nodes)

    long_is : {b : Bool} → (plan_fits && greedy_fits) ≡ b → report_buffers_long file memory ≡ b
    long_is h = rw (lent_told file e).2 at h

    pub report_asks_buffers : ask 14 0 (plan_fits && greedy_fits) ≡ report_verdict file memory
    unfolding report_verdict
    report_asks_buffers = buffers_decide file memory.scratch _ e (long_is refl)

    module _ (h : (plan_fits && greedy_fits) ≡ true) where
      pub report_lent : ReportRoom file sizes memory
      report_lent =
          let fit = both plan_fits greedy_fits h in
          let for_plan : PlanMemory = record { scratch = memory.scratch; totals = memory.plan_totals; rows = memory.plan_rows } in
          let for_greedy : GreedyMemory = record { scratch = memory.scratch; totals = memory.greedy_totals; nodes = memory.greedy_nodes } in
          record {
            for_plan = lent_room_lem file memory.scratch e;
            plan_long = plan_long_lem file for_plan e fit.0;
            for_greedy = greedy_room_lem file for_greedy e fit.1;
          }

      -- all rules hold
      pub report_written : {memory' : ReportMemory} → ReportWritten file memory memory' → ReportCall file memory passed memory'
      unfolding report_verdict
      report_written {memory'} w =
          record {
            verdict = buffers_decide file memory.scratch _ e (long_is h);
            scratch_after = (w.front.long, w.front.rest);
            plan_totals_after = w.plan_totals_after;
            plan_rows_after = w.plan_rows_after;
            greedy_totals_after = w.greedy_totals_after;
            greedy_nodes_after = w.greedy_nodes_after;
            demand_three = λ _.
                report_meets_demand file (lent_told file e).0 memory memory' w.plan_totals_after w.plan_rows_after w.greedy_totals_after;
          }
