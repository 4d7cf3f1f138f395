-- The call from a target to a budget, whatever it answers, and what a host is told.
use mathlib.Core.Path.{◌≡◌, refl, sym, ◌∙◌}
use mathlib.Core.List.{List}
use mathlib.Core.Logic.{◌↔◌, inl, inr}
use Prim.Native.Nat.{ℕ, ◌+◌, ◌*◌, ◌≤◌}
use native.Mathlib.Omega.{arith}
use lib.Seq.{take_at}
use lib.ListN.{length, drop, get_or}
use Rattle.model.specs.File.{tree_of, demand_of, budget_of}
use Rattle.model.specs.Rules.{Verdict, passed, broken}
use Rattle.model.specs.Calls.{Answer, answered, refused, Least, none, least_is, after, plan_row}
use Rattle.model.specs.LeastBudget.{least_budget, row_written, LeastBudgetMemory, least_budget_verdict, LeastBudgetCall, AllCostMore}
use Rattle.model.specs.Hosts.{code_unit, budget_written, HostLeastBudgetMemory, host_least_budget_verdict, HostLeastBudgetCall}
use Rattle.model.specs.CallLaws.{HoldsLeast, TargetTold}
use Rattle.model.proofs.Verdicts.{answered_passed, refused_broken, broken≢passed}
use Rattle.model.proofs.Plans.{plan_ranks_first}
use Rattle.model.proofs.Written.{length_plan_row, entry_stays, length_after}
use Rattle.model.proofs.Reported.{one_row_holds_plan}
use Rattle.model.proofs.Asked.{least_budget_asked_lem, host_least_budget_asked_lem}
use Rattle.model.proofs.Codes.{Numbered, numbered_within, code_reads, least_budget_numbered}
use Rattle.model.proofs.LeastBudget.{least_budget_said}

module _ (file : List ℕ) where
  -- ---- what is left in the row

  holds_least : (target b : ℕ) (old : List ℕ) → budget_of file ≤ length old → least_budget file target ≡ least_is b
      → HoldsLeast file target b old (after passed (row_written file (least_is b)) old)
  holds_least target b old long e =
      let said = least_budget_said file target in
      let over = (said.found_over_sets b).0 e in
      let held = one_row_holds_plan file (drop (length (plan_row file b)) old) b over.0 in
      record {
        within = over.0;
        smaller_cost_more = over.2;
        ranks_first = rw held (plan_ranks_first (tree_of file) (demand_of file) b);
        cheap = rw held ((said.found b).0 e).1;
        all_used = rw held (said.all_used b e);
        nodes_then_zeros = rw (held, take_at (plan_row file b) (drop (length (plan_row file b)) old) (budget_of file) (length_plan_row file b over.0), said.all_used b e) refl;
        beyond_stays = (
          length_after passed (plan_row file b) old (omega (arith, length_plan_row file b over.0)),
          λ i h. entry_stays (plan_row file b) old i (omega (arith, length_plan_row file b over.0)),
        );
      }

  module _ (target : ℕ) (memory memory' : LeastBudgetMemory) where
    pub least_budget_found_lem : (b : ℕ) → LeastBudgetCall file target memory (answered (least_is b)) memory' → HoldsLeast file target b memory.row memory'.row
    least_budget_found_lem b c =
        let told = answered_passed (least_budget_verdict file memory) (least_budget file target) c.answers in
        let is = sym told.1 in
        rw (rw (told.0, is) at c.row_after) (holds_least target b memory.row ((least_budget_asked_lem file memory).passes.0 told.0).2 is)

    pub least_budget_answers_lem : (a : Answer Least) → LeastBudgetCall file target memory a memory'
        → (least_budget_verdict file memory ≡ passed ↔ ((m : Least) × (a ≡ answered m)))
        × ((q i : ℕ) → least_budget_verdict file memory ≡ broken q i ↔ a ≡ refused q i)
    least_budget_answers_lem a c =
        let is = c.answers in (
          (
            λ e. (least_budget file target, rw e at is),
            λ h. (answered_passed (least_budget_verdict file memory) (least_budget file target) (sym h.1 ∙ is)).0,
          ),
          λ q i. (
            λ e. rw e at is,
            λ e. refused_broken (least_budget_verdict file memory) (least_budget file target) (sym e ∙ is),
          ),
        )

    pub least_budget_none_found : LeastBudgetCall file target memory (answered none) memory'
        → AllCostMore (tree_of file) (demand_of file) target (budget_of file) × (memory'.row ≡ memory.row)
    least_budget_none_found c =
        let told = answered_passed (least_budget_verdict file memory) (least_budget file target) c.answers in
        let is = sym told.1 in
        ((least_budget_said file target).none_over_sets.0 is, rw (told.0, is) at c.row_after)

    pub least_budget_keeps_lem : (q i : ℕ) → LeastBudgetCall file target memory (refused q i) memory'
        → (memory'.scratch ≡ memory.scratch) × (memory'.row ≡ memory.row)
    least_budget_keeps_lem q i c =
        let told = refused_broken (least_budget_verdict file memory) (least_budget file target) c.answers in
        (rw told at c.scratch_after, rw told at c.row_after)

  -- ---- what a host is told

  module _ (target code : ℕ) (memory memory' : HostLeastBudgetMemory) (c : HostLeastBudgetCall file target memory code memory') where
    -- answer by answer
    told_by : (v : Verdict) (m : Least) → host_least_budget_verdict file memory ≡ v → Numbered v → least_budget file target ≡ m
        → TargetTold file target memory code memory'
    told_by passed none e h f =
        let is : code ≡ 255 = rw (e, f) at c.answers in
        record {
          one_of_three = inr (inl is);
          found = λ z. absurd (omega arith);
          none_found = λ _. (e, (least_budget_said file target).none_over_sets.0 f, rw (e, f) at c.budget_after, rw (e, f) at c.row_after);
          refused_by = λ q i b. absurd (broken≢passed (sym b ∙ e));
        }
    told_by passed (least_is b) e h f =
        let is : code ≡ 0 = rw (e, f) at c.answers in
        let entry : get_or memory'.budget 0 0 ≡ b = rw (rw (e, f) at c.budget_after) refl in
        record {
          one_of_three = inl is;
          found = λ _. (
            e,
            rw (entry, rw (e, f) at c.row_after) (holds_least target b memory.row ((host_least_budget_asked_lem file memory).passes.0 e).2.1 f),
            rw (rw (e, f) at c.budget_after) (
              length_after passed (budget_written (least_is b)) memory.budget ((host_least_budget_asked_lem file memory).passes.0 e).2.0,
              λ i h. entry_stays (budget_written (least_is b)) memory.budget i h,
            ),
          );
          none_found = λ z. absurd (omega arith);
          refused_by = λ q i b. absurd (broken≢passed (sym b ∙ e));
        }
    told_by (broken q i) m e h f =
        let is : code ≡ i * code_unit + q = rw e at c.answers in
        let within = numbered_within h in
        record {
          one_of_three = inr (inr (q, i, is, e));
          found = λ z. absurd (omega (arith, within.0));
          none_found = λ z. absurd (omega (arith, within.1));
          refused_by = λ p j b.
              let same : broken q i ≡ broken p j = sym e ∙ b in
              let reads = code_reads q i (omega (arith, within.1)) in
              let number : q ≡ p = cc in
              let record' : i ≡ j = cc in
              (rw (is, ← number) reads.0, rw (is, ← record') reads.1, rw e at c.scratch_after, rw e at c.budget_after, rw e at c.row_after);
        }

    pub target_told_lem : TargetTold file target memory code memory'
    target_told_lem = told_by (host_least_budget_verdict file memory) (least_budget file target) refl (least_budget_numbered file memory) refl
