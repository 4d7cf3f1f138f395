-- The report call passes just where demand 3 asks it to, and a report with the plan's and the greedy rule's answers meets it.
use mathlib.Core.Path.{◌≡◌, refl, sym, ap, ◌∙◌}
use mathlib.Core.Bool.{true, not}
use mathlib.Core.Logic.{◌↔◌}
use mathlib.Core.List.{List, [], ◌∷◌, ◌++◌, map}
use Prim.Native.Nat.{ℕ, suc, ◌-◌, ◌≤◌}
use native.Mathlib.Nat.{zero-add, zero-mul}
use native.Mathlib.Omega.{arith}
use lib.Dec.{eqb}
use lib.ListN.{length, replicate, get_or}
use lib.Seq.{take_at}
use borrow.Author.Tests.{ne_eqb}
use Rattle.laws.specs.Lists.{those}
use Rattle.laws.proofs.Lists.{entry_of_range, none_of_these}
use Rattle.laws.proofs.Stores.{part_of_rows}
use Rattle.model.specs.File.{Tree, Demand, tree_of, demand_of, budget_of}
use Rattle.model.specs.Rules.{passed, is_passed, file_verdict, accepted, ascends, enough_scratch, ask_scratch}
use Rattle.model.specs.Plan.{plan, plan_total}
use Rattle.model.specs.Greedy.{greedy_total}
use Rattle.model.specs.Calls.{after, budgets, plan_totals, plan_row, plan_rows, greedy_totals}
use Rattle.model.specs.Report.{HoldsOptimum, set_of_row, ReportMemory, DemandThree, report_buffers_long, report_verdict}
use Rattle.model.specs.Accepted.{Sound}
use Rattle.model.proofs.Verdicts.{ask_passed, then_passed, is_passed_lem}
use Rattle.model.proofs.Accepted.{accepted_sound}
use Rattle.model.proofs.Ascending.{ascends_cons, set_ascends}
use Rattle.model.proofs.GreedyRuns.{greedy_no_less_lem}
use Rattle.model.proofs.Loads.{links_total_lem}
use Rattle.model.proofs.Plans.{plan_ranks_first, plan_least, plan_ties}
use Rattle.model.proofs.Written.{length_plan_row}

-- ---- the plan meets every clause

pub plan_holds_optimum : (t : Tree) (d : Demand) → Sound t d → (b : ℕ) → HoldsOptimum t d b (plan t d b) (plan_total t d b) (greedy_total t d b)
plan_holds_optimum t d ok b =
    let p = plan_ranks_first t d b in
    record {
      is_a_set = p.is_a_set;
      within_budget = p.within;
      exact_total = refl;
      over_links = sym (links_total_lem t d ok.preorder (plan t d b) ok.server ok.part);
      no_rival_less = plan_least t d b;
      rivals_later = plan_ties t d b;
      greedy_exact = refl;
      greedy_no_less = greedy_no_less_lem t d b;
    }

-- ---- a set is read back from its row

those_of_row : (a n m : ℕ) (k : List ℕ) → ascends a n k ≡ true → those (λ v. not (eqb v 0)) (k ++ replicate m 0) ≡ k
unfolding those
those_of_row a n m [] h = none_of_these (λ v. not (eqb v 0)) 0 m refl
those_of_row a n m (v ∷ k) h =
    let parts = (ascends_cons n a v k).0 h in
    rw (ne_eqb v 0 (λ e. omega arith)) (ap (λ l. v ∷ l) (those_of_row v n m k parts.2))

module _ (file : List ℕ) where
  abbrev t : Tree
  t = tree_of file

  abbrev d : Demand
  d = demand_of file

  plan_of_row : (b : ℕ) → those (λ v. not (eqb v 0)) (plan_row file b) ≡ plan t d b
  plan_of_row b =
      those_of_row 0 t.count (budget_of file - length (plan t d b)) (plan t d b) (set_ascends t (plan t d b) (plan_ranks_first t d b).is_a_set)

  -- what one row of the plan holds, whatever stands beyond it
  pub one_row_holds_plan : (rest : List ℕ) (b : ℕ) → b ≤ budget_of file → set_of_row (budget_of file) (plan_row file b ++ rest) 0 ≡ plan t d b
  unfolding set_of_row
  one_row_holds_plan rest b h = rw (zero-mul (budget_of file), take_at (plan_row file b) rest (budget_of file) (length_plan_row file b h)) (plan_of_row b)

  -- what a report holds at budget b, whatever stands beyond it
  pub row_holds_plan : (rest : List ℕ) (b : ℕ) → b ≤ budget_of file → set_of_row (budget_of file) (plan_rows file ++ rest) b ≡ plan t d b
  unfolding set_of_row plan_rows
  row_holds_plan rest b h =
      let k = budget_of file in
      rw (part_of_rows (plan_row file) k 0 (suc k) b rest (λ j _ l. length_plan_row file j (omega arith)) (omega arith), zero-add b) (plan_of_row b)

  holds_entry : (f : ℕ → ℕ) (rest : List ℕ) (b : ℕ) → b ≤ budget_of file → get_or (map f (budgets file) ++ rest) b 0 ≡ f b
  holds_entry f rest b h = entry_of_range f 0 (suc (budget_of file)) b rest (omega arith) ∙ ap f (zero-add b)

  pub holds_plan_total : (rest : List ℕ) (b : ℕ) → b ≤ budget_of file → get_or (plan_totals file ++ rest) b 0 ≡ plan_total t d b
  unfolding plan_totals
  holds_plan_total = holds_entry (plan_total t d)

  pub holds_greedy_total : (rest : List ℕ) (b : ℕ) → b ≤ budget_of file → get_or (greedy_totals file ++ rest) b 0 ≡ greedy_total t d b
  unfolding greedy_totals
  holds_greedy_total = holds_entry (greedy_total t d)

  -- whatever the buffers held
  pub report_meets_demand : file_verdict file ≡ passed → (memory report : ReportMemory)
      → report.plan_totals ≡ after passed (plan_totals file) memory.plan_totals
      → report.plan_rows ≡ after passed (plan_rows file) memory.plan_rows
      → report.greedy_totals ≡ after passed (greedy_totals file) memory.greedy_totals
      → DemandThree file report
  report_meets_demand e memory report totals rows greedy b h =
      rw (totals, rows, greedy, row_holds_plan _ b h, holds_plan_total _ b h, holds_greedy_total _ b h) (plan_holds_optimum t d (accepted_sound file e) b)

-- ---- "any accepted file with enough scratch and buffers"

pub report_passes_lem : (file : List ℕ) (memory : ReportMemory) → report_verdict file memory ≡ passed
    ↔ ((accepted file ≡ true) × (enough_scratch file memory.scratch ≡ true) × (report_buffers_long file memory ≡ true))
unfolding report_verdict accepted
report_passes_lem file memory = (
  λ e.
      let a = then_passed (file_verdict file) _ e in
      let b = then_passed (ask_scratch file memory.scratch) _ a.1 in
      (ap is_passed a.0, ask_passed 13 0 _ b.0, ask_passed 14 0 _ b.1),
  λ h. rw (is_passed_lem (file_verdict file) h.0, h.1, h.2),
)
