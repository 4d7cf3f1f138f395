-- A buffer after a call: a refusal changes nothing, what is written stands in front, and entries beyond it stay. What a call
-- writes fits the buffers that rule 14 asks for.
use mathlib.Core.Path.{◌≡◌, refl}
use mathlib.Core.List.{List}
use Prim.Native.Nat.{ℕ, suc, ◌+◌, ◌-◌, ◌*◌, ◌≤◌, ◌<◌}
use native.Mathlib.Omega.{arith}
use lib.Seq.{get_or-append-add, get_or-drop}
use lib.ListN.{get_or, drop, get_or-append, length, length-append, length-drop, length-replicate}
use Rattle.laws.proofs.Lists.{length_of_range}
use Rattle.laws.proofs.Stores.{length_of_rows}
use Rattle.model.specs.File.{tree_of, demand_of, count_of, budget_of}
use Rattle.model.specs.Rules.{Verdict, passed, broken}
use Rattle.model.specs.Plan.{plan, row}
use Rattle.model.specs.Greedy.{greedy_nodes}
use Rattle.model.specs.Calls.{after, serving_nodes, link_loads, plan_totals, plan_rows, greedy_totals, greedy_row}
use Rattle.model.proofs.Plans.{plan_ranks_first}
use Rattle.model.proofs.GreedyRuns.{greedy_runs}

-- ---- any buffer

pub refusal_keeps_lem : (q i : ℕ) (written old : List ℕ) → after (broken q i) written old ≡ old
refusal_keeps_lem q i written old = refl

pub entry_written : (written old : List ℕ) (i : ℕ) → i < length written → get_or (after passed written old) i 0 ≡ get_or written i 0
entry_written written old i h = get_or-append written (drop (length written) old) 0 i h

pub entry_stays : (written old : List ℕ) (i : ℕ) → length written ≤ i → get_or (after passed written old) i 0 ≡ get_or old i 0
entry_stays written old i h =
    let e : length written + (i - length written) ≡ i = omega arith in
    rw (← e) (rw (get_or-append-add written (drop (length written) old) (i - length written) 0, get_or-drop))

pub length_after : (v : Verdict) (written old : List ℕ) → length written ≤ length old → length (after v written old) ≡ length old
length_after passed written old h = simp (length-append, length-drop) (omega arith)
length_after (broken q i) written old h = omega arith

-- what is written has its place, whatever the buffer was
pub written_there : {m : ℕ} (written old : List ℕ) → length written ≡ m → m ≤ length (after passed written old)
written_there written old e = simp length-append (omega arith)

-- ---- what each call writes

length_row : (k : ℕ) (vs : List ℕ) → length vs ≤ k → length (row k vs) ≡ k
length_row k vs h = simp (length-append, length-replicate) (omega arith)

module _ (file : List ℕ) where
  pub length_serving_nodes : (set : List ℕ) → length (serving_nodes file set) ≡ count_of file
  length_serving_nodes set = length_of_range _ 0 (count_of file)

  pub length_link_loads : (set : List ℕ) → length (link_loads file set) ≡ count_of file
  length_link_loads set = length_of_range _ 0 (count_of file)

  pub length_plan_totals : length (plan_totals file) ≡ suc (budget_of file)
  unfolding plan_totals
  length_plan_totals = length_of_range _ 0 (suc (budget_of file))

  pub length_plan_row : (b : ℕ) → b ≤ budget_of file → length (row (budget_of file) (plan (tree_of file) (demand_of file) b)) ≡ budget_of file
  length_plan_row b h = length_row (budget_of file) (plan (tree_of file) (demand_of file) b) (omega (arith, (plan_ranks_first (tree_of file) (demand_of file) b).within))

  pub length_plan_rows : length (plan_rows file) ≡ suc (budget_of file) * budget_of file
  unfolding plan_rows
  length_plan_rows = length_of_rows _ (budget_of file) 0 (suc (budget_of file)) (λ b _ h. length_plan_row _ (omega arith))

  pub length_greedy_totals : length (greedy_totals file) ≡ suc (budget_of file)
  unfolding greedy_totals
  length_greedy_totals = length_of_range _ 0 (suc (budget_of file))

  pub length_greedy_row : length (greedy_row file) ≡ budget_of file
  unfolding greedy_row
  length_greedy_row =
      let t = tree_of file in
      let d = demand_of file in
      let k = budget_of file in
      length_row k (greedy_nodes t d k) (greedy_runs t d k).within
