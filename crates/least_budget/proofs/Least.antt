-- From the line of the server's row to the least budget, and its row.
use mathlib.Core.Path.{◌≡◌, refl, sym, ◌∙◌}
use mathlib.Core.List.{List}
use Prim.Native.Nat.{ℕ, ◌+◌, ◌≤◌, ◌<◌}
use native.Mathlib.Omega.{arith}
use lib.ListN.{length}
use lib.Seq.{sets}
use Rattle.laws.proofs.Stores.{sets_front}
use Rattle.model.specs.File.{tree_of, demand_of, budget_of}
use Rattle.model.specs.Rules.{passed}
use Rattle.model.specs.Plan.{plan_total, row}
use Rattle.model.specs.Calls.{Least, none, least_is, after, plan_row}
use Rattle.model.specs.LeastBudget.{least_budget, row_written}
use Rattle.model.proofs.Written.{length_plan_row}
use Rattle.model.proofs.LeastBudget.{least_budget_is, least_budget_none_lem}
use Rattle.best_rows.specs.Guarded.{may_be}
use Rattle.best_rows.specs.TreeRows.{first_child}
use Rattle.best_rows.specs.BestAt.{best_at, best_nodes, least_count}
use Rattle.best_rows.proofs.Least.{first_least_self}
use Rattle.best_rows.proofs.Optimum.{optimum_found}
use Rattle.node_words.specs.Words.{word_of, child_word}
use Rattle.lines.specs.Line.{entry_of}
use Rattle.places.specs.declared.Place.{Place}
use Rattle.table.specs.Table.{line_in, FullTable}
use Rattle.table.proofs.Server.{server_line_lem}
use Rattle.optimum.specs.Walk.{RowToWalk}
use Rattle.optimum.proofs.Budgets.{least_count_within, row_to_walk_lem, row_found}
use Rattle.least_budget.specs.Entries.{FirstAt}

-- ---- the least budget

-- what is found for a target and how the row is left
abbrev FoundAndWritten : List ℕ → ℕ → Least → List ℕ → List ℕ → Type 0
FoundAndWritten file target m old new = (m ≡ least_budget file target) × (new ≡ after passed (row_written file (least_budget file target)) old)

module _ {file : List ℕ} {places : List Place} {s : List ℕ} {k : ℕ} (same : k ≡ budget_of file) (table : FullTable file (may_be (tree_of file)) places s)
    {l : List ℕ} (line : l ≡ line_in places s (word_of s 0 child_word) 0) where
  -- the costs that the line holds
  abbrev server_best : ℕ → ℕ
  server_best = best_at (tree_of file) (demand_of file) (may_be (tree_of file)) (first_child (tree_of file) 0) 0

  line_holds : (j : ℕ) → j ≤ k → entry_of l j ≡ server_best j
  line_holds j h = (server_line_lem table line).is j (omega arith)

  -- a budget has no more caches than its number: where the entries up to there are above the target, its plan costs more
  costs_more : {target : ℕ} (c : ℕ) → c ≤ k → ((j : ℕ) → j ≤ c → target < entry_of l j) → target < plan_total (tree_of file) (demand_of file) c
  costs_more c h above =
      let t = tree_of file in
      let d = demand_of file in
      let count = least_count t d (may_be t) c in
      let fewer : count ≤ c = least_count_within t d (may_be t) c in
      let held = line_holds count (omega arith) in
      let total = (optimum_found file table.stored.room.accepted c).1 in
      omega (arith, above count fewer)

  pub none_told_lem : {target : ℕ} (row : List ℕ) → ((j : ℕ) → j ≤ k → target < entry_of l j) → FoundAndWritten file target none row row
  none_told_lem {target} row above =
      rw (least_budget_none_lem file target (λ c h. costs_more c (omega arith) (λ j i. above j (omega arith)))) (refl, refl)

  module _ {target b : ℕ} (first : FirstAt (entry_of l) k target b) where
    here : server_best b ≤ target
    here = omega (arith, first.here, line_holds b first.bound)

    -- its plan has b caches: each smaller number costs more
    count_is_lem : b ≡ least_count (tree_of file) (demand_of file) (may_be (tree_of file)) b
    unfolding least_count
    count_is_lem = sym (first_least_self server_best b (λ j h. omega (arith, here, first.before j h, line_holds j (omega (arith, first.bound)))))

    budget_is : least_budget file target ≡ least_is b
    budget_is =
        let total = rw (← count_is_lem) at (optimum_found file table.stored.room.accepted b).1 in
        least_budget_is file target b (omega (arith, first.bound)) (omega (arith, here))
        (λ c h. costs_more c (omega (arith, first.bound)) (λ j i. first.before j (omega arith)))

    -- the server's row can have b caches, and there is room for the row of the answer
    pub row_to_write : {rows : List ℕ} → k ≤ length rows
        → RowToWalk file (may_be (tree_of file)) places s (first_child (tree_of file) 0) 0 b 0 rows × (0 + k ≤ length rows)
    row_to_write {rows} long = let room : 0 + k ≤ length rows = omega arith in (row_to_walk_lem same table (omega (arith, first.bound)) count_is_lem room, room)

    -- what is written there is the plan's row
    pub budget_told : (old : List ℕ) {new : List ℕ} → k ≤ length old
        → new ≡ sets old 0 (row k (best_nodes (tree_of file) (demand_of file) (may_be (tree_of file)) (first_child (tree_of file) 0) 0 b))
        → FoundAndWritten file target (least_is b) old new
    budget_told old long e =
        let row_is = row_found same table (omega (arith, first.bound)) count_is_lem old 0 e in
        rw budget_is (refl, row_is ∙ sets_front old (plan_row file b) (omega (arith, length_plan_row file b (omega (arith, first.bound)))))
