-- What is written for each budget: the plan's total, and its row of nodes.
use Rattle.std.specs.Prelude.{◌≡◌, ℕ, ◌+◌, ◌*◌, ◌-◌, ◌≤◌, length}
use mathlib.Core.List.{List, map, flat_map}
use Rattle.std.proofs.lemmas.List.Edits.{sets}
use Rattle.laws.specs.Lists.{range}
use Rattle.model.specs.File.{tree_of, demand_of, budget_of}
use Rattle.model.specs.Plan.{plan_total}
use Rattle.model.specs.Calls.{plan_row}
use Rattle.best_rows.specs.Guarded.{may_be}
use Rattle.best_rows.specs.BestAt.{least_count}
use Rattle.places.specs.declared.Place.{Place}
use Rattle.table.specs.Table.{FullTable}

-- what budget b is written from: the table, and how many caches the budget before it has
pub record Budget (file : List ℕ) (k : ℕ) (places : List Place) (s : List ℕ) (b last : ℕ) : Type 0 where
  pub budget : k ≡ budget_of file
  pub table : FullTable file (may_be (tree_of file)) places s
  pub within : b ≤ budget_of file
  pub counted : last ≡ least_count (tree_of file) (demand_of file) (may_be (tree_of file)) (b - 1)

-- the buffers are long enough for every budget
pub record Buffers (file totals rows : List ℕ) : Type 0 where
  pub totals_long : budget_of file + 1 ≤ length totals
  pub rows_long : (budget_of file + 1) * budget_of file ≤ length rows

-- the budgets before b are written
pub record Planned (file : List ℕ) (totals rows : List ℕ) (b last : ℕ) (totals' rows' : List ℕ) : Type 0 where
  pub within : b ≤ budget_of file + 1
  pub counted : last ≡ least_count (tree_of file) (demand_of file) (may_be (tree_of file)) (b - 1)
  pub totals_long : length totals' ≡ length totals
  pub rows_long : length rows' ≡ length rows
  pub totals_after : totals' ≡ sets totals 0 (map (plan_total (tree_of file) (demand_of file)) (range 0 b))
  pub rows_after : rows' ≡ sets rows 0 (flat_map (plan_row file) (range 0 b))
