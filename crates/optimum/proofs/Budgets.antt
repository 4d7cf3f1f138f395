-- From the line of the server's row to the plan: how many caches each budget has, its total and its row.
use mathlib.Core.Path.{◌≡◌, refl, sym, ap, ◌∙◌}
use mathlib.Core.Bool.{Bool, true, false}
use mathlib.Core.List.{List, ◌++◌}
use Prim.Native.Nat.{ℕ, zero, suc, ◌+◌, ◌*◌, ◌-◌, ◌≤◌, ◌<◌}
use native.Mathlib.Omega.{arith}
use lib.Dec.{ltb}
use lib.ListN.{length, set, replicate, take, drop}
use Rattle.std.proofs.lemmas.List.{append_assoc, length-drop, length-take-le, length-replicate, drop-drop}
use Rattle.std.proofs.lemmas.List.Edits.{sets-eq}
use lib.Seq.{sets}
use Rattle.laws.proofs.Numbers.{row_before}
use Rattle.laws.proofs.Stores.{sets_append, loop_begins, loop_turns}
use Rattle.laws.proofs.Rows.{rows_begin, rows_turn}
use Rattle.model.specs.File.{Tree, Demand, tree_of, demand_of, budget_of}
use Rattle.model.specs.Plan.{plan, plan_total, row}
use Rattle.model.specs.Calls.{plan_totals, plan_row, plan_rows}
use Rattle.model.proofs.Bounds.{total_bound}
use Rattle.model.proofs.Written.{length_plan_row}
use Rattle.best_rows.specs.Least.{better, first_least}
use Rattle.best_rows.specs.Best.{cap}
use Rattle.best_rows.specs.Guarded.{may_be}
use Rattle.best_rows.specs.TreeRows.{first_child}
use Rattle.best_rows.specs.BestAt.{best_at, best_nodes, least_count}
use Rattle.best_rows.proofs.Least.{better_cases, first_least_within}
use Rattle.best_rows.proofs.Optimum.{optimum_found}
use Rattle.best_rows.proofs.Table.{length_best_nodes}
use Rattle.node_words.specs.Words.{word_of, child_word}
use Rattle.lines.specs.Line.{entry_of, HoldsBest}
use Rattle.places.specs.declared.Place.{Place}
use Rattle.table.specs.Table.{line_in, FullTable}
use Rattle.table.proofs.Server.{table_sound, table_child, server_line_lem}
use Rattle.optimum.specs.Walk.{RowToWalk}
use Rattle.optimum.specs.Budgets.{Budget, Buffers, Planned}
use Rattle.optimum.proofs.Served.{children_served}

-- ---- how many caches a budget has

-- the better of two counts by the entries of a line is the better by the function that the line holds
better_by_line : (f : ℕ → ℕ) (w : ℕ) {l : List ℕ} (x y : ℕ) → HoldsBest w f l → x < w → y < w → better (entry_of l) x y ≡ better f x y
unfolding better
better_by_line f w x y e h k = rw (e.is x h, e.is y k)

-- as a test in code finds it
pub better_first : (f : ℕ → ℕ) (x y : ℕ) {r : Bool} → r ≡ ltb (f y) (f x) → r ≡ false → x ≡ better f x y
unfolding better
better_first f x y e h = rw (sym e ∙ h)

pub better_second : (f : ℕ → ℕ) (x y : ℕ) {r : Bool} → r ≡ ltb (f y) (f x) → r ≡ true → y ≡ better f x y
unfolding better
better_second f x y e h = rw (sym e ∙ h)

better_self : (f : ℕ → ℕ) (x : ℕ) → better f x x ≡ x
better_self f x = better_cases (λ y. y ≡ x) f x x (λ h. refl) (λ h. refl)

module _ (t : Tree) (d : Demand) (allows : ℕ → Bool → Bool) where
  -- the count of budget b is the better of that of the budget before and b
  least_count_next : (b : ℕ) → better (best_at t d allows (first_child t 0) 0) (least_count t d allows (b - 1)) b ≡ least_count t d allows b
  unfolding least_count first_least
  least_count_next zero = better_self (best_at t d allows (first_child t 0) 0) 0
  least_count_next (suc b) = let before : suc b - 1 ≡ b = omega arith in rw before

  pub least_count_within : (b : ℕ) → least_count t d allows b ≤ b
  unfolding least_count
  least_count_within b = first_least_within (best_at t d allows (first_child t 0) 0) b

-- ---- the row of a budget, from the table

module _ {file : List ℕ} {places : List Place} {s : List ℕ} {k b count : ℕ} (same : k ≡ budget_of file) (table : FullTable file (may_be (tree_of file)) places s)
    (within : b ≤ budget_of file) (counted : count ≡ least_count (tree_of file) (demand_of file) (may_be (tree_of file)) b) where
  -- that many caches of the server's row are the plan, and cost its total
  found : (best_nodes (tree_of file) (demand_of file) (may_be (tree_of file)) (first_child (tree_of file) 0) 0 count ≡ plan (tree_of file) (demand_of file) b)
      × (best_at (tree_of file) (demand_of file) (may_be (tree_of file)) (first_child (tree_of file) 0) 0 count ≡ plan_total (tree_of file) (demand_of file) b)
  found = rw counted (optimum_found file table.stored.room.accepted b)

  count_within : count ≤ b
  count_within = rw counted (least_count_within (tree_of file) (demand_of file) (may_be (tree_of file)) b)

  -- the server's row can have that many caches, and a row of the answer has room for them
  pub row_to_walk_lem : {at : ℕ} {rows : List ℕ} → at + k ≤ length rows
      → RowToWalk file (may_be (tree_of file)) places s (first_child (tree_of file) 0) 0 count at rows
  unfolding cap
  row_to_walk_lem room =
      let t = tree_of file in
      let d = demand_of file in
      let ok = table_sound table in
      record {
        table = table;
        row = record {
          served = children_served t ok.preorder 0 ok.some;
          within = omega (arith, count_within);
          attained = omega (arith, found.1, total_bound t d ok (plan t d b));
        };
        room = omega (arith, count_within);
      }

  -- what is written there is the plan's row
  pub row_found : (rows : List ℕ) (at : ℕ) {l : List ℕ}
      → l ≡ sets rows at (row k (best_nodes (tree_of file) (demand_of file) (may_be (tree_of file)) (first_child (tree_of file) 0) 0 count))
      → l ≡ sets rows at (plan_row file b)
  row_found rows at e = rw (same, found.0) at e

-- ---- one budget

module _ {file : List ℕ} {k : ℕ} {places : List Place} {s : List ℕ} {b last : ℕ} (r : Budget file k places s b last) where
  abbrev server_best : ℕ → ℕ
  server_best = best_at (tree_of file) (demand_of file) (may_be (tree_of file)) (first_child (tree_of file) 0) 0

  module _ {l : List ℕ} (f : l ≡ line_in places s (word_of s 0 child_word) 0) where
    line_holds : HoldsBest (budget_of file + 1) server_best l
    line_holds = server_line_lem r.table f

    wide : b < budget_of file + 1
    wide = omega (arith, r.within)

    last_within : last ≤ b
    last_within = omega (arith, r.counted, least_count_within (tree_of file) (demand_of file) (may_be (tree_of file)) (b - 1))

    module _ {count : ℕ} (c : count ≡ better (entry_of l) last b) where
      -- the better of them by it is the count of budget b
      pub count_found : count ≡ least_count (tree_of file) (demand_of file) (may_be (tree_of file)) b
      count_found =
          c
          ∙ better_by_line server_best (budget_of file + 1) last b line_holds (omega (arith, wide, last_within)) wide
          ∙ rw r.counted (least_count_next (tree_of file) (demand_of file) (may_be (tree_of file)) b)

      -- and its entry there the plan's total
      pub total_found : entry_of l count ≡ plan_total (tree_of file) (demand_of file) b
      total_found =
          line_holds.is count (omega (arith, count_within r.budget r.table r.within count_found, wide))
          ∙ (found r.budget r.table r.within count_found).1

  -- there is room for its row
  pub budget_room : {totals rows : List ℕ} → Buffers file totals rows → b * k + k ≤ length rows
  budget_room long =
      let last_row = row_before {i = b} {j = budget_of file + 1} (budget_of file) (omega (arith, r.within)) in
      rw r.budget (omega (arith, last_row, long.rows_long))

-- ---- a row of the answer

-- zeros filled in from a up to e are stored there
pub zeros_filled : (l zeros : List ℕ) (a e : ℕ) → a ≤ e → e ≤ length l → zeros ≡ replicate (length (take (e - a) (drop a l))) 0
    → take a l ++ (zeros ++ drop (e - a) (drop a l)) ≡ sets l a (replicate (e - a) 0)
zeros_filled l zeros a e h k z =
    let rest : length (drop a l) ≡ length l - a = length-drop a l in
    let long : length (take (e - a) (drop a l)) ≡ e - a = length-take-le (e - a) (drop a l) (omega arith) in
    let filled : zeros ≡ replicate (e - a) 0 = z ∙ ap (λ n. replicate n 0) long in
    let held : length {A = ℕ} (replicate (e - a) 0) ≡ e - a = length-replicate (e - a) 0 in
    let past : drop (a + length {A = ℕ} (replicate (e - a) 0)) l ≡ drop (e - a) (drop a l) = rw held (sym (drop-drop (e - a) a l)) in
    let stored : sets l a (replicate (e - a) 0) ≡ take a l ++ (replicate (e - a) 0 ++ drop (e - a) (drop a l)) =
    rw past at (sets-eq (replicate (e - a) 0) l a (omega (arith, held)))
    ∙ append_assoc (take a l) (replicate (e - a) 0) (drop (e - a) (drop a l)) in
    rw filled (sym stored)

module _ {file : List ℕ} {allows : ℕ → Bool → Bool} {places : List Place} {s : List ℕ} {m at : ℕ} {rows : List ℕ}
    (w : RowToWalk file allows places s (first_child (tree_of file) 0) 0 m at rows) where
  first_is : {child : ℕ} → child ≡ word_of s 0 child_word → child ≡ first_child (tree_of file) 0
  first_is e = table_child w.table (table_sound w.table).some e

  pub row_first : {child : ℕ} → child ≡ word_of s 0 child_word → RowToWalk file allows places s child 0 m at rows
  row_first e = rw (first_is e) w

  -- the caches end within the row
  pub row_ends_within : {end k : ℕ} → k ≡ budget_of file → end ≡ at + m → end ≤ at + k
  row_ends_within f e = omega (arith, w.row.within)

  -- after them come zeros
  pub row_then_zeros : {child end : ℕ} {l r : List ℕ} (k : ℕ) → child ≡ word_of s 0 child_word → end ≡ at + m
      → l ≡ sets rows at (best_nodes (tree_of file) (demand_of file) allows child 0 m) → r ≡ sets l end (replicate (at + k - end) 0)
      → r ≡ sets rows at (row k (best_nodes (tree_of file) (demand_of file) allows (first_child (tree_of file) 0) 0 m))
  row_then_zeros k c e f g =
      let nodes = best_nodes (tree_of file) (demand_of file) allows (first_child (tree_of file) 0) 0 m in
      let long : length nodes ≡ m = length_best_nodes (tree_of file) (demand_of file) allows (first_child (tree_of file) 0) 0 m w.row.attained in
      let left : at + k - (at + m) ≡ k - m = omega arith in
      rw (g, f, e, left, first_is c, sets_append rows at nodes (replicate (k - length nodes) 0), long)

-- ---- budget after budget

module _ {file totals rows : List ℕ} where
  pub plan_begins : Planned file totals rows 0 0 totals rows
  unfolding least_count first_least
  plan_begins = record {
    within = omega arith;
    counted = refl;
    totals_long = refl;
    rows_long = refl;
    totals_after = loop_begins totals 0 _;
    rows_after = rows_begin (plan_row file) rows;
  }

  module _ {b last : ℕ} {totals' rows' : List ℕ} (p : Planned file totals rows b last totals' rows') where
    pub plan_budget : {k : ℕ} {places : List Place} {s : List ℕ} → k ≡ budget_of file → FullTable file (may_be (tree_of file)) places s → b ≤ k
        → Budget file k places s b last
    plan_budget e t h = record { budget = e; table = t; within = omega arith; counted = p.counted }

    pub plan_buffers : Buffers file totals rows → Buffers file totals' rows'
    plan_buffers long = record { totals_long = rw p.totals_long long.totals_long; rows_long = rw p.rows_long long.rows_long }

    -- budget b written
    pub plan_turns : {k count : ℕ} {t r : List ℕ} → k ≡ budget_of file → b ≤ k
        → count ≡ least_count (tree_of file) (demand_of file) (may_be (tree_of file)) b
        → t ≡ set totals' b (plan_total (tree_of file) (demand_of file) b) → r ≡ sets rows' (b * k) (plan_row file b)
        → length t ≡ length totals' → length r ≡ length rows'
        → Planned file totals rows (b + 1) count t r
    plan_turns k h c e f u v =
        let before : b + 1 - 1 ≡ b = omega arith in
        record {
          within = omega arith;
          counted = rw before c;
          totals_long = u ∙ p.totals_long;
          rows_long = v ∙ p.rows_long;
          totals_after = e ∙ loop_turns totals 0 (plan_total (tree_of file) (demand_of file)) b p.totals_after (omega arith) refl;
          rows_after = rw k at f ∙ rows_turn (plan_row file) (budget_of file) b rows (λ j l. length_plan_row file j (omega arith)) p.rows_after;
        }

    -- after the last budget the plan is written
    pub plan_ends : {k : ℕ} → k ≡ budget_of file → k < b
        → (totals' ≡ sets totals 0 (plan_totals file)) × (rows' ≡ sets rows 0 (plan_rows file))
    unfolding plan_totals plan_rows
    plan_ends k h =
        let all : b ≡ suc (budget_of file) = omega (arith, p.within) in
        (rw all at p.totals_after, rw all at p.rows_after)
