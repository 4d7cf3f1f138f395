-- How a row's caches split, as it is read from the lines of the first node's children and later siblings, and the row's own.
use mathlib.Core.Path.{◌≡◌, refl, sym, ◌∙◌}
use mathlib.Core.Bool.{Bool, true, false}
use mathlib.Core.List.{List}
use Prim.Native.Nat.{ℕ, ◌+◌, ◌-◌, ◌≤◌, ◌<◌}
use native.Mathlib.Omega.{arith}
use Rattle.model.specs.File.{tree_of, demand_of, budget_of}
use Rattle.best_rows.specs.Best.{cap}
use Rattle.best_rows.specs.BestAt.{one, pay_at, children_at, siblings_at, best_at, takes_node, node_best_at, later_at}
use Rattle.best_rows.proofs.Table.{node_best_attained, best_at_node}
use Rattle.node_words.specs.Words.{word_of, depth_word}
use Rattle.lines.specs.Line.{LineParts, entry_of, line_takes, line_later, line_best, LinesHoldBest}
use Rattle.lines.proofs.HeldBest.{held_best, held_later, held_takes}
use Rattle.places.specs.declared.Place.{Place}
use Rattle.table.specs.Table.{line_in, Served}
use Rattle.table.proofs.Lines.{parts_read}
use Rattle.table.proofs.Reading.{own_row}
use Rattle.optimum.specs.Walk.{RowToSplit}
use Rattle.optimum.proofs.Served.{served_from_above}
use Rattle.optimum.proofs.Nodes.{later_within, row_attained}
use Rattle.table.proofs.Server.{table_sound}

none_taken : (x : ℕ) (u : Bool) → one x u ≤ 0 → false ≡ u
none_taken x true h = absurd (omega arith)
none_taken x false h = refl

module _ {file : List ℕ} {allows : ℕ → Bool → Bool} {places : List Place} {s : List ℕ} {x serving m : ℕ} (r : RowToSplit file allows places s x serving m) where
  -- at its serving node's depth, as it is read
  pub split_served : {above : ℕ} → above ≡ word_of s serving depth_word → Served (tree_of file) x above serving
  split_served e =
      let t = tree_of file in
      let way = served_from_above t (table_sound r.table).preorder x serving r.site r.row.served in
      rw (e ∙ r.table.stored.words.depth serving r.row.served.above)
      (record { site = r.site; node = r.row.served.node; above = way.0; ancestor = sym way.1 })

  split_within : m < budget_of file + 1
  split_within = omega (arith, r.row.within)

  module _ {above member other : ℕ} {cached uncached rest : List ℕ} (at : Served (tree_of file) x above serving)
      (held : LinesHoldBest (budget_of file + 1) (children_at (tree_of file) (demand_of file) allows x serving) (siblings_at (tree_of file) (demand_of file) allows x serving) cached uncached rest)
      (p : member ≡ pay_at (tree_of file) (demand_of file) allows x serving true) (q : other ≡ pay_at (tree_of file) (demand_of file) allows x serving false) where
    -- the lines are right
    pub split_parts : LineParts cached uncached rest member other
    split_parts = parts_read (tree_of file) (demand_of file) allows (budget_of file) (table_sound r.table) at held p q

    -- the row's own entry is the least of the splits, and m caches fit
    pub split_least : {row : List ℕ} {least : ℕ} → row ≡ line_in places s x above → least ≡ entry_of row m
        → (least ≡ line_best cached uncached rest member other m) × (least < cap)
    unfolding node_best_at
    split_least {least = least} e f =
        let t = tree_of file in
        let d = demand_of file in
        let is : least ≡ best_at t d allows x serving m = f ∙ rw e ((own_row r.table at (omega arith)).is m split_within) in (
          is
              ∙ best_at_node t d allows x r.site r.row.served.node serving m
              ∙ rw (p, q) (sym (held_best _ (pay_at t d allows x serving) _ _ _ _ _ held m split_within)),
          rw is r.row.attained,
        )

    module _ {later : ℕ} (e : later ≡ line_later cached uncached rest member other m) where
      -- what is read is the split, and then the node's own choice
      pub split_later : later ≡ later_at (tree_of file) (demand_of file) allows x serving m
      unfolding node_best_at later_at
      split_later =
          let t = tree_of file in
          let d = demand_of file in
          rw (p, q) at e ∙ held_later _ (pay_at t d allows x serving) _ _ _ _ _ held m split_within

      pub split_fits : later ≤ m
      split_fits = rw split_later (later_within (tree_of file) (demand_of file) allows x serving m r.site r.row.served.node r.row.attained)

      -- with no caches at or below the node it is none
      pub split_none : m ≤ later → false ≡ takes_node (tree_of file) (demand_of file) allows x serving (m - later)
      split_none all =
          let t = tree_of file in
          let d = demand_of file in
          let here = (row_attained t d allows x serving m r.site r.row.served.node r.row.attained).0 in
          let none : m - later_at t d allows x serving m ≡ 0 = omega (arith, split_later) in
          rw (split_later, none) (none_taken x _ (node_best_attained t d allows x serving 0 (rw none at here)).0)

      pub split_member : {u : Bool} → u ≡ line_takes cached uncached member other (m - later)
          → u ≡ takes_node (tree_of file) (demand_of file) allows x serving (m - later)
      unfolding takes_node
      split_member f =
          let t = tree_of file in
          let d = demand_of file in
          let within : m - later < budget_of file + 1 = omega (arith, split_within) in
          rw (p, q) at f ∙ held_takes _ (pay_at t d allows x serving) _ _ _ _ _ held (m - later) within
