-- `write_row`: writes a row of the answer from `at` on: the m caches of the server's row, then zeros.
use native.Mathlib.Omega.{arith}
use Rattle.table.proofs.Server.{table_sound, table_has_node}
use Rattle.optimum.proofs.Budgets.{row_then_zeros, row_first, row_ends_within, zeros_filled}
use Rattle.optimum.proofs.write_row.Goals as goal

pub child_of-requires : goal.child_of-requires
child_of-requires c = table_has_node c.requires.row_to_walk.table (table_sound c.requires.row_to_walk.table).some

pub walk_row-end-requires : goal.walk_row-end-requires
walk_row-end-requires c = row_first c.requires.row_to_walk c.child_of.ensures

pub returns : goal.returns
returns c =
    let w = c.requires.row_to_walk in
    let within = row_ends_within w c.requires.k_value c.walk_row-end.ensures.value in
    row_then_zeros w _ c.child_of.ensures c.walk_row-end.ensures.value c.walk_row-end.ensures.rows_after
    (zeros_filled _ _ _ _ within (omega (arith, c.requires.k_in_bounds, c.walk_row-end.auto.rows)) (c.fill.ensures.after (λ y e. e)))
