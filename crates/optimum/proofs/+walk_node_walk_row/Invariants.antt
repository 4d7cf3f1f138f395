-- `walk_node` and `walk_row`, which call each other: how much of the tree is left to each, and what the row's loop keeps.
use Prim.Native.Nat.{◌+◌, ◌*◌}
use Rattle.model.specs.File.{tree_of}
use Rattle.best_rows.specs.Guarded.{may_be}
use Rattle.best_rows.specs.TreeRows.{first_child, row_at}
use Rattle.best_rows.specs.Rows.{row_size}
use Rattle.optimum.specs.Walk.{Walked}
use Rattle.optimum.proofs.+walk_node_walk_row.Given as goal

abbrev pub decreases-walk_node : goal.decreases-walk_node
decreases-walk_node l =
    let t = tree_of l.file.now in 2 * row_size (row_at t (first_child t l.x)) + 1

abbrev pub decreases-walk_row : goal.decreases-walk_row
decreases-walk_row l = 2 * row_size (row_at (tree_of l.file.now) l.first)

abbrev pub invariant-walk_row-loop-m : goal.invariant-walk_row-loop-m
invariant-walk_row-loop-m l =
    Walked l.file (may_be (tree_of l.file)) l.table.places.now l.table.words.now l.serving l.first l.count l.start l.initial.rows l.x l.m l.at l.rows

abbrev pub decreases-walk_row-loop-m : goal.decreases-walk_row-loop-m
decreases-walk_row-loop-m l = row_size (row_at (tree_of l.file) l.x)
