-- `fill_node`: stores the lines of node v, for each node above it as the serving node, from its parent up to the server.
use mathlib.Core.Path.{◌≡◌}
use Rattle.model.specs.File.{tree_of, budget_of}
use Rattle.best_rows.specs.Guarded.{may_be_under}
use Rattle.node_words.specs.Ancestors.{ancestor_at}
use Rattle.table.specs.Table.{place_of, LinesFilled}
use Rattle.table.specs.Wishes.{wish_of}
use Rattle.table.proofs.fill_node.Given as goal

abbrev pub invariant-loop-a : goal.invariant-loop-a
invariant-loop-a l = (l.u ≡ ancestor_at (tree_of l.file) l.v l.a)
    × LinesFilled l.file (may_be_under (tree_of l.file) (wish_of l.wish)) l.places (place_of (tree_of l.file) (budget_of l.file) l.v l.a) l.initial.s l.s
