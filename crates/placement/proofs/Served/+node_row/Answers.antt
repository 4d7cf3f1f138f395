-- `Served::node` and `Served::row`, which draw on each other, keep their contracts.
use native.Mathlib.Omega.{arith}
use Rattle.placement.proofs.Turns.{walks_here, children_begin, row_bounded, node_raised, row_opens, row_kept, row_over, row_left, sums_fit, row_joined}
use Rattle.placement.proofs.Served.+node_row.Goals as goal

pub node-row-below-requires : goal.node-row-below-requires
node-row-below-requires t c =
    (omega arith, (c.requires.loads_long, children_begin (walks_here c.args.self.now c.requires.loads_long) _ c.requires.le_v.1))

pub node-raised-walk-requires-clause-bounded : goal.node-raised-walk-requires-clause-bounded
node-raised-walk-requires-clause-bounded t c = row_bounded (walks_here c.args.self.now c.requires.loads_long) c.row-below.ensures

pub node-returns : goal.node-returns
node-returns t c =
    node_raised (walks_here c.args.self.now c.requires.loads_long) c.requires.le_v.0 c.requires.le_v.1 c.row-below.ensures c.raised-walk.ensures.end_value (rw c.from.ensures at c.raised-walk.ensures.raised)

pub row-loop-walk-init : goal.row-loop-walk-init
row-loop-walk-init t c = row_opens (walks_here c.args.self.now c.requires.loads_long) c.requires.begins

pub row-returns-else-v-parent : goal.row-returns-else-v-parent
row-returns-else-v-parent t c =
    row_left (walks_here c.args.self.now c.requires.loads_long) c.loop-walk.invariant c.parent.ensures (omega (arith, c.if-v-parent.false))

pub row-node-requires : goal.row-node-requires
row-node-requires t c =
    let so_far = c.loop-walk.invariant in
    (omega (arith, so_far.from, c.loop-walk-test.true), (row_kept (walks_here c.args.self.now c.requires.loads_long) so_far, (omega (arith, so_far.goes_on.after), c.loop-walk-test.true)))

pub row-joined-walk-requires : goal.row-joined-walk-requires
row-joined-walk-requires t c = sums_fit (walks_here c.args.self.now c.requires.loads_long) c.loop-walk.invariant c.node.ensures

pub row-loop-walk-preserved : goal.row-loop-walk-preserved
row-loop-walk-preserved t c =
    row_joined (walks_here c.args.self.now c.requires.loads_long) c.loop-walk.invariant c.node.ensures c.parent.ensures c.if-v-parent.true c.joined-walk.ensures

pub row-returns-after-loop-walk : goal.row-returns-after-loop-walk
row-returns-after-loop-walk t c = row_over (walks_here c.args.self.now c.requires.loads_long) c.loop-walk.invariant c.loop-walk-test.false
