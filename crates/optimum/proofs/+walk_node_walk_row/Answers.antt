-- `walk_node` and `walk_row`, which call each other, keep their contracts.
use mathlib.Core.Path.{◌∙◌}
use native.Mathlib.Omega.{arith}
use Rattle.optimum.proofs.Walk.{serving_stands, node_stands, node_small, child_row, member_some, member_row, member_stores, other_row, other_stores, walk_begins, walk_ends, walked_row, walked_stands, children_smaller, siblings_smaller, walked_node, walk_turns, walk_passes}
use Rattle.optimum.proofs.+walk_node_walk_row.Goals as goal
use Rattle.optimum.proofs.+walk_node_walk_row.Goals.{walk_row-then-later-m, walk_row-else-later-m}

-- ---- a node

pub walk_node-child_of-child-requires : goal.walk_node-child_of-child-requires
walk_node-child_of-child-requires t c = node_stands c.requires

pub walk_node-overflow_cast-rows : goal.walk_node-overflow_cast-rows
walk_node-overflow_cast-rows t c = omega (arith, node_small c.requires)

pub walk_node-bounds-rows-at : goal.walk_node-bounds-rows-at
walk_node-bounds-rows-at t c =
    omega (arith, c.requires.room, member_some c.requires c.child_of-child.ensures c.if-member.true)

pub walk_node-overflow_sub-n : goal.walk_node-overflow_sub-n
walk_node-overflow_sub-n t c = member_some c.requires c.child_of-child.ensures c.if-member.true

pub walk_node-walk_row-requires : goal.walk_node-walk_row-requires
walk_node-walk_row-requires t c =
    (omega (arith, child_row c.requires c.child_of-child.ensures), member_row c.requires c.child_of-child.ensures c.if-member.true)

pub walk_node-returns-then-member-clause-value : goal.walk_node-returns-then-member-clause-value
walk_node-returns-then-member-clause-value t c =
    omega (arith, c.walk_row.ensures.value, member_some c.requires c.child_of-child.ensures c.if-member.true)

pub walk_node-returns-then-member-clause-rows_after :
    goal.walk_node-returns-then-member-clause-rows_after
walk_node-returns-then-member-clause-rows_after t c =
    c.walk_row.ensures.rows_after ∙ member_stores c.requires c.child_of-child.ensures c.if-member.true

pub walk_node-walk_row-requires-2 : goal.walk_node-walk_row-requires-2
walk_node-walk_row-requires-2 t c =
    (omega (arith, child_row c.requires c.child_of-child.ensures), other_row c.requires c.child_of-child.ensures c.if-member.false)

pub walk_node-returns-clause-rows_after : goal.walk_node-returns-clause-rows_after
walk_node-returns-clause-rows_after t c =
    c.walk_row-2.ensures.rows_after ∙ other_stores c.requires c.child_of-child.ensures c.if-member.false

-- ---- a row

pub walk_row-depth_word-above-requires : goal.walk_row-depth_word-above-requires
walk_row-depth_word-above-requires t c = serving_stands c.requires

pub walk_row-loop-m-init : goal.walk_row-loop-m-init
walk_row-loop-m-init t c = walk_begins c.requires

pub walk_row-split_of-split-requires-clause-row_to_split :
    goal.walk_row-split_of-split-requires-clause-row_to_split
walk_row-split_of-split-requires-clause-row_to_split t c = walked_row c.loop-m.invariant c.loop-m-test.true

pub walk_row-walk_node-at-requires : goal.walk_row-walk_node-at-requires
walk_row-walk_node-at-requires t c =
    (omega (arith, children_smaller c.loop-m.invariant c.loop-m-test.true), walked_node c.loop-m.invariant c.loop-m-test.true c.split_of-split.ensures.later_value c.split_of-split.ensures.member_value)

pub walk_row-sibling_of-x-requires : goal.walk_row-sibling_of-x-requires
walk_row-sibling_of-x-requires t c = walked_stands c.loop-m.invariant c.loop-m-test.true

pub walk_row-loop-m-smaller : goal.walk_row-loop-m-smaller
walk_row-loop-m-smaller t c = siblings_smaller c.loop-m.invariant c.loop-m-test.true c.sibling_of-x.ensures

pub walk_row-loop-m-preserved : goal.walk_row-loop-m-preserved
walk_row-loop-m-preserved t c =
    let l = c.loop-m.invariant in
    let some = c.loop-m-test.true in
    let split = c.split_of-split.ensures.later_value in
    let next = c.sibling_of-x.ensures in
    elim c.if-later-m.branch [
      | walk_row-then-later-m w ↦ rw (w.rows-is, w.m-is, w.at-is) (walk_turns l some split next w.walk_node-at.ensures.value w.walk_node-at.ensures.rows_after w.walk_node-at.auto.rows)
      | walk_row-else-later-m w ↦ rw (w.rows-is, w.m-is, w.at-is) (walk_passes l some split next w.if-later-m.false)
    ]

pub walk_row-returns-clause-value : goal.walk_row-returns-clause-value
walk_row-returns-clause-value t c = (walk_ends c.loop-m.invariant c.loop-m-test.false).0

pub walk_row-returns-clause-rows_after : goal.walk_row-returns-clause-rows_after
walk_row-returns-clause-rows_after t c = (walk_ends c.loop-m.invariant c.loop-m-test.false).1
