-- `visited_before`: does the first set come before the second where nodes 1, 2, ..
use native.Mathlib.Omega.{arith}
use Rattle.compare.proofs.Visits.{in_tree, in_tree_other, visit_begins, visit_ends, visit_uneven, visit_differs, visit_turns}
use Rattle.compare.proofs.visited_before.Goals as goal

pub loop-v-init : goal.loop-v-init
loop-v-init c = visit_begins c.requires

pub returns-then-counts-v : goal.returns-then-counts-v
returns-then-counts-v c = visit_uneven c.requires c.loop-v.invariant (omega (arith, c.count-v-end.ensures, c.loop-v-test.true)) c.if-counts-v.true

pub returns-then-mine-theirs : goal.returns-then-mine-theirs
returns-then-mine-theirs c =
    let taken = c.take_member-mine.ensures _ _ (in_tree c.requires) c.loop-v.invariant.still in
    let other_taken = c.take_member-theirs.ensures _ _ (in_tree_other c.requires) c.loop-v.invariant.still_other in
    visit_differs c.requires c.loop-v.invariant (omega (arith, c.count-v-end.ensures, c.loop-v-test.true)) c.if-counts-v.false taken other_taken c.if-mine-theirs.true

pub loop-v-preserved : goal.loop-v-preserved
loop-v-preserved c =
    let taken = c.take_member-mine.ensures _ _ (in_tree c.requires) c.loop-v.invariant.still in
    let other_taken = c.take_member-theirs.ensures _ _ (in_tree_other c.requires) c.loop-v.invariant.still_other in
    visit_turns c.requires c.loop-v.invariant (omega (arith, c.count-v-end.ensures, c.loop-v-test.true)) c.if-counts-v.false taken other_taken c.if-mine-theirs.false

pub returns : goal.returns
returns c = visit_ends c.requires c.loop-v.invariant (omega (arith, c.count-v-end.ensures, c.loop-v-test.false))
