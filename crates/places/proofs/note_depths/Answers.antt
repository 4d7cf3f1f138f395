-- `note_depths`: stores the depth of each node, one more than its parent's, and keeps the rest.
use mathlib.Core.Path.{refl}
use native.Mathlib.Omega.{arith}
use Rattle.places.proofs.Counting.{record_there, depths_begin, depth_fits, depths_turn}
use Rattle.places.proofs.note_depths.Goals as goal

pub loop-v-init : goal.loop-v-init
loop-v-init c = depths_begin c.requires

pub parent-up-requires : goal.parent-up-requires
parent-up-requires c = record_there c.requires c.loop-v.invariant.0.site c.loop-v-test.true refl

pub offset_bounds-places-up : goal.offset_bounds-places-up
offset_bounds-places-up c = omega (arith, depth_fits c.loop-v.invariant.0 c.loop-v-test.true c.parent-up.ensures)

pub bounds-places-up : goal.bounds-places-up
bounds-places-up c = omega (arith, depth_fits c.loop-v.invariant.0 c.loop-v-test.true c.parent-up.ensures)

pub overflow_add-places : goal.overflow_add-places
overflow_add-places c = omega (arith, depth_fits c.loop-v.invariant.0 c.loop-v-test.true c.parent-up.ensures)

pub offset_bounds-places-v : goal.offset_bounds-places-v
offset_bounds-places-v c = omega (arith, depth_fits c.loop-v.invariant.0 c.loop-v-test.true c.parent-up.ensures)

pub bounds-places-v : goal.bounds-places-v
bounds-places-v c = omega (arith, depth_fits c.loop-v.invariant.0 c.loop-v-test.true c.parent-up.ensures)

pub loop-v-preserved : goal.loop-v-preserved
loop-v-preserved c = depths_turn c.loop-v.invariant.0 c.loop-v-test.true c.parent-up.ensures _ c.loop-v.invariant.1
