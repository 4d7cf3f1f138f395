-- `height_of`: h, the greatest depth of an accepted file.
use mathlib.Core.Path.{refl}
use native.Mathlib.Omega.{arith}
use Rattle.tree_file.proofs.Accepted.{accepted_climbable, tallest_begins, tallest_turns, tallest_ends}
use Rattle.tree_file.proofs.Depths.{depths_begin, depths_turn}
use Rattle.tree_file.proofs.height_of.Goals as goal

pub loop-v-init : goal.loop-v-init
loop-v-init c = (tallest_begins _ _ c.requires c.count-v-end.ensures, depths_begin _ _ refl)

pub slice_bounds-depth_of-end : goal.slice_bounds-depth_of-end
slice_bounds-depth_of-end c = c.loop-v.invariant.1.room

pub depth_of-depth-requires : goal.depth_of-depth-requires
depth_of-depth-requires c = record {
  climbable = accepted_climbable _ c.requires _ (omega (arith, c.count-v-end.ensures));
  depths_to = c.loop-v.invariant.1;
}

pub loop-v-preserved : goal.loop-v-preserved
loop-v-preserved c = let so_far = c.loop-v.invariant in
    let more = c.loop-v-test.true in (
      tallest_turns _ _ _ _ _ _ so_far.0 more c.depth_of-depth.ensures (omega (arith, c.max-tallest.ensures)),
      depths_turn _ _ _ _ so_far.1 (omega (arith, so_far.0.few, more)) c.depth_of-depth.ensures,
    )

pub returns : goal.returns
returns c = tallest_ends _ _ _ _ c.loop-v.invariant.0 (omega arith) c.count-v-end.ensures
