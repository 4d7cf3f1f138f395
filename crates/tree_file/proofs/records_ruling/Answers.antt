-- `records_ruling`: each of the first n records through its rules before the next.
use mathlib.Core.Path.{refl}
use native.Mathlib.Omega.{arith}
use Rattle.tree_file.proofs.Depths.{depths_begin, depths_turn}
use Rattle.tree_file.proofs.Records.{pass_begins, pass_next, pass_climbs, pass_turns, pass_ends, pass_breaks}
use Rattle.tree_file.proofs.Rulings.{refused_as}
use Rattle.tree_file.proofs.records_ruling.Goals as goal

pub loop-i-init : goal.loop-i-init
loop-i-init c = (pass_begins _ _ c.requires, depths_begin _ _ refl)

pub slice_bounds-record_ruling-end : goal.slice_bounds-record_ruling-end
slice_bounds-record_ruling-end c = c.loop-i.invariant.1.room

pub record_ruling-requires : goal.record_ruling-requires
record_ruling-requires c = let so_far = c.loop-i.invariant in
    record {
      next_record = pass_next _ _ _ so_far.0 c.loop-i-test.true;
      depths_to = so_far.1;
    }

pub returns-in_err-record_ruling : goal.returns-in_err-record_ruling
returns-in_err-record_ruling c =
    refused_as _ _ c.from_residual.ensures.1 (pass_breaks _ _ _ _ _ c.loop-i.invariant.0 c.loop-i-test.true c.in_err-record_ruling.ensures)

pub slice_bounds-depth_of-end : goal.slice_bounds-depth_of-end
slice_bounds-depth_of-end c = c.loop-i.invariant.1.room

pub depth_of-requires : goal.depth_of-requires
depth_of-requires c = let so_far = c.loop-i.invariant in
    record {
      climbable = pass_climbs _ _ _ so_far.0 c.loop-i-test.true c.in_ok-record_ruling.ensures;
      depths_to = so_far.1;
    }

pub loop-i-preserved : goal.loop-i-preserved
loop-i-preserved c = let so_far = c.loop-i.invariant in
    let more = c.loop-i-test.true in (
      pass_turns _ _ _ so_far.0 more c.in_ok-record_ruling.ensures,
      depths_turn _ _ _ _ so_far.1 (omega (arith, so_far.0.there.few, more)) c.depth_of.ensures,
    )

pub returns : goal.returns
returns c = pass_ends _ _ _ c.loop-i.invariant.0 (omega arith)
