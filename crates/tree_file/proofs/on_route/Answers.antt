-- `on_route`: is a on the route of v?
use mathlib.Core.Path.{refl}
use Rattle.tree_file.proofs.Climbs.{climb_begins, record_below, parent_less, seek_turns, seek_misses, seek_meets}
use Rattle.tree_file.proofs.on_route.Goals as goal

pub loop-x-init : goal.loop-x-init
loop-x-init c = (climb_begins _ _ c.requires, refl)

pub returns-then-x-eq0 : goal.returns-then-x-eq0
returns-then-x-eq0 c = seek_misses _ _ _ _ c.loop-x.invariant c.if-x-eq0.true c.loop-x-test.true

pub parent-x-requires : goal.parent-x-requires
parent-x-requires c = record_below _ _ _ c.loop-x.invariant.0

pub loop-x-smaller : goal.loop-x-smaller
loop-x-smaller c = parent_less _ _ _ _ c.loop-x.invariant.0 c.if-x-eq0.false c.parent-x.ensures

pub loop-x-preserved : goal.loop-x-preserved
loop-x-preserved c = seek_turns _ _ _ _ _ c.loop-x.invariant c.if-x-eq0.false c.loop-x-test.true c.parent-x.ensures

pub returns : goal.returns
returns c = seek_meets _ _ _ _ c.loop-x.invariant c.loop-x-test.false
