-- `depth_of`: links from v to the server, one more than its parent has.
use native.Mathlib.Omega.{arith}
use Rattle.tree_file.proofs.Depths.{server_depth, parent_first_lem, one_deeper, depth_small}
use Rattle.tree_file.proofs.depth_of.Goals as goal

pub returns-then-v-eq0 : goal.returns-then-v-eq0
returns-then-v-eq0 c = server_depth _ _ c.if-v-eq0.true

pub offset_bounds-depths-parent : goal.offset_bounds-depths-parent
offset_bounds-depths-parent c = omega (arith, parent_first_lem _ _ _ c.requires.climbable c.if-v-eq0.false c.parent-parent.ensures, c.requires.climbable.here.node)

pub bounds-depths-parent : goal.bounds-depths-parent
bounds-depths-parent c = omega (arith, parent_first_lem _ _ _ c.requires.climbable c.if-v-eq0.false c.parent-parent.ensures, c.requires.climbable.here.node, c.requires.depths_to.room)

pub overflow_add-result : goal.overflow_add-result
overflow_add-result c = omega (arith, depth_small _ _ _ c.requires.climbable c.if-v-eq0.false c.parent-parent.ensures _ c.requires.depths_to)

pub returns : goal.returns
returns c = one_deeper _ _ _ c.requires.climbable c.if-v-eq0.false c.parent-parent.ensures _ c.requires.depths_to
