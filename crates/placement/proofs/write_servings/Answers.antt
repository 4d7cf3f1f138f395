-- `write_servings`: a member serves itself; another node has the serving node of its parent.
use mathlib.Core.Path.{◌≡◌}
use mathlib.Core.Bool.{true, cond}
use native.Mathlib.Omega.{arith}
use lib.ListN.{get_or}
use Rattle.model.specs.Rules.{ascends}
use Rattle.model.proofs.Ascending.{set_ascends}
use Rattle.placement.proofs.Servings.{pass_begins, pass_parent, pass_turns, pass_ends}
use Rattle.placement.proofs.write_servings.Goals.{then-take_member, else-take_member}
use Rattle.placement.proofs.write_servings.Goals as goal

pub loop-v-init : goal.loop-v-init
loop-v-init c = pass_begins _ _ _ c.requires.billable c.args.servings.now c.requires.n_in_bounds

pub offset_bounds-servings-parent : goal.offset_bounds-servings-parent
offset_bounds-servings-parent c = omega (arith, pass_parent _ _ _ c.requires.billable _ _ _ _ c.loop-v.invariant c.loop-v-test.true _ c.parent.ensures)

pub bounds-servings-parent : goal.bounds-servings-parent
bounds-servings-parent c = omega (arith, pass_parent _ _ _ c.requires.billable _ _ _ _ c.loop-v.invariant c.loop-v-test.true _ c.parent.ensures, c.loop-v.invariant.room)

pub loop-v-preserved : goal.loop-v-preserved
loop-v-preserved c =
    let up : ascends 0 c.args.n c.args.set.now ≡ true = rw c.requires.billable.of_file.nodes (set_ascends _ _ c.requires.billable.of_nodes) in
    let taken = c.take_member.ensures c.args.n c.args.set.now up c.loop-v.invariant.still in
    let written : c.if-take_member.servings ≡ cond c.take_member.result c.loop-v.v (get_or c.loop-v.servings c.parent.result 0) =
    elim c.if-take_member.branch [ then-take_member w ↦ rw w.if-take_member.true w.servings-is | else-take_member w ↦ rw w.if-take_member.false w.servings-is ] in
    pass_turns _ _ _ c.requires.billable _ _ _ _ c.loop-v.invariant c.loop-v-test.true _ _ _ c.parent.ensures taken.0 written taken.1

pub returns : goal.returns
returns c = pass_ends _ _ _ c.requires.billable c.args.servings.now _ _ _ c.loop-v.invariant c.loop-v-test.false
