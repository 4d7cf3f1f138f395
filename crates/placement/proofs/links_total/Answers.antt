-- `links_total`: loads times lengths, over the links above nodes 1 to n − 1.
use mathlib.Core.Path.{sym}
use native.Mathlib.Omega.{arith}
use Rattle.model.specs.File.{tree_of}
use Rattle.placement.proofs.Totals.{total_begins, total_turns, total_fits}
use Rattle.placement.proofs.links_total.Goals as goal

pub loop-v-init : goal.loop-v-init
loop-v-init c = sym (total_begins (tree_of c.args.file.now) c.args.loads.now)

pub mul-requires : goal.mul-requires
mul-requires c = omega (arith, total_fits _ _ _ _ _ (omega arith) c.link_length.ensures c.loop-v.invariant _ c.loop-v-test.true, c.requires.n_bound)

pub add-sum-requires : goal.add-sum-requires
add-sum-requires c = omega (arith, total_fits _ _ _ _ _ (omega arith) c.link_length.ensures c.loop-v.invariant _ c.loop-v-test.true, c.requires.n_bound, c.mul.ensures)

pub loop-v-preserved : goal.loop-v-preserved
loop-v-preserved c = total_turns _ _ _ _ _ (omega arith) c.link_length.ensures c.loop-v.invariant _ _ c.mul.ensures c.add-sum.ensures
