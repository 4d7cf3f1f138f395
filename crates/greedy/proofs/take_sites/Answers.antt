-- `take_sites`: after b steps the words, the total and both buffers are those of the greedy rule.
use mathlib.Core.Path.{refl}
use Prim.Native.Nat.{◌≤◌, ◌<◌}
use native.Mathlib.Omega.{arith}
use lib.ListN.{length-set}
use Rattle.laws.proofs.Fronts.{front_only_none, front_only_then}
use Rattle.model.specs.File.{most_budget}
use Rattle.node_words.proofs.Words.{room_sound}
use Rattle.greedy.proofs.BestSite.{sites_weighed}
use Rattle.greedy.proofs.Runs.{standing_first, step_rests, step_free, step_node, step_within, step_total, step_stands, written_first, written_next, written_rest, budget_small, run_ends}
use Rattle.greedy.proofs.take_sites.Goals as goal

pub loop-b-init : goal.loop-b-init
loop-b-init c = (standing_first c.requires.current.0 c.requires.current.1 c.empty_total-total.ensures, front_only_none _ _, written_first c.empty_total-total.ensures refl)

pub search-requires-clause-weighed : goal.search-requires-clause-weighed
search-requires-clause-weighed c = sites_weighed c.loop-b.invariant.0.current

pub rest-requires : goal.rest-requires
rest-requires c =
    let small : c.args.k ≤ most_budget = budget_small c.requires.greedy_room in
    (omega arith, small, omega (arith, rw length-set at c.loop-b.auto.totals, c.requires.greedy_room.totals_long), omega (arith, c.requires.greedy_room.nodes_long))

pub returns-in_default : goal.returns-in_default
returns-in_default c = let more : c.loop-b.b < c.args.k = omega arith in
    let rests = step_rests c.loop-b.invariant.0 more (rw c.in_default.is at c.search.ensures) in
    run_ends c.requires.greedy_room c.loop-b.invariant.1 (written_rest c.loop-b.invariant.2 rests (omega arith) c.rest.ensures) refl

pub take_site-requires : goal.take_site-requires
take_site-requires c = let more : c.loop-b.b < c.args.k = omega arith in
    (c.loop-b.invariant.0.current, step_free c.loop-b.invariant.0 more c.in-Some.ensures)

pub overflow_cast-nodes : goal.overflow_cast-nodes
overflow_cast-nodes c = let room = c.loop-b.invariant.0.current.stored.room in
    omega (arith, c.in-Some.ensures.1.below, room.count, (room_sound room).few)

pub sub-total-requires : goal.sub-total-requires
sub-total-requires c = let more : c.loop-b.b < c.args.k = omega arith in
    step_within c.loop-b.invariant.0 more c.in-Some.ensures

pub loop-b-preserved : goal.loop-b-preserved
loop-b-preserved c = let stands = c.loop-b.invariant.0 in
    let more : c.loop-b.b < c.args.k = omega arith in
    let finds = c.in-Some.ensures in (
      step_stands stands more finds c.take_site.ensures c.sub-total.ensures,
      front_only_then _ c.loop-b.invariant.1 c.take_site.ensures.front,
      written_next c.loop-b.invariant.2 (step_total stands more finds c.sub-total.ensures) (step_node stands more finds) refl refl,
    )

pub returns : goal.returns
returns c = run_ends c.requires.greedy_room c.loop-b.invariant.1 c.loop-b.invariant.2 (omega arith)
