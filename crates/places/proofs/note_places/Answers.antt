-- `note_places`: stores the places of the lines of an accepted file, and returns where they end.
use mathlib.Core.Path.{◌≡◌, ◌∙◌}
use mathlib.Core.List.{◌∷◌}
use Prim.Native.Nat.{suc, ◌+◌, ◌-◌, ◌≤◌, ◌<◌}
use native.Mathlib.Omega.{arith}
use lib.ListN.{length, length-set}
use Rattle.tree_file.proofs.Accepted.{sizes_hold}
use Rattle.places.proofs.Placing.{server, part_long, nodes_lent, back_long, nodes_back, server_kept, placing_begins, placeable, placing_turns, placing_ends}
use Rattle.places.proofs.note_places.Goals as goal

pub overflow_mul-end : goal.overflow_mul-end
overflow_mul-end c = omega (arith, (sizes_hold c.requires.accepted_sizes).nodes)

pub slice_bounds-node-items-count : goal.slice_bounds-node-items-count
slice_bounds-node-items-count c = (sizes_hold c.requires.accepted_sizes).some

pub slice_bounds-node-items-start : goal.slice_bounds-node-items-start
slice_bounds-node-items-start c = (sizes_hold c.requires.accepted_sizes).some

pub slice_bounds-node-items-end : goal.slice_bounds-node-items-end
slice_bounds-node-items-end c =
    let long : c.args.tree.nodes ≤ length c.note_depths.new.places = omega (arith, c.note_depths.auto.places, c.count_rows.auto.places, (sizes_hold c.requires.accepted_sizes).nodes) in
    rw length-set long

pub loop-node-init : goal.loop-node-init
loop-node-init c =
    placing_begins c.requires.accepted_sizes _ _ (nodes_lent c.note_depths.new.places c.args.tree.nodes) c.note_depths.ensures.depths
    (λ v h. c.note_depths.ensures.widths_kept v h ∙ c.count_rows.ensures v h)

pub place_node-end-requires : goal.place_node-end-requires
place_node-end-requires c =
    let long : c.args.tree.nodes ≤ length c.note_depths.new.places = omega (arith, c.note_depths.auto.places, c.count_rows.auto.places, (sizes_hold c.requires.accepted_sizes).nodes) in
    let below : suc c.loop-node.node-index < c.args.tree.nodes = omega (arith, c.loop-node-test.true, part_long c.note_depths.new.places c.args.tree.nodes long) in
    placeable c.requires.accepted_sizes c.loop-node.invariant (omega arith) below

pub loop-node-preserved : goal.loop-node-preserved
loop-node-preserved c =
    let long : c.args.tree.nodes ≤ length c.note_depths.new.places = omega (arith, c.note_depths.auto.places, c.count_rows.auto.places, (sizes_hold c.requires.accepted_sizes).nodes) in
    let below : suc c.loop-node.node-index < c.args.tree.nodes = omega (arith, c.loop-node-test.true, part_long c.note_depths.new.places c.args.tree.nodes long) in
    let there : suc c.loop-node.node-index < length (server ∷ c.loop-node.node-items) = omega (arith, c.loop-node-test.true, c.loop-node.auto.node-items) in
    let next : suc c.loop-node.node-index + 1 ≡ suc (c.loop-node.node-index + 1) = omega arith in
    rw next at (placing_turns c.requires.accepted_sizes c.loop-node.invariant (omega arith) below there c.place_node-end.ensures.node_after c.place_node-end.ensures.value)

pub returns : goal.returns
returns c =
    let some = (sizes_hold c.requires.accepted_sizes).some in
    let long : c.args.tree.nodes ≤ length c.note_depths.new.places = omega (arith, c.note_depths.auto.places, c.count_rows.auto.places, (sizes_hold c.requires.accepted_sizes).nodes) in
    let part = part_long c.note_depths.new.places c.args.tree.nodes long in
    let same : length c.loop-node.node-items ≡ c.args.tree.nodes - 1 = c.loop-node.auto.node-items ∙ part in
    let last : suc c.loop-node.node-index ≡ c.args.tree.nodes = omega (arith, c.loop-node-test.false, c.loop-node.auto.node-index-end, part) in
    let ends = placing_ends c.requires.accepted_sizes _ _ (nodes_back c.note_depths.new.places c.args.tree.nodes _ long some same) c.loop-node.invariant last
    (back_long c.note_depths.new.places c.args.tree.nodes _ long some same) (server_kept c.note_depths.new.places c.args.tree.nodes _ long some same) in
    record { value = ends.0; places = ends.1 }
