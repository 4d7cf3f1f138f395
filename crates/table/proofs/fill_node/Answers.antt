-- `fill_node`: stores the lines of node v, for each node above it as the serving node, from its parent up to the server.
use mathlib.Core.Path.{◌≡◌, ◌∙◌}
use Prim.Native.Nat.{◌-◌}
use native.Mathlib.Nat.{le_refl}
use native.Mathlib.Omega.{arith}
use Rattle.model.specs.File.{tree_of, demand_of}
use Rattle.node_words.proofs.Words.{room_record}
use Rattle.table.specs.Table.{Served}
use Rattle.table.specs.Wishes.{wish_of}
use Rattle.table.proofs.Lines.{wished_itself, wished_above}
use Rattle.table.proofs.Room.{room_nodes, stored_node, stored_client}
use Rattle.table.proofs.Reading.{served_above_it}
use Rattle.table.proofs.Climb.{climb_begins, climb_record, climb_up}
use Rattle.table.proofs.Fill.{next_line, line_filled, node_begins, node_ends, filled_none, filled_then}
use Rattle.table.proofs.fill_node.Goals as goal

pub cachable-part-requires : goal.cachable-part-requires
cachable-part-requires c = room_record (room_nodes c.requires.table_from.stored.room) c.requires.v_nonzero.1

pub pays_itself-itself-requires-clause-client : goal.pays_itself-itself-requires-clause-client
pays_itself-itself-requires-clause-client c = stored_client c.requires.table_from.stored c.requires.v_nonzero.1 (le_refl _) (le_refl _)

pub depth_word-a-requires : goal.depth_word-a-requires
depth_word-a-requires c = stored_node c.requires.table_from.stored c.requires.v_nonzero.1

pub loop-a-init : goal.loop-a-init
loop-a-init c = let deep = c.depth_word-a.ensures ∙ c.requires.table_from.stored.words.depth _ c.requires.v_nonzero.1 in
    (climb_begins c.requires.table_from.stored.room c.requires.v_nonzero.1 deep, rw deep (filled_none (node_begins c.requires.v_nonzero.0 c.requires.table_from)))

pub parent-u-requires : goal.parent-u-requires
parent-u-requires c = let deep = c.depth_word-a.ensures ∙ c.requires.table_from.stored.words.depth _ c.requires.v_nonzero.1 in
    climb_record c.requires.table_from.stored.room c.requires.v_nonzero.1 (omega (arith, deep)) c.loop-a.invariant.0

pub pays-above-requires-clause-client : goal.pays-above-requires-clause-client
pays-above-requires-clause-client c =
    let deep = c.depth_word-a.ensures ∙ c.requires.table_from.stored.words.depth _ c.requires.v_nonzero.1 in
    let up = climb_up c.requires.table_from.stored.room c.requires.v_nonzero.1 c.requires.v_nonzero.0 (omega arith) (omega (arith, deep)) c.loop-a.invariant.0 c.parent-u.ensures in
    served_above_it c.loop-a.invariant.1.table up

pub fill_one-requires : goal.fill_one-requires
fill_one-requires c =
    let deep = c.depth_word-a.ensures ∙ c.requires.table_from.stored.words.depth _ c.requires.v_nonzero.1 in
    let t = tree_of c.args.file.now in
    let d = demand_of c.args.file.now in
    record {
      table = next_line _ (omega arith) c.loop-a.invariant.1.table;
      served = climb_up c.requires.table_from.stored.room c.requires.v_nonzero.1 c.requires.v_nonzero.0 (omega arith) (omega (arith, deep)) c.loop-a.invariant.0 c.parent-u.ensures;
      pays_itself = wished_itself t d c.args.v c.parent-u.result (wish_of c.args.wish) c.pays_itself-itself.ensures c.price_under-member.ensures;
      pays_above = wished_above t d c.args.v c.parent-u.result (wish_of c.args.wish) c.pays-above.ensures c.price_under-other.ensures;
    }

pub loop-a-preserved : goal.loop-a-preserved
loop-a-preserved c =
    let deep = c.depth_word-a.ensures ∙ c.requires.table_from.stored.words.depth _ c.requires.v_nonzero.1 in
    let up : Served (tree_of c.args.file.now) c.args.v (c.loop-a.a - 1) c.parent-u.result =
    climb_up c.requires.table_from.stored.room c.requires.v_nonzero.1 c.requires.v_nonzero.0 (omega arith) (omega (arith, deep)) c.loop-a.invariant.0 c.parent-u.ensures in
    (up.ancestor, filled_then c.loop-a.invariant.1 (line_filled (next_line _ (omega arith) c.loop-a.invariant.1.table) up c.fill_one.ensures))

pub returns : goal.returns
returns c = let all : c.loop-a.a ≡ 0 = omega arith in
    node_ends c.requires.v_nonzero.0 (rw all at c.loop-a.invariant.1)
