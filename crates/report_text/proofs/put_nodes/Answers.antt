-- `put_nodes`: appends the nodes of a row.
use mathlib.Core.Path.{◌≡◌}
use mathlib.Core.List.{flat_map}
use Prim.Native.Nat.{◌*◌}
use native.Mathlib.Omega.{arith}
use lib.ListN.{length}
use lib.Seq.{take_all}
use Rattle.laws.specs.Lists.{those}
use Rattle.text_bytes.proofs.Appended.{append_keeps_length}
use Rattle.report_text.specs.Lines.{word_room}
use Rattle.report_text.proofs.Rooms.{within_none, within_next}
use Rattle.report_text.proofs.Words.{words_snoc}
use Rattle.report_text.proofs.put_nodes.Goals as goal

pub loop-entry-init : goal.loop-entry-init
unfolding flat_map those
loop-entry-init c = within_none (0 * word_room) _ _

pub put_node-end-requires : goal.put_node-end-requires
put_node-end-requires c = omega (arith, c.loop-entry.invariant.within, append_keeps_length c.loop-entry.invariant.appended)

pub loop-entry-preserved : goal.loop-entry-preserved
loop-entry-preserved c = within_next c.loop-entry.entry-index (words_snoc c.args.row.now c.loop-entry.entry-index (omega arith)) c.loop-entry.invariant c.put_node-end.ensures

pub shape_of-text : goal.shape_of-text
shape_of-text c = append_keeps_length c.loop-entry.invariant.appended

pub returns : goal.returns
returns c =
    let all : c.loop-entry.entry-index ≡ length c.args.row.now = omega arith in
    rw all at (rw (take_all c.loop-entry.entry-index c.args.row.now (omega arith)) at c.loop-entry.invariant)
