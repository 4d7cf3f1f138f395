-- `put_bytes`: appends bytes.
use Rattle.text_bytes.proofs.Appended.{append_keeps_length}
use Rattle.text_bytes.proofs.Bytes.{copied_room, copied_turns, copied_ends}
use Rattle.text_bytes.proofs.put_bytes.Goals as goal

pub put_byte-end-requires : goal.put_byte-end-requires
put_byte-end-requires c = copied_room c.loop-byte.invariant c.loop-byte-test.true c.requires

pub loop-byte-preserved : goal.loop-byte-preserved
loop-byte-preserved c = copied_turns c.loop-byte.invariant c.loop-byte-test.true c.put_byte-end.ensures

pub shape_of-text : goal.shape_of-text
shape_of-text c = append_keeps_length c.loop-byte.invariant.front

pub returns : goal.returns
returns c = copied_ends c.loop-byte.invariant c.loop-byte-test.false
