-- `pass_on`: what reaches a site reaches its parent too.
use native.Mathlib.Omega.{arith}
use Rattle.node_words.proofs.Words.{room_record, room_above}
use Rattle.greedy.proofs.Passes.{passed_on, passed_small}
use Rattle.greedy.proofs.pass_on.Goals as goal

pub parent-up-requires : goal.parent-up-requires
parent-up-requires c = room_record c.requires.site_room.nodes c.requires.site_room.below

pub word_of-requires-2 : goal.word_of-requires-2
word_of-requires-2 c = room_above c.requires.site_room c.parent-up.ensures

pub add-reach-requires : goal.add-reach-requires
add-reach-requires c = omega (arith, passed_small c.requires.site_room c.requires.passed_from c.parent-up.ensures, c.word_of.ensures, c.word_of-2.ensures)

pub put-requires : goal.put-requires
put-requires c = room_above c.requires.site_room c.parent-up.ensures

pub returns : goal.returns
returns c = passed_on c.requires.site_room c.requires.passed_from c.parent-up.ensures (omega (arith, c.add-reach.ensures, c.word_of.ensures, c.word_of-2.ensures)) c.put.ensures
