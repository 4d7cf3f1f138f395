-- `link_node`: puts node `v` in front of the list of its parent's children.
use native.Mathlib.Omega.{arith}
use Rattle.node_words.proofs.Words.{room_record, room_above}
use Rattle.node_words.proofs.Links.{linked_site}
use Rattle.node_words.proofs.link_node.Goals as goal

pub parent-up-requires : goal.parent-up-requires
parent-up-requires c = room_record c.requires.site_room.nodes c.requires.site_room.below

pub word_of-first-requires : goal.word_of-first-requires
word_of-first-requires c = room_above c.requires.site_room c.parent-up.ensures

pub put-requires-2 : goal.put-requires-2
put-requires-2 c = omega (arith, room_above c.requires.site_room c.parent-up.ensures)

pub returns : goal.returns
returns c = let whole = linked_site _ c.requires.site_room c.requires.linked c.parent-up.ensures c.word_of-first.ensures c.put.ensures c.put-2.ensures in
    record { linked_2 = whole.0; links_only = whole.1 }
