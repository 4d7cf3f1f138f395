-- `measure_node`: stores the distance and the depth of node `v`, from those of its parent.
use mathlib.Core.Path.{ap, ap₂, ◌∙◌}
use Prim.Native.Nat.{◌+◌}
use native.Mathlib.Omega.{arith}
use Rattle.node_words.proofs.Words.{room_record, room_above}
use Rattle.node_words.proofs.Measures.{measured_small, measured_site}
use Rattle.node_words.proofs.measure_node.Goals as goal

pub parent-up-requires : goal.parent-up-requires
parent-up-requires c = room_record c.requires.site_room.nodes c.requires.site_room.below

pub distance_of-requires : goal.distance_of-requires
distance_of-requires c = room_above c.requires.site_room c.parent-up.ensures

pub link_length-requires : goal.link_length-requires
link_length-requires c = room_record c.requires.site_room.nodes c.requires.site_room.below

pub add-distance-requires : goal.add-distance-requires
add-distance-requires c = omega (arith, (measured_small _ c.requires.site_room c.requires.measured c.parent-up.ensures).0, c.distance_of.ensures, c.link_length.ensures)

pub word_of-depth-requires : goal.word_of-depth-requires
word_of-depth-requires c = room_above c.requires.site_room c.parent-up.ensures

pub overflow_add-depth : goal.overflow_add-depth
overflow_add-depth c = omega (arith, (measured_small _ c.requires.site_room c.requires.measured c.parent-up.ensures).1, c.word_of-depth.ensures)

pub returns-clause-measured_2 : goal.returns-clause-measured_2
returns-clause-measured_2 c = (measured_site _ c.requires.site_room c.requires.measured c.parent-up.ensures
    (c.add-distance.ensures ∙ ap₂ ◌+◌ c.distance_of.ensures c.link_length.ensures) (ap (λ d. d + 1) c.word_of-depth.ensures) c.put.ensures c.put-2.ensures).0
