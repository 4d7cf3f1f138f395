-- `fill_one`: stores the line of v in its place.
use native.Mathlib.Omega.{arith}
use Rattle.table.proofs.Places.{place_asked}
use Rattle.table.proofs.Reading.{served_room}
use Rattle.table.proofs.OneLine.{line_in_lem}
use Rattle.table.proofs.fill_one.Goals as goal

pub depth_word-depth-requires : goal.depth_word-depth-requires
depth_word-depth-requires c = served_room c.requires.table c.requires.served

pub child_of-child-requires : goal.child_of-child-requires
child_of-child-requires c = served_room c.requires.table c.requires.served

pub sibling_of-sibling-requires : goal.sibling_of-sibling-requires
sibling_of-sibling-requires c = served_room c.requires.table c.requires.served

pub line_at-start-requires : goal.line_at-start-requires
line_at-start-requires c = place_asked (line_in_lem c.requires) (omega arith)

pub split_at_mut-before-requires : goal.split_at_mut-before-requires
split_at_mut-before-requires c = omega (arith, (line_in_lem c.requires).inside)
