-- `note_depths`: stores the depth of each node, one more than its parent's, and keeps the rest.
use Rattle.places.specs.Places.{width_in, EntriesAre}
use Rattle.places.proofs.Counting.{DepthsNoted}
use Rattle.places.proofs.note_depths.Given as goal

abbrev pub invariant-loop-v : goal.invariant-loop-v
invariant-loop-v l = DepthsNoted l.file l.n l.places l.v × EntriesAre (width_in l.fn.places) (width_in l.places) l.n
