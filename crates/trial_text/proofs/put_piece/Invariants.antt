-- `put_piece`: the file stays within its room.
use Rattle.std.proofs.Common.{◌≤◌, length}
use Rattle.trial_text.proofs.put_piece.Given as goal

abbrev pub invariant-loop : goal.invariant-loop
invariant-loop l = l.end ≤ length l.room

abbrev pub invariant-loop-pair : goal.invariant-loop-pair
invariant-loop-pair l =
    (goal.iterator-loop-pair).can_next l.pair-iterator
    × (goal.iterator-loop-pair).is_finite l.pair-iterator
    × (l.end ≤ length l.room)
