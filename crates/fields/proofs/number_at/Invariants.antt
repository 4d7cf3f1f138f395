-- `number_at`: the number in `width` bytes from `at` on, most significant byte first.
use Rattle.fields.proofs.Reading.{Reading}
use Rattle.fields.proofs.number_at.Given as goal

abbrev pub invariant-loop-byte : goal.invariant-loop-byte
invariant-loop-byte l = Reading l.file l.at l.width l.value l.byte-index
