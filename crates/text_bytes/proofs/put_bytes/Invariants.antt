-- `put_bytes`: appends bytes.
use Rattle.text_bytes.proofs.Bytes.{Copied}
use Rattle.text_bytes.proofs.put_bytes.Given as goal

abbrev pub invariant-loop-byte : goal.invariant-loop-byte
invariant-loop-byte l = Copied l.at l.bytes l.initial.text l.byte-index l.text l.end
