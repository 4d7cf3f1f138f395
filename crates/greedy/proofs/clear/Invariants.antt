-- `clear`: word f of the nodes before v is 0.
use Rattle.greedy.specs.Words.{word_number, Wrote}
use Rattle.greedy.proofs.clear.Given as goal

abbrev pub invariant-loop-v : goal.invariant-loop-v
invariant-loop-v l = Wrote l.n (word_number l.f) (λ _. 0) l.v l.initial.words l.words
