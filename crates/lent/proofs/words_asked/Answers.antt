-- `words_asked`: the words that rule 13 asks of an accepted file, 0 for a refused one.
use Rattle.tree_file.proofs.Accepted.{accepted_long}
use Rattle.lent.proofs.Asked.{answered_sizes, words_of_accepted, words_of_refused_lem}
use Rattle.lent.proofs.words_asked.Goals as goal

pub of-requires : goal.of-requires
of-requires c = accepted_long _ (answered_sizes _ c.in-Ok.ensures).accepted

pub returns-in-Ok : goal.returns-in-Ok
returns-in-Ok c = words_of_accepted _ c.in-Ok.ensures (rw c.of.ensures at c.scratch_words.ensures)

pub returns-in-Err : goal.returns-in-Err
returns-in-Err c = words_of_refused_lem _ _ _ c.in-Err.ensures
