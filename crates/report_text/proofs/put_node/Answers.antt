-- `put_node`: appends an entry of a row, and nothing where it is 0.
use Rattle.report_text.specs.Lines.{word_room}
use Rattle.report_text.proofs.Rooms.{within_none}
use Rattle.report_text.proofs.Words.{zero_no_word, node_one_word}
use Rattle.report_text.proofs.put_node.Goals as goal

pub returns-then-entry-eq0 : goal.returns-then-entry-eq0
returns-then-entry-eq0 c = rw (zero_no_word c.if-entry-eq0.true) (within_none word_room _ _)

pub returns : goal.returns
returns c = rw (node_one_word c.if-entry-eq0.false) (rw c.from.ensures at c.put_word.ensures)
