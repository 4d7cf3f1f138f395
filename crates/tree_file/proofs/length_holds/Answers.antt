-- `length_holds`: rule 9.
use Rattle.tree_file.proofs.Records.{length_of_server, length_of_other}
use Rattle.tree_file.proofs.length_holds.Goals as goal

pub returns-then-i-eq0 : goal.returns-then-i-eq0
returns-then-i-eq0 c = length_of_server _ _ _ c.if-i-eq0.true c.field.ensures.value

pub returns : goal.returns
returns c = length_of_other _ _ _ c.if-i-eq0.false c.is_within.ensures
