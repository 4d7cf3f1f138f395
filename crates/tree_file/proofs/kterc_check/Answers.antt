-- `kterc_check`: for a C host: 0, or the number of the first broken rule about the file.
use mathlib.Core.Path.{ap, ◌∙◌}
use Rattle.model.specs.Calls.{number_of, check_number}
use Rattle.tree_file.proofs.kterc_check.Goals as goal

pub returns-in-Ok : goal.returns-in-Ok
unfolding check_number
returns-in-Ok c = ap number_of c.in-Ok.ensures

pub returns-in-Err : goal.returns-in-Err
unfolding check_number
returns-in-Err c = c.from.ensures ∙ c.number-number.ensures ∙ ap number_of c.in-Err.ensures
