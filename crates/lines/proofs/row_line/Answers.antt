-- `row_line`: makes a row's line from its first node's line and its later siblings'.
use mathlib.Core.Path.{◌∙◌}
use Rattle.lines.proofs.Row.{joined_swapped}
use Rattle.lines.proofs.row_line.Goals as goal

pub returns-then-node-rest : goal.returns-then-node-rest
returns-then-node-rest c = c.joined.ensures ∙ joined_swapped _ _ _
