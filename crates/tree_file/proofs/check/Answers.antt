-- `check`: the rules about the file, and n, k and h of an accepted file.
use mathlib.Core.Path.{sym}
use Rattle.tree_file.proofs.Accepted.{accepted_long}
use Rattle.tree_file.proofs.Rulings.{answered_as}
use Rattle.tree_file.proofs.Services.{sizes_answered}
use Rattle.tree_file.proofs.check.Goals as goal

pub returns-in_err-file_ruling : goal.returns-in_err-file_ruling
returns-in_err-file_ruling c = answered_as _ _ _ _ c.from_residual.ensures.1 c.in_err-file_ruling.ensures

pub of-file-requires : goal.of-file-requires
of-file-requires c = accepted_long _ (sym c.in_ok-file_ruling.ensures)

pub height_of-height-requires : goal.height_of-height-requires
height_of-height-requires c = rw c.of-file.ensures (sym c.in_ok-file_ruling.ensures)

pub returns : goal.returns
returns c =
    sizes_answered _ _ c.in_ok-file_ruling.ensures (rw c.of-file.ensures at c.count-nodes.ensures) (rw c.of-file.ensures at c.budget-budget.ensures)
    (rw c.of-file.ensures at c.height_of-height.ensures)
