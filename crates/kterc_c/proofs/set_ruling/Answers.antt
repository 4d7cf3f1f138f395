-- `set_ruling`: the rules that a bill asks before rule 14.
use mathlib.Core.Path.{sym}
use Rattle.tree_file.proofs.Accepted.{accepted_long}
use Rattle.tree_file.proofs.Rulings.{asked, passes, stops, refused_as}
use Rattle.placement.proofs.Bills.{accepted_file_lem}
use Rattle.kterc_c.proofs.set_ruling.Goals as goal

pub returns-in_err-file_ruling : goal.returns-in_err-file_ruling
returns-in_err-file_ruling c = refused_as _ _ c.from_residual.ensures.1 (stops _ _ c.in_err-file_ruling.ensures)

pub of-file-requires : goal.of-file-requires
of-file-requires c = accepted_long _ (sym c.in_ok-file_ruling.ensures)

pub is_set-requires : goal.is_set-requires
is_set-requires c = rw c.of-file.ensures (accepted_file_lem _ c.in_ok-file_ruling.ensures (rw c.of-file.ensures at c.count.ensures))

pub returns : goal.returns
returns c = passes _ c.in_ok-file_ruling.ensures (asked _ _ c.ask.ensures (rw c.of-file.ensures at c.is_set.ensures))
