-- `check`: the rules about the file, then rule 13.
use mathlib.Core.Path.{sym}
use Rattle.model.proofs.Verdicts.{refused_broken}
use Rattle.tree_file.proofs.Accepted.{accepted_long}
use Rattle.tree_file.proofs.Rulings.{asked, passes, stops, answered_as}
use Rattle.lent.specs.Lent.{lent_verdict}
use Rattle.lent.proofs.Asked.{answered_sizes, scratch_held}
use Rattle.lent.proofs.check.Goals as goal

pub returns-in_err-tree : goal.returns-in_err-tree
unfolding lent_verdict
returns-in_err-tree c = answered_as _ _ _ _ c.from_residual.ensures.1 (stops _ _ (sym (refused_broken _ _ c.in_err-tree.ensures)))

pub of-requires : goal.of-requires
of-requires c = accepted_long _ (answered_sizes _ c.in_ok-tree.ensures).accepted

pub returns-in_err-ask : goal.returns-in_err-ask
unfolding lent_verdict
returns-in_err-ask c =
    answered_as _ _ _ _ c.from_residual-in_err-ask.ensures.1
    (passes _ (sym (answered_sizes _ c.in_ok-tree.ensures).accepted) (asked _ _ c.in_err-ask.ensures (rw c.of.ensures at c.enough.ensures)))

pub returns : goal.returns
returns c = scratch_held _ c.in_ok-tree.ensures _ (asked _ _ c.in_ok-ask.ensures (rw c.of.ensures at c.enough.ensures))
