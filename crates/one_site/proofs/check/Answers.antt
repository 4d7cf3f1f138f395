-- `check`: the rules about the file, then rule 16, then rule 13.
use mathlib.Core.Path.{sym}
use Rattle.model.proofs.Verdicts.{refused_broken}
use Rattle.tree_file.proofs.Accepted.{accepted_long}
use Rattle.tree_file.proofs.Rulings.{asked, passes, stops, answered_as}
use Rattle.lent.proofs.Asked.{answered_sizes}
use Rattle.one_site.specs.Site.{site_verdict}
use Rattle.one_site.proofs.Asked.{site_of_file, site_held}
use Rattle.one_site.proofs.check.Goals as goal

pub returns-in_err-tree : goal.returns-in_err-tree
unfolding site_verdict
returns-in_err-tree c = answered_as _ _ _ _ c.from_residual.ensures.1 (stops _ _ (sym (refused_broken _ _ c.in_err-tree.ensures)))

pub returns-in_err-ask : goal.returns-in_err-ask
unfolding site_verdict
returns-in_err-ask c =
    answered_as _ _ _ _ c.from_residual-in_err-ask.ensures.1
    (passes _ (sym (answered_sizes _ c.in_ok-tree.ensures).accepted)
    (stops _ _ (asked _ _ c.in_err-ask.ensures (site_of_file _ _ _ c.in_ok-tree.ensures c.node_holds.ensures))))

pub of-requires : goal.of-requires
of-requires c = accepted_long _ (answered_sizes _ c.in_ok-tree.ensures).accepted

pub enough-requires : goal.enough-requires
enough-requires c = rw c.of.ensures (answered_sizes _ c.in_ok-tree.ensures)

pub returns-in_err-ask-2 : goal.returns-in_err-ask-2
unfolding site_verdict
returns-in_err-ask-2 c =
    answered_as _ _ _ _ c.from_residual-in_err-ask-2.ensures.1
    (passes _ (sym (answered_sizes _ c.in_ok-tree.ensures).accepted)
    (passes _ (asked _ _ c.in_ok-ask.ensures (site_of_file _ _ _ c.in_ok-tree.ensures c.node_holds.ensures))
    (asked _ _ c.in_err-ask-2.ensures (rw c.of.ensures at c.enough.ensures))))

pub returns : goal.returns
returns c =
    site_held _ _ _ c.in_ok-tree.ensures _ (asked _ _ c.in_ok-ask.ensures (site_of_file _ _ _ c.in_ok-tree.ensures c.node_holds.ensures))
    (asked _ _ c.in_ok-ask-2.ensures (rw c.of.ensures at c.enough.ensures))
