-- `with_or_without`: the least total of all sets of at most b nodes that contain the node, or none, and the least of those that don't.
use Rattle.tree_file.proofs.Accepted.{accepted_long}
use Rattle.one_site.proofs.Asked.{site_refused, site_room_lem, site_asked, site_answered}
use Rattle.one_site.proofs.with_or_without.Goals as goal

pub returns-in_err-tree : goal.returns-in_err-tree
returns-in_err-tree c = site_refused _ _ _ _ _ _ c.from_residual.ensures.1 c.in_err-tree.ensures

pub of-requires : goal.of-requires
of-requires c = accepted_long _ (site_asked _ _ _ _ c.in_ok-tree.ensures).accepted

pub least_totals-requires : goal.least_totals-requires
least_totals-requires c =
    rw c.of.ensures (record {
      lent_room = site_room_lem _ _ _ c.args.scratch.now c.in_ok-tree.ensures;
      asked_site = site_asked _ _ _ c.args.scratch.now c.in_ok-tree.ensures;
    })

pub returns : goal.returns
returns c =
    site_answered _ _ _ _ c.in_ok-tree.ensures (rw c.of.ensures at c.least_totals.ensures.result_value)
    (rw c.of.ensures at c.least_totals.ensures.front_only)
