-- `with_without`: the least totals with a node and without it, as a buffer.
use mathlib.Core.Path.{◌∙◌}
use lib.ListN.{length}
use Rattle.tree_file.specs.Checks.{sizes_of}
use Rattle.one_site.specs.Site.{site_verdict}
use Rattle.kterc_c.proofs.Room.{short_after}
use Rattle.kterc_c.proofs.Sites.{both_no_room, found_refused, found_written}
use Rattle.kterc_c.proofs.with_without.Goals as goal

pub returns-then-totals-lt2 : goal.returns-then-totals-lt2
returns-then-totals-lt2 c = let rules = site_verdict c.args.file.now c.args.node c.args.budget (length c.args.scratch.now) in
    both_no_room _ _ _ _ (c.no_room_after.ensures ∙ short_after _ rules (sizes_of c.args.file.now) c.check.ensures) c.if-totals-lt2.true

pub returns-in_err-leasts : goal.returns-in_err-leasts
returns-in_err-leasts c = found_refused _ _ _ _ c.if-totals-lt2.false _ _ c.from_residual.ensures.1 c.in_err-leasts.ensures

pub returns : goal.returns
returns c = rw c.total_or_none.ensures (found_written _ _ _ _ c.if-totals-lt2.false _ _ c.in_ok-leasts.ensures)
