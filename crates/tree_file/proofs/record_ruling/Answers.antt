-- The rules of one record asked one after the other.
use mathlib.Core.Path.{sym, ap}
use lib.Dec.{leb}
use Rattle.model.specs.File.{most_depth}
use Rattle.model.specs.Rules.{record_verdict}
use Rattle.model.proofs.Verdicts.{ask_passed}
use Rattle.tree_file.proofs.Records.{climbs_here}
use Rattle.tree_file.proofs.Rulings.{asked, passes, stops, refused_as}
use Rattle.tree_file.proofs.record_ruling.Goals as goal

pub returns-in_err-ask_of : goal.returns-in_err-ask_of
unfolding record_verdict
returns-in_err-ask_of c = refused_as _ _ c.from_residual.ensures.1 (stops _ _ (asked _ _ c.in_err-ask_of.ensures c.parent_holds.ensures))

pub depth_of-requires-clause-climbable : goal.depth_of-requires-clause-climbable
depth_of-requires-clause-climbable c = climbs_here _ _ c.requires.next_record (ask_passed _ _ _ (sym (asked _ _ c.in_ok-ask_of.ensures c.parent_holds.ensures)))

pub returns-in_err-ask_of-2 : goal.returns-in_err-ask_of-2
unfolding record_verdict
returns-in_err-ask_of-2 c =
    refused_as _ _ c.from_residual-in_err-ask_of-2.ensures.1
    (passes _ (asked _ _ c.in_ok-ask_of.ensures c.parent_holds.ensures)
    (stops _ _ (asked _ _ c.in_err-ask_of-2.ensures (ap (λ d. leb d most_depth) c.depth_of.ensures))))

pub returns-in_err-ask_of-3 : goal.returns-in_err-ask_of-3
unfolding record_verdict
returns-in_err-ask_of-3 c =
    refused_as _ _ c.from_residual-in_err-ask_of-3.ensures.1
    (passes _ (asked _ _ c.in_ok-ask_of.ensures c.parent_holds.ensures)
    (passes _ (asked _ _ c.in_ok-ask_of-2.ensures (ap (λ d. leb d most_depth) c.depth_of.ensures))
    (stops _ _ (asked _ _ c.in_err-ask_of-3.ensures c.length_holds.ensures))))

pub returns-in_err-ask_of-4 : goal.returns-in_err-ask_of-4
unfolding record_verdict
returns-in_err-ask_of-4 c =
    refused_as _ _ c.from_residual-in_err-ask_of-4.ensures.1
    (passes _ (asked _ _ c.in_ok-ask_of.ensures c.parent_holds.ensures)
    (passes _ (asked _ _ c.in_ok-ask_of-2.ensures (ap (λ d. leb d most_depth) c.depth_of.ensures))
    (passes _ (asked _ _ c.in_ok-ask_of-3.ensures c.length_holds.ensures)
    (stops _ _ (asked _ _ c.in_err-ask_of-4.ensures c.is_within.ensures)))))

pub returns : goal.returns
unfolding record_verdict
returns c =
    passes _ (asked _ _ c.in_ok-ask_of.ensures c.parent_holds.ensures)
    (passes _ (asked _ _ c.in_ok-ask_of-2.ensures (ap (λ d. leb d most_depth) c.depth_of.ensures))
    (passes _ (asked _ _ c.in_ok-ask_of-3.ensures c.length_holds.ensures)
    (passes _ (asked _ _ c.in_ok-ask_of-4.ensures c.is_within.ensures)
    c.last_ruling.ensures)))
