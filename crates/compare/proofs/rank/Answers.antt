-- `rank`: the rules about the file, then rule 12 for each set, asked one after the other, then which set ranks first.
use mathlib.Core.Path.{sym, ◌∙◌}
use mathlib.Core.Bool.{true, false}
use Rattle.model.specs.Calls.{rank_verdict}
use Rattle.model.proofs.Verdicts.{ask_passed}
use Rattle.tree_file.proofs.Accepted.{accepted_long}
use Rattle.tree_file.proofs.Rulings.{asked, passes, stops}
use Rattle.placement.proofs.Bills.{accepted_file_lem, set_of_file}
use Rattle.compare.proofs.Rankings.{ranking_refused, ranking_answered}
use Rattle.compare.proofs.rank.Goals as goal

pub returns-in_err-file_ruling : goal.returns-in_err-file_ruling
unfolding rank_verdict
returns-in_err-file_ruling c = ranking_refused _ _ _ _ _ c.from_residual.ensures.1 (stops _ _ c.in_err-file_ruling.ensures)

pub of-file-requires : goal.of-file-requires
of-file-requires c = accepted_long _ (sym c.in_ok-file_ruling.ensures)

pub is_set-requires : goal.is_set-requires
is_set-requires c = rw c.of-file.ensures (accepted_file_lem _ c.in_ok-file_ruling.ensures (rw c.of-file.ensures at c.count-n.ensures))

pub returns-in_err-ask : goal.returns-in_err-ask
unfolding rank_verdict
returns-in_err-ask c =
    ranking_refused _ _ _ _ _ c.from_residual-in_err-ask.ensures.1
    (passes _ c.in_ok-file_ruling.ensures
    (stops _ _ (asked _ _ c.in_err-ask.ensures (rw c.of-file.ensures at c.is_set.ensures))))

pub is_set-requires-2 : goal.is_set-requires-2
is_set-requires-2 c = rw c.of-file.ensures (accepted_file_lem _ c.in_ok-file_ruling.ensures (rw c.of-file.ensures at c.count-n.ensures))

pub returns-in_err-ask-2 : goal.returns-in_err-ask-2
unfolding rank_verdict
returns-in_err-ask-2 c =
    ranking_refused _ _ _ _ _ c.from_residual-in_err-ask-2.ensures.1
    (passes _ c.in_ok-file_ruling.ensures
    (passes _ (asked _ _ c.in_ok-ask.ensures (rw c.of-file.ensures at c.is_set.ensures))
    (asked _ _ c.in_err-ask-2.ensures (rw c.of-file.ensures at c.is_set-2.ensures))))

pub ranks_before-requires : goal.ranks_before-requires
ranks_before-requires c =
    let nodes = rw c.of-file.ensures at c.count-n.ensures in
    let first_set = ask_passed 12 0 _ (sym (asked _ _ c.in_ok-ask.ensures (rw c.of-file.ensures at c.is_set.ensures))) in
    let second_set = ask_passed 12 0 _ (sym (asked _ _ c.in_ok-ask-2.ensures (rw c.of-file.ensures at c.is_set-2.ensures))) in
    rw c.of-file.ensures (set_of_file _ _ c.in_ok-file_ruling.ensures nodes second_set, set_of_file _ _ c.in_ok-file_ruling.ensures nodes first_set)

pub returns-then-ranks_before : goal.returns-then-ranks_before
unfolding rank_verdict
returns-then-ranks_before c =
    ranking_answered _ _ _
    (passes _ c.in_ok-file_ruling.ensures
    (passes _ (asked _ _ c.in_ok-ask.ensures (rw c.of-file.ensures at c.is_set.ensures))
    (asked _ _ c.in_ok-ask-2.ensures (rw c.of-file.ensures at c.is_set-2.ensures))))
    {b = true} (sym (rw c.of-file.ensures at c.ranks_before.ensures) ∙ c.if-ranks_before.true)

pub returns : goal.returns
unfolding rank_verdict
returns c =
    ranking_answered _ _ _
    (passes _ c.in_ok-file_ruling.ensures
    (passes _ (asked _ _ c.in_ok-ask.ensures (rw c.of-file.ensures at c.is_set.ensures))
    (asked _ _ c.in_ok-ask-2.ensures (rw c.of-file.ensures at c.is_set-2.ensures))))
    {b = false} (sym (rw c.of-file.ensures at c.ranks_before.ensures) ∙ c.if-ranks_before.false)
