-- `report`: a refusal changes nothing, and an accepted call leaves both answers, which meet demand 3.
use mathlib.Core.Path.{sym, ◌∙◌}
use Rattle.model.proofs.Verdicts.{ask_passed}
use Rattle.tree_file.proofs.Accepted.{accepted_long}
use Rattle.tree_file.proofs.Rulings.{asked}
use Rattle.lent.proofs.Asked.{lent_told, lent_sizes}
use Rattle.report.proofs.Answers.{report_refused, report_before_buffers, report_asks_buffers, report_lent, report_written}
use Rattle.report.proofs.report.Goals as goal

pub returns-in_err-tree : goal.returns-in_err-tree
returns-in_err-tree c = report_refused _ _ _ _ c.from_residual.ensures.1 (report_before_buffers _ _ c.in_err-tree.ensures)

pub buffers_long-requires : goal.buffers_long-requires
buffers_long-requires c = (lent_sizes _ _ c.in_ok-tree.ensures).budget

pub returns-in_err-ask : goal.returns-in_err-ask
returns-in_err-ask c =
    report_refused _ _ _ _ c.from_residual-in_err-ask.ensures.1
    (asked 14 0 c.in_err-ask.ensures c.buffers_long.ensures ∙ report_asks_buffers _ _ c.in_ok-tree.ensures)

pub of-requires : goal.of-requires
of-requires c = accepted_long _ (lent_told _ c.in_ok-tree.ensures).0

pub make_report-requires : goal.make_report-requires
make_report-requires c =
    let long = ask_passed 14 0 _ (sym (asked 14 0 c.in_ok-ask.ensures c.buffers_long.ensures)) in
    rw c.of.ensures (report_lent _ _ c.in_ok-tree.ensures long)

pub returns : goal.returns
returns c =
    let long = ask_passed 14 0 _ (sym (asked 14 0 c.in_ok-ask.ensures c.buffers_long.ensures)) in
    report_written _ _ c.in_ok-tree.ensures long (rw c.of.ensures at c.make_report.ensures)
