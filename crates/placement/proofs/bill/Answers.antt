-- `bill`: the rules about the file, 12 and 14, asked one after the other, then the total, with both buffers written.
use mathlib.Core.Path.{sym, ap}
use lib.Dec.{leb}
use lib.ListN.{length}
use Rattle.model.specs.Calls.{bill_verdict}
use Rattle.model.proofs.Verdicts.{ask_passed}
use Rattle.tree_file.proofs.Accepted.{accepted_long}
use Rattle.tree_file.proofs.Rulings.{asked, passes, stops, first_breaks, second_breaks}
use Rattle.placement.proofs.Bills.{accepted_file_lem, bill_refused, buffers_walkable, buffers_pass, bill_answered}
use Rattle.placement.proofs.bill.Goals as goal

pub returns-in_err-file_ruling : goal.returns-in_err-file_ruling
unfolding bill_verdict
returns-in_err-file_ruling c = bill_refused _ _ _ _ _ c.from_residual.ensures.1 (stops _ _ c.in_err-file_ruling.ensures)

pub of-file-requires : goal.of-file-requires
of-file-requires c = accepted_long _ (sym c.in_ok-file_ruling.ensures)

pub is_set-requires : goal.is_set-requires
is_set-requires c = rw c.of-file.ensures (accepted_file_lem _ c.in_ok-file_ruling.ensures (rw c.of-file.ensures at c.count-n.ensures))

pub returns-in_err-ask : goal.returns-in_err-ask
unfolding bill_verdict
returns-in_err-ask c =
    bill_refused _ _ _ _ _ c.from_residual-in_err-ask.ensures.1
    (passes _ c.in_ok-file_ruling.ensures
    (stops _ _ (asked _ _ c.in_err-ask.ensures (rw c.of-file.ensures at c.is_set.ensures))))

pub returns-in_err-ask-2 : goal.returns-in_err-ask-2
unfolding bill_verdict
returns-in_err-ask-2 c =
    bill_refused _ _ _ _ _ c.from_residual-in_err-ask-2.ensures.1
    (passes _ c.in_ok-file_ruling.ensures
    (passes _ (asked _ _ c.in_ok-ask.ensures (rw c.of-file.ensures at c.is_set.ensures))
    (first_breaks _ 14 0 _ _ (asked _ _ c.in_err-ask-2.ensures (ap (λ n. leb n (length c.args.servings.now)) (rw c.of-file.ensures at c.count-n.ensures))))))

pub returns-in_err-ask-3 : goal.returns-in_err-ask-3
unfolding bill_verdict
returns-in_err-ask-3 c =
    bill_refused _ _ _ _ _ c.from_residual-in_err-ask-3.ensures.1
    (passes _ c.in_ok-file_ruling.ensures
    (passes _ (asked _ _ c.in_ok-ask.ensures (rw c.of-file.ensures at c.is_set.ensures))
    (second_breaks _ 14 0 _ _
    (asked _ _ c.in_ok-ask-2.ensures (ap (λ n. leb n (length c.args.servings.now)) (rw c.of-file.ensures at c.count-n.ensures)))
    (asked _ _ c.in_err-ask-3.ensures (ap (λ n. leb n (length c.args.loads.now)) (rw c.of-file.ensures at c.count-n.ensures))))))

pub write_bill-requires : goal.write_bill-requires
write_bill-requires c =
    let given = accepted_file_lem _ c.in_ok-file_ruling.ensures (rw c.of-file.ensures at c.count-n.ensures) in
    rw c.of-file.ensures (record {
      billable = record { of_file = given; of_nodes = ask_passed 12 0 _ (sym (asked _ _ c.in_ok-ask.ensures (rw c.of-file.ensures at c.is_set.ensures))) };
      walkable = buffers_walkable _ c.args.set.now _ (rw c.of-file.ensures at c.count-n.ensures) c.in_ok-ask-2.ensures c.in_ok-ask-3.ensures given;
    })

pub returns : goal.returns
unfolding bill_verdict
returns c =
    let nodes = rw c.of-file.ensures at c.count-n.ensures in
    let whole =
    passes _ c.in_ok-file_ruling.ensures
    (passes _ (asked _ _ c.in_ok-ask.ensures (rw c.of-file.ensures at c.is_set.ensures))
    (buffers_pass _ c.args.set.now _ nodes c.in_ok-ask-2.ensures c.in_ok-ask-3.ensures)) in
    bill_answered _ _ _ nodes c.in_ok-ask-2.ensures c.in_ok-ask-3.ensures whole (rw c.of-file.ensures at c.write_bill.ensures)
