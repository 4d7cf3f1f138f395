-- `bill`: the bill, with its total as a buffer.
use mathlib.Core.Path.{◌∙◌}
use Rattle.kterc_c.proofs.Bills.{rules_and_room, bill_no_room, bill_refused, bill_billed}
use Rattle.kterc_c.proofs.bill.Goals as goal

pub returns-then-total-lt1 : goal.returns-then-total-lt1
returns-then-total-lt1 c = bill_no_room _ _ _ (c.no_room_after.ensures ∙ rules_and_room _ _ c.set_ruling.ensures) c.if-total-lt1.true

pub returns-in_err-sum : goal.returns-in_err-sum
returns-in_err-sum c = bill_refused _ _ _ c.if-total-lt1.false _ _ c.from_residual.ensures.1 c.in_err-sum.ensures

pub returns : goal.returns
returns c = bill_billed _ _ _ c.if-total-lt1.false c.in_ok-sum.ensures
