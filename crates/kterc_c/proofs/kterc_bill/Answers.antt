-- `kterc_bill`: the bill of a set.
use Rattle.kterc_c.proofs.Named.{bill_told}
use Rattle.kterc_c.proofs.kterc_bill.Goals as goal

pub returns : goal.returns
returns c = let whole = bill_told c.code_of.ensures c.bill.ensures in
    record { value = whole.0; fact = whole.1 }
