-- `kterc_with_without`: the least totals with a node and without it.
use Rattle.kterc_c.proofs.Named.{with_without_told}
use Rattle.kterc_c.proofs.kterc_with_without.Goals as goal

pub returns : goal.returns
returns c = let whole = with_without_told c.code_of.ensures c.with_without.ensures in
    record { value = whole.0; fact = whole.1 }
