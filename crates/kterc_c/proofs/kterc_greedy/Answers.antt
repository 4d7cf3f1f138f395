-- `kterc_greedy`: for each budget from 0 to k the total that the greedy rule reaches.
use Rattle.kterc_c.proofs.Named.{greedy_told}
use Rattle.kterc_c.proofs.kterc_greedy.Goals as goal

pub returns : goal.returns
returns c = let whole = greedy_told c.code_of.ensures c.greedy.ensures in
    record { value = whole.0; fact = whole.1 }
