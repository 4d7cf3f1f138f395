-- `kterc_plan`: for each budget from 0 to k the least total and the nodes of the plan.
use Rattle.kterc_c.proofs.Named.{plan_told}
use Rattle.kterc_c.proofs.kterc_plan.Goals as goal

pub returns : goal.returns
returns c = let whole = plan_told c.code_of.ensures c.plan.ensures in
    record { value = whole.0; fact = whole.1 }
