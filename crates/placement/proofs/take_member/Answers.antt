-- `take_member`: is site v one of the members that are left?
use native.Mathlib.Omega.{arith}
use Rattle.placement.proofs.Members.{none_left, other_left, first_taken}
use Rattle.placement.proofs.take_member.Goals as goal

pub returns-in_default : goal.returns-in_default
returns-in_default c n set up left = none_left _ n set up left c.in_default.ensures.cases

pub returns-then-from-v : goal.returns-then-from-v
returns-then-from-v c n set up left = other_left _ n set up left c.in-Some.ensures.cases.0 (λ e. omega arith)

pub returns : goal.returns
returns c n set up left = first_taken _ n set up left c.in-Some.ensures.cases.0 (omega arith)
