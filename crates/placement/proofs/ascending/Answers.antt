-- `ascending`: do the members ascend, each from 1 to n − 1?
use mathlib.Core.Path.{sym}
use native.Mathlib.Omega.{arith}
use Rattle.placement.proofs.Members.{set_goes_on, set_breaks, set_ends}
use Rattle.placement.proofs.ascending.Goals as goal

pub returns-then-v-last : goal.returns-then-v-last
returns-then-v-last c =
    sym (set_breaks _ _ _ _ c.loop-member.invariant c.loop-member-test.true (λ low high. omega (arith, low, c.from-v.ensures, c.if-v-last.true)))

pub returns-then-n-v : goal.returns-then-n-v
returns-then-n-v c =
    sym (set_breaks _ _ _ _ c.loop-member.invariant c.loop-member-test.true (λ low high. omega (arith, high, c.from-v.ensures, c.if-n-v.true)))

pub loop-member-preserved : goal.loop-member-preserved
loop-member-preserved c =
    rw c.from-v.ensures
    (set_goes_on
    _
    _
    _
    _
    c.loop-member.invariant
    c.loop-member-test.true
    (omega (arith, c.from-v.ensures, c.if-v-last.false))
    (omega (arith, c.from-v.ensures, c.if-n-v.false)))

pub returns : goal.returns
returns c = sym (set_ends _ c.args.set.now _ c.loop-member.member-index c.loop-member.invariant (omega (arith, c.loop-member-test.false)))
