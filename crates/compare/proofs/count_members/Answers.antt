-- `count_members`: counts every member at itself and at every site above it.
use native.Mathlib.Omega.{arith}
use Rattle.compare.proofs.Counting.{still_countable, member_begins, member_fits, parent_nearer, member_turns, member_ends}
use Rattle.compare.proofs.count_members.Goals as goal

pub loop-w-init : goal.loop-w-init
loop-w-init c =
    let given = still_countable c.requires.countable c.loop-member.auto.counts in
    rw c.from-w.ensures (member_begins given c.loop-member-test.true c.loop-member.invariant)

pub overflow_add-counts : goal.overflow_add-counts
overflow_add-counts c =
    omega (arith, member_fits (still_countable c.requires.countable c.loop-member.auto.counts) c.loop-member-test.true c.loop-w.invariant c.loop-w-test.true)

pub loop-w-smaller : goal.loop-w-smaller
loop-w-smaller c =
    let given = still_countable c.requires.countable c.loop-member.auto.counts in
    parent_nearer given c.loop-member-test.true c.loop-w.invariant c.loop-w-test.true c.parent-w.ensures

pub loop-w-preserved : goal.loop-w-preserved
loop-w-preserved c =
    let given = still_countable c.requires.countable c.loop-member.auto.counts in
    member_turns given c.loop-member-test.true c.loop-w.invariant c.loop-w-test.true c.parent-w.ensures

pub loop-member-preserved : goal.loop-member-preserved
loop-member-preserved c =
    let given = still_countable c.requires.countable c.loop-member.auto.counts in
    member_ends given c.loop-member-test.true c.loop-w.invariant c.loop-w-test.false
