-- `count_members`: counts every member at itself and at every site above it.
use lib.ListN.{take}
use Rattle.model.specs.File.{tree_of}
use Rattle.compare.specs.Counting.{Counted, ClimbedTo}
use Rattle.compare.proofs.count_members.Given as goal

abbrev pub invariant-loop-member : goal.invariant-loop-member
invariant-loop-member l = Counted (tree_of l.file) (take l.member-index l.set) l.counts

abbrev pub invariant-loop-w : goal.invariant-loop-w
invariant-loop-w l = ClimbedTo l.file l.set l.initial.counts l.counts l.member-index l.w

abbrev pub decreases-loop-w : goal.decreases-loop-w
decreases-loop-w l = l.w
