-- `ascending`: do the members ascend, each from 1 to n − 1?
use mathlib.Core.Path.{◌≡◌}
use lib.ListN.{drop}
use Rattle.model.specs.Rules.{ascends}
use Rattle.placement.proofs.ascending.Given as goal

abbrev pub invariant-loop-member : goal.invariant-loop-member
invariant-loop-member l = ascends 0 l.n l.set ≡ ascends l.last l.n (drop l.member-index l.set)
