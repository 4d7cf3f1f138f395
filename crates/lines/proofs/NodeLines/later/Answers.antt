-- `later`: how many of a row's m caches are among the later siblings: the smallest number at which the split costs the least.
use Prim.Native.Nat.{◌≤◌, ◌<◌}
use native.Mathlib.Omega.{arith}
use Rattle.std.proofs.lemmas.Bool.Decides.{nat_tests}
use Rattle.lines.specs.Line.{line_later}
use Rattle.lines.proofs.First.{first_least_after, first_least_here}
use Rattle.lines.proofs.LeastSplit.{later_within, least_is_split, later_from}
use Rattle.lines.proofs.NodeLines.later.Goals as goal

pub loop-r-init : goal.loop-r-init
loop-r-init c = omega (arith, later_from c.args.rest.now c.args.m c.args.self.now.parts c.requires.least_value)

pub returns-then-not-is_less : goal.returns-then-not-is_less
unfolding line_later
returns-then-not-is_less c = let no_less : c.split-cost.result.0 ≤ c.args.least.0 = grind (arith, nat_tests) in
    first_least_here _ _ c.loop-r.r c.loop-r.invariant (omega (arith, no_less, least_is_split c.args.rest.now c.args.m c.args.self.now.parts c.requires.least_value))

pub loop-r-preserved : goal.loop-r-preserved
loop-r-preserved c = let less : c.args.least.0 < c.split-cost.result.0 = grind (arith, nat_tests) in
    let later = first_least_after _ _ c.loop-r.r c.loop-r.invariant (omega (arith, less, least_is_split c.args.rest.now c.args.m c.args.self.now.parts c.requires.least_value)) in
    omega (arith, later)

pub returns : goal.returns
unfolding line_later
returns c = omega (arith, later_within c.args.rest.now c.args.m c.args.self.now.parts c.requires.least_value)
