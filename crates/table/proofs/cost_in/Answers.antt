-- `cost_in`: what a client costs in its situation.
use mathlib.Core.Path.{◌∙◌, ap, ap₂}
use Prim.Native.Nat.{◌*◌, ◌-◌, ◌≤◌}
use native.Mathlib.Nat.{mul-le-mul, mul-le-mul_left}
use native.Mathlib.Omega.{arith}
use Rattle.model.specs.Situations.{cost_in}
use Rattle.table.proofs.cost_in.Goals as goal

pub mul-requires-in-Everything : goal.mul-requires-in-Everything
mul-requires-in-Everything c =
    let nearer : c.sub.result.0 ≤ c.args.far.0 = omega (arith, c.sub.ensures) in
    omega (arith, c.sub.ensures, mul-le-mul_left c.args.all.0 nearer, c.requires.2)

pub mul-requires-in-Partly-2 : goal.mul-requires-in-Partly-2
mul-requires-in-Partly-2 c =
    let saved : c.args.part.0 * c.args.near.0 ≤ c.args.all.0 * c.args.far.0 = mul-le-mul c.requires.0 c.requires.1 in
    omega (arith, saved, c.requires.2)

pub sub-requires-in-Partly : goal.sub-requires-in-Partly
sub-requires-in-Partly c =
    let saved : c.args.part.0 * c.args.near.0 ≤ c.args.all.0 * c.args.far.0 = mul-le-mul c.requires.0 c.requires.1 in
    omega (arith, c.mul-in-Partly.ensures, c.mul-in-Partly-2.ensures, saved)

pub returns-in-NoCache : goal.returns-in-NoCache
unfolding cost_in
returns-in-NoCache c = rw c.in-NoCache.is c.mul.ensures

pub returns-in-Nothing : goal.returns-in-Nothing
unfolding cost_in
returns-in-Nothing c = rw c.in-Nothing.is c.mul-in-Nothing.ensures

pub returns-in-Everything : goal.returns-in-Everything
unfolding cost_in
returns-in-Everything c = rw c.in-Everything.is (c.mul-in-Everything.ensures ∙ ap (λ z. c.args.all.0 * z) c.sub.ensures)

pub returns-in-Partly : goal.returns-in-Partly
unfolding cost_in
returns-in-Partly c = rw c.in-Partly.is (c.sub-in-Partly.ensures ∙ ap₂ ◌-◌ c.mul-in-Partly.ensures c.mul-in-Partly-2.ensures)
