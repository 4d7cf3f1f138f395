-- `least_within`: the least of entries 0 to b of a line.
use mathlib.Core.Path.{◌≡◌, ap, ◌∙◌}
use Prim.Native.Nat.{◌+◌, min}
use native.Mathlib.Omega.{arith}
use Rattle.best_rows.specs.Best.{cap}
use Rattle.lines.specs.Line.{entry_of}
use Rattle.one_site.proofs.Least.{least_begins, least_next}
use Rattle.one_site.proofs.least_within.Goals as goal

pub loop-n-init : goal.loop-n-init
unfolding cap
loop-n-init c = least_begins (entry_of c.args.line.now)

pub loop-n-preserved : goal.loop-n-preserved
loop-n-preserved c = c.lesser-least.ensures ∙ ap (min _) c.entry.ensures ∙ least_next _ _ c.loop-n.invariant

-- the loop never begins a turn past b
pub returns : goal.returns
returns c = absurd (omega arith)

-- and ends with the turn of b
pub returns-2 : goal.returns-2
returns-2 c =
    let last : c.loop-n.n + 1 ≡ c.args.b + 1 = omega arith in
    rw last at (c.lesser-least.ensures ∙ ap (min _) c.entry.ensures ∙ least_next _ _ c.loop-n.invariant)
