-- `least_within`: the least of entries 0 to b of a line.
use mathlib.Core.Path.{◌≡◌}
use Rattle.best_rows.specs.Least.{running_min}
use Rattle.best_rows.specs.Best.{cap}
use Rattle.lines.specs.Line.{entry_of}
use Rattle.one_site.proofs.least_within.Given as goal

abbrev pub invariant-loop-n : goal.invariant-loop-n
invariant-loop-n l = l.least.0 ≡ running_min cap (entry_of l.line) l.n
