-- `joined`: makes the line of a row of two parts from their lines.
use mathlib.Core.Path.{refl, ◌∙◌}
use native.Mathlib.Omega.{arith}
use Rattle.best_rows.specs.Best.{cap}
use Rattle.lines.proofs.Entries.{stored_within}
use Rattle.lines.proofs.Row.{least_line, row_long, row_begins, row_turns, row_ends}
use Rattle.lines.proofs.joined.Goals as goal

pub begin-requires : goal.begin-requires
begin-requires c = record {
  other_in_bounds = c.requires.ends.0;
  line = (c.requires.first_line, stored_within _ 0 c.requires.second_line c.requires.second_line.some);
}

pub loop-r-init : goal.loop-r-init
unfolding cap
loop-r-init c = row_begins c.args.first.now c.args.second.now _ _ (omega (arith, c.requires.ends)) (c.fill.ensures.after (λ y e. e)) c.requires.second_line.some refl c.begin.ensures

pub lower-requires-clause-line : goal.lower-requires-clause-line
lower-requires-clause-line c = (
  least_line c.args.first.now c.args.second.now c.loop-r.r c.loop-r.line (omega (arith, c.requires.ends, c.requires.first_line.some)) c.loop-r.invariant,
  c.requires.first_line,
  stored_within _ c.loop-r.r c.requires.second_line (omega arith),
)

pub loop-r-preserved : goal.loop-r-preserved
loop-r-preserved c = row_turns c.args.first.now c.args.second.now c.loop-r.r _ c.loop-r.line c.lower.new.line c.lower.auto.line (omega arith) refl c.min-end.ensures c.loop-r.invariant c.lower.ensures

pub returns : goal.returns
unfolding cap
returns c = row_ends c.args.first.now c.args.second.now c.loop-r.r _ _ (c.loop-r.auto.line ∙ row_long c.args.first.now c.args.second.now c.begin.new.line _ (omega (arith, c.requires.ends)) (c.fill.ensures.after (λ y e. e)) ∙ c.begin.auto.line) (omega (arith, c.requires.second_line.some)) c.loop-r.invariant
