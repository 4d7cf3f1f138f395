-- `put_lines`: appends the line of every budget.
use mathlib.Core.List.{flat_map}
use Prim.Native.Nat.{◌*◌}
use Rattle.laws.specs.Lists.{range}
use Rattle.report_text.specs.Lines.{budget_line, line_room, AppendedWithin}
use Rattle.report_text.proofs.put_lines.Given as goal

abbrev pub invariant-loop-b : goal.invariant-loop-b
invariant-loop-b l = AppendedWithin (l.b * line_room) 0 (flat_map (budget_line l.k l.report.totals l.report.rows l.report.greedy_totals) (range 0 l.b)) l.initial.text l.text l.end
