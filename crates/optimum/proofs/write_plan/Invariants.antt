-- `write_plan`: writes every budget.
use Rattle.optimum.specs.Budgets.{Planned}
use Rattle.optimum.proofs.write_plan.Given as goal

abbrev pub invariant-loop-b : goal.invariant-loop-b
invariant-loop-b l = Planned l.file l.initial.totals l.initial.rows l.b l.count l.totals l.rows
