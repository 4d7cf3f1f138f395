-- `better_count`: the better of two numbers of caches by the entries of a line: `last`, unless `next` costs less.
use mathlib.Core.Path.{ap₂, ◌∙◌}
use lib.Dec.{ltb}
use Rattle.optimum.proofs.Budgets.{better_first, better_second}
use Rattle.optimum.proofs.better_count.Goals as goal

pub returns-then-is_less : goal.returns-then-is_less
returns-then-is_less c = better_second _ _ _ (c.is_less.ensures ∙ ap₂ ltb c.entry.ensures c.entry-2.ensures) c.if-is_less.true

pub returns-else-is_less : goal.returns-else-is_less
returns-else-is_less c = better_first _ _ _ (c.is_less.ensures ∙ ap₂ ltb c.entry.ensures c.entry-2.ensures) c.if-is_less.false
