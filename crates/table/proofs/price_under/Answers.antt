-- `price_under`: what node v pays under a wish, as a cache or as none: the cap if the wish does not let it.
use Rattle.best_rows.specs.Best.{cap}
use mathlib.Core.Path.{sym}
use mathlib.Core.Path.{◌∙◌}
use Rattle.table.proofs.price_under.Goals as goal

pub returns-then-not-grants : goal.returns-then-not-grants
unfolding cap
returns-then-not-grants c = rw (sym c.grants.ensures ∙ c.if-not-grants.true)

pub returns : goal.returns
returns c = rw (sym c.grants.ensures ∙ c.if-not-grants.false)
