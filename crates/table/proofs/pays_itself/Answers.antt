-- `pays_itself`: what node v pays as a cache, which is the cap where it is closed.
use mathlib.Core.Path.{sym, ◌∙◌}
use Rattle.best_rows.specs.Best.{cap}
use Rattle.node_words.proofs.Words.{room_record}
use Rattle.table.proofs.pays_itself.Goals as goal

pub is_open-requires : goal.is_open-requires
is_open-requires c = room_record c.requires.client.nodes c.requires.client.node

pub returns-then-is_open : goal.returns-then-is_open
returns-then-is_open c = rw (sym c.is_open.ensures ∙ c.if-is_open.true) c.pays-price.ensures

pub returns : goal.returns
unfolding cap
returns c = rw (sym c.is_open.ensures ∙ c.if-is_open.false)
