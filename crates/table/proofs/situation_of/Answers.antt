-- `situation_of`: the first situation that holds for a client of flow `all`, of which `part` is cachable, where u serves it.
use borrow.Author.Tests.{eq-eqb, ne_eqb}
use Rattle.model.specs.Situations.{first_situation}
use Rattle.table.proofs.situation_of.Goals as goal

pub returns-then-u-eq0 : goal.returns-then-u-eq0
unfolding first_situation
returns-then-u-eq0 c = simp (eq-eqb _ _ c.if-u-eq0.true)

pub returns-then-part-eq0 : goal.returns-then-part-eq0
unfolding first_situation
returns-then-part-eq0 c = simp (ne_eqb _ _ c.if-u-eq0.false, eq-eqb _ _ c.if-part-eq0.true)

pub returns-then-part-all : goal.returns-then-part-all
unfolding first_situation
returns-then-part-all c = simp (ne_eqb _ _ c.if-u-eq0.false, ne_eqb _ _ c.if-part-eq0.false, eq-eqb _ _ c.if-part-all.true)

pub returns : goal.returns
unfolding first_situation
returns c = simp (ne_eqb _ _ c.if-u-eq0.false, ne_eqb _ _ c.if-part-eq0.false, ne_eqb _ _ c.if-part-all.false)
