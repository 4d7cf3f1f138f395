-- `ranks_before`: does the first set rank before the second?
use mathlib.Core.Path.{sym, ◌∙◌}
use Rattle.compare.proofs.Counting.{fresh_counted}
use Rattle.compare.proofs.Visits.{rank_by_order}
use Rattle.compare.proofs.ranks_before.Goals as goal

pub count_members-requires-clause-counted : goal.count_members-requires-clause-counted
count_members-requires-clause-counted c = fresh_counted c.requires.0

pub count_members-requires-in-Equal-clause-counted : goal.count_members-requires-in-Equal-clause-counted
count_members-requires-in-Equal-clause-counted c = fresh_counted c.requires.1

pub returns-in-Less : goal.returns-in-Less
returns-in-Less c =
    let ranked = rank_by_order _ _ _ _ c.total_of-mine.ensures c.total_of-theirs.ensures c.cmp.ensures c.cmp-2.ensures c.then.ensures in
    sym (rw c.in-Less.is at ranked)

pub returns-in-Greater : goal.returns-in-Greater
returns-in-Greater c =
    let ranked = rank_by_order _ _ _ _ c.total_of-mine.ensures c.total_of-theirs.ensures c.cmp.ensures c.cmp-2.ensures c.then.ensures in
    sym (rw c.in-Greater.is at ranked)

pub returns-in-Equal : goal.returns-in-Equal
returns-in-Equal c =
    let ranked = rank_by_order _ _ _ _ c.total_of-mine.ensures c.total_of-theirs.ensures c.cmp.ensures c.cmp-2.ensures c.then.ensures in
    c.visited_before.ensures ∙ sym (rw c.in-Equal.is at ranked)
