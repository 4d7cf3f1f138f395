-- `parent_holds`: rule 7.
use Rattle.tree_file.proofs.Records.{parent_of_server, parent_of_other, climbs_before}
use Rattle.tree_file.proofs.parent_holds.Goals as goal

pub returns-then-i-eq0 : goal.returns-then-i-eq0
returns-then-i-eq0 c = parent_of_server _ _ _ c.if-i-eq0.true c.parent-parent.ensures

pub on_route-requires : goal.on_route-requires
on_route-requires c = climbs_before _ _ c.requires c.if-i-eq0.false

pub returns : goal.returns
returns c = parent_of_other _ _ _ _ c.if-i-eq0.false c.parent-parent.ensures c.on_route.ensures
