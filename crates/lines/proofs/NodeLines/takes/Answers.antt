-- `takes`: whether the node itself is one of the n caches: it is, if that costs less than leaving it out.
use Rattle.lines.proofs.Node.{takes_if_less}
use Rattle.lines.proofs.NodeLines.takes.Goals as goal

pub returns : goal.returns
returns c = takes_if_less _ _ _ _ _ c.costs-costs.ensures.member_value c.costs-costs.ensures.other_value c.is_less.ensures
