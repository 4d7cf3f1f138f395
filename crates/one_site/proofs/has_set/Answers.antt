-- `has_set`: does a set of at most b nodes contain the node?
use Rattle.tree_file.proofs.Accepted.{accepted_in_file}
use Rattle.one_site.proofs.has_set.Goals as goal

pub is_open-requires : goal.is_open-requires
is_open-requires c = accepted_in_file _ c.requires.accepted _ c.requires.node
