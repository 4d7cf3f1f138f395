-- `least_where`: the least total of the sets of at most b nodes that contain the node, or of those that don't, where there is one.
use Rattle.table.proofs.Server.{server_there}
use Rattle.one_site.proofs.Least.{least_where_found}
use Rattle.one_site.proofs.least_where.Goals as goal

pub server_line-requires : goal.server_line-requires
server_line-requires c = server_there c.make_table.ensures.table

pub returns : goal.returns
returns c = record {
  least_where = least_where_found c.args.cached c.requires.asked_site c.make_table.ensures.table c.server_line.ensures c.least_within.ensures c.requires.some_set;
  front_only = c.make_table.ensures.front;
}
