-- `server_line`: the line of the server's row.
use Rattle.table.proofs.Table.server_line.Goals as goal

pub child_of-requires : goal.child_of-requires
child_of-requires c = c.requires.node

pub line-requires : goal.line-requires
line-requires c = rw c.child_of.ensures c.requires.line

pub returns : goal.returns
returns c = rw c.child_of.ensures at c.line.ensures
