-- `row_of`: the row of field `f` in the table.
use Rattle.fields.proofs.Table.{row_here}
use Rattle.fields.proofs.row_of.Goals as goal

pub returns : goal.returns
returns c = rw c.row.ensures (row_here c.args.f)
