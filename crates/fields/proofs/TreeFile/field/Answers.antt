-- `TreeFile::field`: field `f` of the record of node `v`.
use native.Mathlib.Omega.{arith}
use Rattle.fields.proofs.Table.{placed_row}
use Rattle.fields.proofs.Reading.{power_small, field_here}
use Rattle.fields.proofs.TreeFile.field.Goals as goal

pub number_at-requires : goal.number_at-requires
number_at-requires c =
    let row = placed_row _ _ c.row_of-row.ensures c.requires.has_field in
    rw (c.self.invariant.1, c.self.view_is) (row.narrow, omega (arith, row.inside, c.requires.in_file.long))

pub returns : goal.returns
returns c = let read = c.row_of-row.ensures in
    let row = placed_row _ _ read c.requires.has_field in
    record {
      value = field_here _ _ _ _ _ read (rw (c.self.invariant.1, c.self.view_is) at c.number_at.ensures.value);
      upper_bound = omega (arith, power_small _ row.narrow, c.number_at.ensures.upper_bound);
    }
