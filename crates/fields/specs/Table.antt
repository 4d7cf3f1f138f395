-- The code's table of fields is the model's, row by row; and where a record can be read.
use Rattle.std.specs.Prelude.{◌≡◌, Bool, true, not, List, ℕ, ◌+◌, ◌≤◌, ◌<◌, length, get_or}
use Rattle.model.specs.File.{Field, field_table, parent_field, most_nodes, has_ratios, has_open_bytes, record_at, record_length}
use Rattle.fields.specs.declared.Field as code
use Rattle.fields.specs.declared.FieldName.{FieldName}
use Rattle.fields.specs.declared.FieldName.TheVariants.{Parent, Length, Flow, Hit, Cachable, Open}

-- a row of the code's table, as a row of the model's
abbrev pub row_of : code.Field → Field
row_of row = record { offset = row.offset; width = row.width; most = row.most }

-- which row of the model's table is which field
abbrev pub row_number : FieldName → ℕ
row_number Parent = 0
row_number Length = 1
row_number Flow = 2
row_number Hit = 3
row_number Cachable = 4
row_number Open = 5

-- the row of field f in the model's table
abbrev pub field_at : FieldName → Field
field_at f = get_or field_table (row_number f) parent_field

-- do the file's records have field f? One of the first three, then in version 1 the hit and else the cachable bytes, then in version 3
-- the last byte
abbrev pub has_field : List ℕ → FieldName → Bool
has_field file Parent = true
has_field file Length = true
has_field file Flow = true
has_field file Hit = has_ratios file
has_field file Cachable = not (has_ratios file)
has_field file Open = has_open_bytes file

abbrev pub HasField : List ℕ → FieldName → Type 0
HasField file f = has_field file f ≡ true

-- the record of node v stands in the file
pub record InFile (file : List ℕ) (v : ℕ) : Type 0 where
  pub node : v < most_nodes
  pub long : record_at file v + record_length file ≤ length file
