-- The table of fields, row by row, and which records have which field.
use mathlib.Core.Path.{◌≡◌, refl, sym}
use mathlib.Core.Bool.{Bool, true, false, not}
use mathlib.Core.List.{List, map}
use Prim.Native.Nat.{ℕ, ◌+◌, ◌≤◌}
use native.Mathlib.Omega.{arith}
use lib.ListN.{get_or}
use Rattle.model.specs.File.{Field, field_table, record_length}
use Rattle.model.proofs.Accepted.{longer_record, open_record, open_no_ratios, record_bounds}
use Rattle.fields.specs.declared.Field as code
use Rattle.fields.specs.declared.FieldName.{FieldName}
use Rattle.fields.specs.declared.FieldName.TheVariants.{Parent, Length, Flow, Hit, Cachable, Open}
use Rattle.fields.specs.Table.{row_of, row_number, field_at, HasField}

-- a row of the model's table, as a row of the code's
abbrev code_of : Field → code.Field
code_of row = record { offset = row.offset; width = row.width; most = row.most }

-- the row of field f in the code's table is its row in the model's
pub row_here : (f : FieldName) → row_of (get_or (map code_of field_table) (row_number f) (record { offset = 0; width = 0; most = 0 })) ≡ field_at f
row_here Parent = refl
row_here Length = refl
row_here Flow = refl
row_here Hit = refl
row_here Cachable = refl
row_here Open = refl

-- ---- a field stands inside its record, and has at most four bytes

pub record Placed (file : List ℕ) (row : Field) : Type 0 where
  pub inside : row.offset + row.width ≤ record_length file
  pub narrow : row.width ≤ 4

-- the ten bytes of version 1 stand in every record
in_ten : (file : List ℕ) (row : Field) → row.offset + row.width ≤ 10 → row.width ≤ 4 → Placed file row
in_ten file row i n = record { inside = omega (arith, (record_bounds file).0); narrow = n }

no_ratios : (b : Bool) → not b ≡ true → b ≡ false
no_ratios true h = sym h
no_ratios false h = refl

placed : (file : List ℕ) (f : FieldName) → HasField file f → Placed file (field_at f)
placed file Parent h = in_ten file (field_at Parent) (omega arith) (omega arith)
placed file Length h = in_ten file (field_at Length) (omega arith) (omega arith)
placed file Flow h = in_ten file (field_at Flow) (omega arith) (omega arith)
placed file Hit h = in_ten file (field_at Hit) (omega arith) (omega arith)
placed file Cachable h = record { inside = omega (arith, longer_record file (no_ratios _ h)); narrow = omega arith }
placed file Open h = record { inside = omega (arith, open_record file (open_no_ratios file h) h); narrow = omega arith }

-- and so does the row that the code reads
pub placed_row : {file : List ℕ} (row : code.Field) (f : FieldName) → row_of row ≡ field_at f → HasField file f → Placed file (row_of row)
placed_row {file} row f e h = rw e (placed file f h)
