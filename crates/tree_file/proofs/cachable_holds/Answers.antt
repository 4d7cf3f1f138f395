-- `cachable_holds`: rule 17.
use mathlib.Core.Path.{ap, ap₂}
use mathlib.Core.Bool.{not}
use lib.Dec.{leb}
use Rattle.tree_file.proofs.cachable_holds.Goals as goal

pub field-requires : goal.field-requires
field-requires c = record {
  has_field = ap not c.requires.file_value;
  in_file = c.requires.in_file;
}

pub returns : goal.returns
returns c = ap₂ leb c.field.ensures.value c.field-flow.ensures.value
