-- `open_holds`: rule 24.
use mathlib.Core.Path.{sym, ◌∙◌}
use Rattle.tree_file.proofs.open_holds.Goals as goal

pub is_within-requires : goal.is_within-requires
is_within-requires c = record {
  has_field = sym c.has_open_bytes.ensures ∙ c.if-has_open_bytes.true;
  in_file = c.requires;
}

pub returns-then-has_open_bytes : goal.returns-then-has_open_bytes
returns-then-has_open_bytes c = rw (sym c.has_open_bytes.ensures ∙ c.if-has_open_bytes.true) c.is_within.ensures

pub returns : goal.returns
returns c = rw (sym c.has_open_bytes.ensures ∙ c.if-has_open_bytes.false)
