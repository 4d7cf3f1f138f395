-- `is_marked`: rule 2.
use mathlib.Core.Path.{◌∙◌}
use Rattle.tree_file.proofs.Header.{marked_told}
use Rattle.tree_file.proofs.is_marked.Goals as goal

pub returns : goal.returns
returns c = c.starts_with.ensures.value ∙ marked_told _
