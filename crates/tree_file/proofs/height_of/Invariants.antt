-- `height_of`: h, the greatest depth of an accepted file.
use Rattle.model.specs.File.{tree_of}
use Rattle.tree_file.specs.Checks.{DepthsTo}
use Rattle.tree_file.proofs.Accepted.{Tallest}
use Rattle.tree_file.proofs.height_of.Given as goal

abbrev pub invariant-loop-v : goal.invariant-loop-v
invariant-loop-v l = Tallest l.file l.v-end l.v l.tallest × DepthsTo (tree_of l.file) l.depths l.v
