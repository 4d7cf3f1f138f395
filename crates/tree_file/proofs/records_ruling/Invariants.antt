-- `records_ruling`: each of the first n records through its rules before the next.
use Rattle.model.specs.File.{tree_of}
use Rattle.tree_file.specs.Checks.{DepthsTo}
use Rattle.tree_file.proofs.Records.{Passing}
use Rattle.tree_file.proofs.records_ruling.Given as goal

abbrev pub invariant-loop-i : goal.invariant-loop-i
invariant-loop-i l = Passing l.file l.n l.i × DepthsTo (tree_of l.file) l.depths l.i
