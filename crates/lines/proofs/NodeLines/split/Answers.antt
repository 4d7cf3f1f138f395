-- `split`: the cost of a row with m caches, of which r are among the later siblings.
use Prim.Native.Nat.{◌-◌}
use native.Mathlib.Omega.{arith}
use Rattle.best_rows.specs.Best.{cap, split}
use Rattle.lines.specs.Line.{line_node}
use Rattle.lines.proofs.Node.{node_within}
use Rattle.lines.proofs.NodeLines.split.Goals as goal

pub add-requires : goal.add-requires
unfolding cap
add-requires c = omega (arith, node_within _ _ _ _ (c.args.m - c.args.r) c.args.self.now.parts, c.requires.rest_line.within c.args.r)

pub returns : goal.returns
unfolding split line_node
returns c = omega arith
