-- `best`: the least cost of a node and its children with n caches.
use native.Mathlib.Omega.{arith}
use Rattle.lines.proofs.Node.{node_is_lesser}
use Rattle.lines.proofs.NodeLines.best.Goals as goal

pub returns : goal.returns
returns c = let at = c.args.self.now in
    omega (arith, node_is_lesser at.cached.now at.uncached.now at.member.0 at.other.0 c.args.n)
