-- `Served::raised`: the walk of node v by the walk of the row of its children.
use native.Mathlib.Omega.{arith}
use Rattle.model.proofs.Bounds.{whole_within}
use Rattle.placement.proofs.Served.raised.Goals as goal

pub add-relief-requires : goal.add-relief-requires
add-relief-requires c = omega (arith, whole_within _ _ c.args.self.now.of_file.sound c.args.v)

pub add-load-requires : goal.add-load-requires
add-load-requires c = omega (arith, whole_within _ _ c.args.self.now.of_file.sound c.args.v)
