-- `TreeFile::has_ratios`: is the file of version 1?
use mathlib.Core.Path.{ap}
use Prim.Native.Nat.{ℕ}
use lib.Dec.{eqb}
use Rattle.model.specs.File.{first_version, has_ratios}
use Rattle.fields.proofs.TreeFile.has_ratios.Goals as goal

pub returns : goal.returns
unfolding has_ratios
returns c = ap (λ (x : ℕ). eqb x first_version) c.version.ensures
