-- `TreeFile::has_open_bytes`: is the file of version 3?
use mathlib.Core.Path.{ap}
use Prim.Native.Nat.{ℕ}
use lib.Dec.{eqb}
use Rattle.model.specs.File.{third_version, has_open_bytes}
use Rattle.fields.proofs.TreeFile.has_open_bytes.Goals as goal

pub returns : goal.returns
unfolding has_open_bytes
returns c = ap (λ (x : ℕ). eqb x third_version) c.version.ensures
