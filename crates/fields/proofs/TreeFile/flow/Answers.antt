-- `TreeFile::flow`: all that the client at v asks for.
use mathlib.Core.Path.{ap}
use Prim.Native.Nat.{ℕ, ◌*◌}
use Rattle.model.specs.Bill.{thousandths, whole}
use Rattle.fields.proofs.TreeFile.flow.Goals as goal

pub returns : goal.returns
unfolding whole
returns c = ap (λ (x : ℕ). x * thousandths) c.field.ensures.value
