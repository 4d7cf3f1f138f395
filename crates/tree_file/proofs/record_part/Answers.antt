-- `record_part`: the bytes of node v inside the caller's file.
use mathlib.Core.Path.{◌≡◌, refl}
use native.Mathlib.Nat.{add-sub_cancel_left}
use native.Mathlib.Omega.{arith}
use Rattle.model.specs.File.{record_at, record_length}
use Rattle.tree_file.proofs.record_part.Goals as goal

pub returns : goal.returns
returns c =
    let start : c.record_at-start.result ≡ record_at c.args.file.now c.args.v = rw c.of-records.ensures at c.record_at-start.ensures in
    let size : c.record_length.result ≡ record_length c.args.file.now = rw c.of-records.ensures at c.record_length.ensures in
    rw (← start, ← size) (record { block = refl; start = omega arith; entries = simp add-sub_cancel_left })
