-- Laws of text appended within a room: nothing, and a turn of a loop that appends piece after piece.
use mathlib.Core.Path.{◌≡◌}
use mathlib.Core.List.{List, [], ◌++◌}
use Prim.Native.Nat.{ℕ, ◌+◌, ◌*◌}
use native.Mathlib.Nat.{suc-mul}
use native.Mathlib.Numerals.{add-one}
use native.Mathlib.Omega.{arith}
use Rattle.text_bytes.proofs.Appended.{append_none, append_then}
use Rattle.report_text.specs.Lines.{AppendedWithin}

pub within_none : (room at : ℕ) (text : List ℕ) → AppendedWithin room at [] text text at
within_none room at text = record { appended = append_none at text; within = omega arith }

-- i pieces, and one more
pub within_next : {room at m e : ℕ} (i : ℕ) {xs ys zs old mid new : List ℕ} → zs ≡ xs ++ ys → AppendedWithin (i * room) at xs old mid m
    → AppendedWithin room m ys mid new e → AppendedWithin ((i + 1) * room) at zs old new e
within_next {room} i eq a b =
    record {
      appended = rw eq (append_then a.appended b.appended);
      within = rw (add-one i, suc-mul i room) (omega (arith, a.within, b.within));
    }
