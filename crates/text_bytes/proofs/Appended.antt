-- Laws of texts that were appended to: nothing, one piece after another, and the text from its start on.
use mathlib.Core.Path.{◌≡◌, refl, sym, ap, ◌∙◌}
use mathlib.Core.List.{List, [], ◌++◌}
use Prim.Native.Nat.{ℕ, ◌≤◌}
use native.Mathlib.Nat.{add-zero, zero-add}
use native.Mathlib.Omega.{arith}
use lib.ListN.{length, length-append, take}
use lib.Seq.{length-sets}
use Rattle.laws.proofs.Stores.{sets_append, part_same}
use Rattle.text_bytes.specs.Appended.{Appended}

pub append_none : (at : ℕ) (text : List ℕ) → Appended at [] text text at
append_none at text = record { stored = refl; ended = sym (add-zero at) }

pub append_then : {at m e : ℕ} {xs ys old mid new : List ℕ} → Appended at xs old mid m → Appended m ys mid new e → Appended at (xs ++ ys) old new e
append_then {at} {xs = xs} {ys} {old} a b =
    record {
      stored = b.stored ∙ sym (rw (sets_append old at xs ys, a.stored, a.ended));
      ended = rw length-append (omega (arith, a.ended, b.ended));
    }

pub append_keeps_length : {at e : ℕ} {bytes old new : List ℕ} → Appended at bytes old new e → length new ≡ length old
append_keeps_length a = ap length a.stored ∙ simp length-sets

-- a text appended to from its start on is what was appended
pub appended_text : {e : ℕ} {bytes old new : List ℕ} → Appended 0 bytes old new e → length bytes ≤ length old → take e new ≡ bytes
appended_text {bytes = bytes} {old} a h =
    rw (a.stored, a.ended, zero-add (length bytes)) (part_same old 0 bytes (length bytes) refl (omega arith))
