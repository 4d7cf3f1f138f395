-- The loop that appends bytes one by one.
use mathlib.Core.List.{List, [], ◌∷◌}
use Prim.Native.Nat.{ℕ, ◌+◌, ◌≤◌, ◌<◌}
use native.Mathlib.Numerals.{add-one}
use native.Mathlib.Omega.{arith}
use lib.ListN.{length, take, get_or}
use lib.Seq.{take-suc, take_all, length-take-le}
use Rattle.text_bytes.specs.Appended.{Appended}
use Rattle.text_bytes.proofs.Appended.{append_then, append_keeps_length}

-- after i turns the first i bytes are appended
pub record Copied (at : ℕ) (bytes old : List ℕ) (i : ℕ) (text : List ℕ) (end : ℕ) : Type 0 where
  pub within : i ≤ length bytes
  pub front : Appended at (take i bytes) old text end

module _ {at i end : ℕ} {bytes old text : List ℕ} (c : Copied at bytes old i text end) where
  pub copied_room : i < length bytes → at + length bytes ≤ length old → end < length text
  copied_room h room = omega (arith, c.front.ended, length-take-le i bytes c.within, append_keeps_length c.front)

  pub copied_turns : {e : ℕ} {new : List ℕ} → i < length bytes → Appended end (get_or bytes i 0 ∷ []) text new e → Copied at bytes old (i + 1) new e
  copied_turns h byte = record { within = omega arith; front = rw (add-one i, take-suc bytes i 0) (append_then c.front byte) }

  pub copied_ends : length bytes ≤ i → Appended at bytes old text end
  copied_ends h = rw (take_all i bytes h) at c.front
