-- Lent slices as memory: where a part of one lies, and not only which entries it holds.
use Rattle.std.specs.Prelude.{◌≡◌, List, ℕ, ◌+◌, ◌*◌, take, drop}
use Rattle.std.specs.Borrow.{RattleType, Bor}
use denote.Memory.{mem}

-- a lent slice of entries of type R: the pointer, which is a block of memory and a byte in it, and the entries
abbrev pub Slice : RattleType → Type 0
Slice R = Bor (List R.Denot)

-- r is the part of s that has w entries from index p on
pub record PartOf (R : RattleType) (s : Slice R) (p w : ℕ) (r : Slice R) : Type 0 where
  -- in the memory of s
  pub block : r.ref_ptr.0 ≡ s.ref_ptr.0
  -- p entries after the start of s
  pub start : r.ref_ptr.1 ≡ p * (mem R).size + s.ref_ptr.1
  -- its entries
  pub entries : r.now ≡ take w (drop p s.now)
