-- What is written as bytes is read back: a number, the header, and the fields of a record. Nothing cites it yet: it is for 02,
-- items 5 and 11.
use mathlib.Core.Path.{◌≡◌, refl}
use mathlib.Core.List.{List, [], ◌∷◌, ◌++◌, append_assoc}
use Prim.Native.Nat.{ℕ, zero, suc, ◌+◌, ◌/◌, ◌%◌, ◌^◌, ◌<◌}
use native.Mathlib.Nat.{pow-suc}
use native.Mathlib.Omega.{arith}
use lib.ListN.{length, get_or, length-append}
use lib.Seq.{get_or-append_seam}
use Rattle.model.specs.File.{number, mark, first_version, version_of, count_of, budget_of, record_at, field_of, parent_field, length_field, flow_field, hit_field}
use Rattle.model.specs.Bytes.{bytes_of, header_bytes, record_of}

length_bytes : (w x : ℕ) → length (bytes_of w x) ≡ w
unfolding bytes_of
length_bytes zero x = refl
length_bytes (suc w) x = simp length-append (omega (arith, length_bytes w (x / 256)))

-- the byte behind the first w
byte_behind : (w x y : ℕ) (front back : List ℕ) → get_or (front ++ bytes_of w x ++ (y ∷ back)) (length front + w) 0 ≡ y
byte_behind w x y front back =
    let at : length (front ++ bytes_of w x) ≡ length front + w = simp length-append (omega (arith, length_bytes w x)) in
    rw (← at) (get_or-append_seam (front ++ bytes_of w x) y back 0)

-- a number that has room in w bytes is read back from them, wherever they stand
pub number_read : (w x : ℕ) (front back : List ℕ) → x < 256 ^ w → number w (front ++ bytes_of w x ++ back) (length front) ≡ x
unfolding number bytes_of
number_read zero x front back h = omega arith
number_read (suc w) x front back h =
    let q = x / 256 in
    let r = x % 256 in
    let fits : q < 256 ^ w = omega (arith, pow-suc 256 w) in
    rw (← append_assoc front (bytes_of w q) (r ∷ []), append_assoc (front ++ bytes_of w q) (r ∷ []) back)
    (omega (arith, number_read w q front (r ∷ back) fits, byte_behind w q r front back))

-- the same, of bytes behind others
behind_read : (w x : ℕ) (front before back : List ℕ) → x < 256 ^ w
    → number w (front ++ (before ++ (bytes_of w x ++ back))) (length front + length before) ≡ x
behind_read w x front before back h =
    rw (← append_assoc front before (bytes_of w x ++ back), ← append_assoc (front ++ before) (bytes_of w x) back, ← length-append front before)
    (number_read w x (front ++ before) back h)

-- the header, before anything
pub header_read : (n k : ℕ) (rest : List ℕ) → n < 256 ^ 2 → k < 256 ^ 2
    → let s = header_bytes n k ++ rest in
    (version_of s ≡ first_version) × (count_of s ≡ n) × (budget_of s ≡ k)
unfolding header_bytes bytes_of
header_read n k rest few small = (
  number_read 2 first_version mark (bytes_of 2 n ++ bytes_of 2 k ++ rest) (omega arith),
  number_read 2 n (mark ++ bytes_of 2 first_version) (bytes_of 2 k ++ rest) few,
  number_read 2 k (mark ++ bytes_of 2 first_version ++ bytes_of 2 n) rest small,
)

-- a record, in its place
pub record_read : (i p l f h : ℕ) (front back : List ℕ) → p < 256 ^ 2 → l < 256 ^ 2 → f < 256 ^ 4 → h < 256 ^ 2
    → let s = front ++ (record_of p l f h ++ back) in
    length front ≡ record_at s i
    → (field_of s parent_field i ≡ p) × (field_of s length_field i ≡ l) × (field_of s flow_field i ≡ f) × (field_of s hit_field i ≡ h)
unfolding record_of field_of bytes_of
record_read i p l f h front back hp hl hf hh at =
    rw (← at) (
      behind_read 2 p front [] (bytes_of 2 l ++ bytes_of 4 f ++ bytes_of 2 h ++ back) hp,
      behind_read 2 l front (bytes_of 2 p) (bytes_of 4 f ++ bytes_of 2 h ++ back) hl,
      behind_read 4 f front (bytes_of 2 p ++ bytes_of 2 l) (bytes_of 2 h ++ back) hf,
      behind_read 2 h front (bytes_of 2 p ++ bytes_of 2 l ++ bytes_of 4 f) back hh,
    )
