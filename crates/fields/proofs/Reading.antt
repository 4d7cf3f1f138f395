-- A number as it is read, byte after byte.
use mathlib.Core.Path.{◌≡◌, refl, ap, ap₂, ◌∙◌}
use mathlib.Core.List.{List}
use Prim.Native.Nat.{ℕ, ◌+◌, ◌*◌, ◌^◌, ◌≤◌, ◌<◌}
use native.Mathlib.Nat.{pow-suc, pow-le-pow_right}
use native.Mathlib.Numerals.{add-one}
use native.Mathlib.Omega.{arith}
use lib.ListN.{get_or}
use Rattle.model.specs.File.{Field, number, field_of, record_at}

-- after i of its bytes the value is the number that they hold
pub record Reading (file : List ℕ) (at width value i : ℕ) : Type 0 where
  pub some : i ≤ width
  pub holds : value ≡ number i file at
  pub small : value < 256 ^ i

module _ (file : List ℕ) (at width : ℕ) where
  pub read_none : Reading file at width 0 0
  unfolding number
  read_none = record { some = omega arith; holds = refl; small = omega arith }

  pub read_next : (value i byte : ℕ) → Reading file at width value i → i < width → byte ≡ get_or file (at + i) 0 → byte < 256
      → Reading file at width (value * 256 + byte) (i + 1)
  unfolding number
  read_next value i byte r l e b =
      record {
        some = omega arith;
        holds = rw (add-one i) (ap₂ (λ (x y : ℕ). x * 256 + y) r.holds e);
        small = rw (add-one i, pow-suc 256 i) (omega (arith, r.small));
      }

  pub read_all : (value i : ℕ) → Reading file at width value i → width ≤ i → (value ≡ number width file at) × (value < 256 ^ width)
  read_all value i r l =
      let e : i ≡ width = omega (arith, r.some) in
      (r.holds ∙ ap (λ (w : ℕ). number w file at) e, rw e at r.small)

-- what is read of at most four bytes is below 2^32
pub power_small : (i : ℕ) → i ≤ 4 → 256 ^ i ≤ 2 ^ 32
power_small i l = omega (arith, pow-le-pow_right {n = 256} (omega arith) l)

-- a field is the number at its place
pub field_here : (file : List ℕ) (row f : Field) (v value : ℕ) → row ≡ f → value ≡ number row.width file (record_at file v + row.offset)
    → value ≡ field_of file f v
unfolding field_of
field_here file row f v value e h = rw e at h
