-- Laws of products and differences, and of places in rows of equal length.
use mathlib.Core.Path.{◌≡◌, ap}
use mathlib.Core.Logic.{◌↔◌, ◌⊎◌, inl, inr, ⊎_elim}
use Prim.Native.Nat.{ℕ, ◌+◌, ◌*◌, ◌-◌, ◌≤◌, ◌<◌}
use native.Mathlib.Decide.{ℕ_discrete, dec_lt}
use native.Mathlib.Nat.{suc-mul, mul-le-mul_right, eq_of_mul-eq-mul_left}
use native.Mathlib.Omega.{arith}

pub mul_sub_add : (f a b : ℕ) → b ≤ a → f * (a - b) + f * b ≡ f * a
mul_sub_add f a b h = let e : a - b + b ≡ a = omega arith in omega (arith, ap (λ x. f * x) e)

-- equal products with one factor in common: it is 0, or the others are equal
pub products_same : (f a b : ℕ) → f * a ≡ f * b ↔ ((f ≡ 0) ⊎ (a ≡ b))
products_same f a b = (
  λ e. elim (ℕ_discrete f 0) [ yes z ↦ inl z | no z ↦ inr (eq_of_mul-eq-mul_left f (omega (arith, z)) a b e) ],
  ⊎_elim (λ z. rw z (omega arith)) (λ e. ap (λ x. f * x) e),
)

-- ---- rows of w entries, one after the other

-- a row ends where a later one begins or before
-- what holds of each number below b, and of b
pub below_next : (P : ℕ → Type 0) (b : ℕ) → ((j : ℕ) → j < b → P j) → P b → (j : ℕ) → j < b + 1 → P j
below_next P b before here j h = elim (dec_lt j b) [
  | yes earlier ↦ before j earlier
  | no last ↦ let same : b ≡ j = omega arith in rw same at here
]

pub row_before : {i j : ℕ} (w : ℕ) → i < j → i * w + w ≤ j * w
row_before {i} {j} w h = rw suc-mul at (mul-le-mul_right w h)

-- an entry of one of n rows stands before their end
pub row_within : {i j n w : ℕ} → i < n → j < w → i * w + j < n * w
row_within {w = w} h k = omega (arith, row_before w h)

-- from an entry's index follow its row and its index in that row
pub row_same : (i j k l w : ℕ) → k < w → l < w → i * w + k ≡ j * w + l → (i ≡ j) × (k ≡ l)
row_same i j k l w h m e =
    elim (dec_lt i j) [
      | yes p ↦ absurd (omega (arith, row_before w p))
      | no p ↦
          elim (dec_lt j i) [
            | yes q ↦ absurd (omega (arith, row_before w q))
            | no q ↦ let s : i ≡ j = omega arith in (s, omega (arith, ap (λ r. r * w) s))
          ]
    ]
