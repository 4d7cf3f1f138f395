-- Laws of tests: what a test's value says, what two tests say together, and a test as a number.
use mathlib.Core.Path.{◌≡◌, refl, sym, ◌∙◌}
use mathlib.Core.Bool.{Bool, true, false, cond, not, beq, ◌&&◌, ◌||◌, true≢false, false≢true}
use mathlib.Core.Logic.{◌⊎◌, inl, inr}
use Prim.Native.Nat.{ℕ, ◌≤◌, ◌<◌}
use native.Mathlib.Omega.{arith}
use lib.Dec.{leb}
use mir.Val.{bool_byte}
use borrow.Author.Tests.{not-true, not-false, le-leb, lt-leb}
use Rattle.laws.specs.Lists.{bit}

-- a fact of a test by its two values
pub by_test {ℓ} : (P : Bool → Type ℓ) (b : Bool) → (b ≡ true → P true) → (b ≡ false → P false) → P b
by_test P true f g = f refl
by_test P false f g = g refl

pub not_both : {b : Bool} → b ≡ true → b ≡ false → ⊥
not_both p q = let z : true ≡ false = cc in absurd (true≢false z)

-- a test `!r` in code, said of what r is
pub held : {r x : Bool} → r ≡ x → not r ≡ false → x ≡ true
held {r} e h = sym e ∙ not-false r h

pub failed : {r x : Bool} → r ≡ x → not r ≡ true → x ≡ false
failed {r} e h = sym e ∙ not-true r h

-- a test `a != b` in code
pub differ : (a b : Bool) → not (beq a b) ≡ true → a ≡ b → ⊥
differ true true d e = absurd (false≢true d)
differ true false d e = absurd (true≢false e)
differ false true d e = absurd (false≢true e)
differ false false d e = absurd (false≢true d)

pub alike : (a b : Bool) → not (beq a b) ≡ false → a ≡ b
alike true true s = refl
alike true false s = absurd (true≢false s)
alike false true s = absurd (true≢false s)
alike false false s = refl

-- a test `r <= m` in code, said of what r and m are
pub within_held : {r x m : ℕ} → r ≡ x → r ≤ m → leb x m ≡ true
within_held {r} {x} {m} e h = le-leb x m (omega arith)

pub within_failed : {r x m : ℕ} → r ≡ x → m < r → leb x m ≡ false
within_failed {r} {x} {m} e h = lt-leb x m (omega arith)

-- a test `m <= r`
pub below_held : {r x m : ℕ} → r ≡ x → m ≤ r → leb m x ≡ true
below_held {r} {x} {m} e h = le-leb m x (omega arith)

pub below_failed : {r x m : ℕ} → r ≡ x → r < m → leb m x ≡ false
below_failed {r} {x} {m} e h = lt-leb m x (omega arith)

-- a test of what does not hold
pub cannot_hold : {P : Type 0} (b : Bool) → (b ≡ true → P) → (P → ⊥) → b ≡ false
cannot_hold true f n = absurd (n (f refl))
cannot_hold false f n = refl

pub both : (a b : Bool) → (a && b) ≡ true → (a ≡ true) × (b ≡ true)
both true b e = (refl, e)
both false b e = absurd (false≢true e)

pub either : (X : Type 0) (a b : Bool) → (a ≡ true → X) → (b ≡ true → X) → (a || b) ≡ true → X
either X true b f g e = f refl
either X false b f g e = g e

pub neither : (a b : Bool) → (a || b) ≡ false → (a ≡ false) × (b ≡ false)
neither true b e = absurd (true≢false e)
neither false b e = (refl, e)

pub one_passes : (a b : Bool) → (a ≡ false → b ≡ false → ⊥) → (a ≡ true) ⊎ (b ≡ true)
one_passes true b n = inl refl
one_passes false true n = inr refl
one_passes false false n = absurd (n refl refl)

pub cond_same : {A : Type 0} (b : Bool) (x : A) → cond b x x ≡ x
cond_same true x = refl
cond_same false x = refl

pub cond_both : {A : Type 0} (a b : Bool) (x y : A) → cond (a && b) x y ≡ cond a (cond b x y) y
cond_both true b x y = refl
cond_both false b x y = refl

pub bit_same : (a b : Bool) → bit a ≡ bit b → a ≡ b
bit_same true true e = refl
bit_same true false e = absurd (omega arith)
bit_same false true e = absurd (omega arith)
bit_same false false e = refl

pub bit_less : (a b : Bool) → bit a < bit b → (a ≡ false) × (b ≡ true)
bit_less true true h = absurd (omega arith)
bit_less true false h = absurd (omega arith)
bit_less false true h = (refl, refl)
bit_less false false h = absurd (omega arith)

-- a test as the code's number
pub cast_is_bit : (b : Bool) → bool_byte b ≡ bit b
cast_is_bit b = by_test (λ b. bool_byte b ≡ bit b) b (λ _. refl) (λ _. refl)
