-- Rules asked one after the other: the verdict is `passed` just where all of them hold. What an answer says of its verdict.
use mathlib.Core.Path.{◌≡◌, refl}
use mathlib.Core.Bool.{Bool, true, false, false≢true}
use Prim.Native.Nat.{ℕ}
use native.Mathlib.Omega.{arith}
use Rattle.model.specs.Rules.{Verdict, passed, broken, ask, ◌then◌, is_passed}
use Rattle.model.specs.Calls.{answered, refused, answer}

pub broken≢passed : {q i : ℕ} → broken q i ≡ passed → ⊥
broken≢passed e = let z : ◌≡◌ {A = ℕ} 0 1 = cc in omega arith

pub ask_passed : (q i : ℕ) (b : Bool) → ask q i b ≡ passed → b ≡ true
ask_passed q i true e = refl
ask_passed q i false e = absurd (broken≢passed e)

pub then_passed : (a b : Verdict) → (a then b) ≡ passed → (a ≡ passed) × (b ≡ passed)
then_passed passed b e = (refl, e)
then_passed (broken q i) b e = absurd (broken≢passed e)

pub then_grouped : (a b c : Verdict) → ((a then b) then c) ≡ (a then b then c)
then_grouped passed b c = refl
then_grouped (broken q i) b c = refl

pub then_none : (a : Verdict) → (a then passed) ≡ a
then_none passed = refl
then_none (broken q i) = refl

pub is_passed_lem : (a : Verdict) → is_passed a ≡ true → a ≡ passed
is_passed_lem passed e = refl
is_passed_lem (broken q i) e = absurd (false≢true e)

-- ---- what an answer says of its verdict

pub answered_passed : {A : Type 0} {x : A} (v : Verdict) (y : A) → answered x ≡ answer v y → (v ≡ passed) × (x ≡ y)
answered_passed passed y e = (refl, cc)
answered_passed (broken q i) y e = let z : ◌≡◌ {A = ℕ} 0 1 = cc in absurd (omega arith)

pub refused_broken : {A : Type 0} {q i : ℕ} (v : Verdict) (y : A) → refused q i ≡ answer v y → v ≡ broken q i
refused_broken passed y e = let z : ◌≡◌ {A = ℕ} 0 1 = cc in absurd (omega arith)
refused_broken (broken q i) y e = cc
