-- `TreeFile::cachable`: the part of it that a cache can serve.
use mathlib.Core.Path.{◌≡◌, sym, ap, ap₂, ◌∙◌}
use mathlib.Core.Bool.{true, false, not}
use Prim.Native.Nat.{ℕ, ◌*◌, ◌-◌, ◌^◌, ◌<◌}
use native.Mathlib.Nat.{mul-le-mul}
use native.Mathlib.Omega.{arith}
use Rattle.model.specs.File.{has_ratios}
use Rattle.model.specs.Bill.{thousandths}
use Rattle.model.proofs.Accepted.{ratio_told, bytes_told}
use Rattle.model.proofs.Amounts.{cachable_ratio, cachable_bytes}
use Rattle.fields.proofs.TreeFile.cachable.Goals as goal

pub field-requires-then-self-eq-RATIO_RECORD-clause-has_field : goal.field-requires-then-self-eq-RATIO_RECORD-clause-has_field
field-requires-then-self-eq-RATIO_RECORD-clause-has_field c = rw (← c.self.view_is) (ratio_told _ (sym c.self.invariant.1 ∙ c.if-self-eq-RATIO_RECORD.true))

-- the product of two numbers of 32 bits has at most 64
product_fits : (a b : ℕ) → a < 2 ^ 32 → b < 2 ^ 32 → a * b < 2 ^ 64
product_fits a b g h =
    omega (arith, mul-le-mul {n₁ = a} {m₁ = b} {n₂ = 2 ^ 32 - 1} {m₂ = 2 ^ 32 - 1} (omega arith) (omega arith))

pub returns-then-self-eq-RATIO_RECORD : goal.returns-then-self-eq-RATIO_RECORD
returns-then-self-eq-RATIO_RECORD c =
    let ratios : has_ratios c.args.self.now ≡ true = rw (← c.self.view_is) (ratio_told _ (sym c.self.invariant.1 ∙ c.if-self-eq-RATIO_RECORD.true)) in
    ap₂ ◌*◌ c.field.ensures.value c.field-then-self-eq-RATIO_RECORD.ensures.value ∙ sym (cachable_ratio _ _ ratios)

pub field-requires-2-clause-has_field : goal.field-requires-2-clause-has_field
field-requires-2-clause-has_field c =
    let no_ratios : has_ratios c.args.self.now ≡ false = rw (← c.self.view_is) (bytes_told _ (λ e. c.if-self-eq-RATIO_RECORD.false (c.self.invariant.1 ∙ e))) in
    ap not no_ratios

pub returns : goal.returns
returns c =
    let no_ratios : has_ratios c.args.self.now ≡ false = rw (← c.self.view_is) (bytes_told _ (λ e. c.if-self-eq-RATIO_RECORD.false (c.self.invariant.1 ∙ e))) in
    ap (λ (x : ℕ). thousandths * x) c.field-2.ensures.value ∙ sym (cachable_bytes _ _ no_ratios)
