-- `TreeFile::is_open`: may a cache stand at v?
use mathlib.Core.Path.{◌≡◌, sym, ap, ◌∙◌}
use mathlib.Core.Bool.{true, false}
use Prim.Native.Nat.{ℕ}
use lib.Dec.{eqb}
use Rattle.model.specs.File.{has_open_bytes}
use Rattle.model.proofs.Accepted.{open_told, all_open_told, open_by_byte, open_throughout}
use Rattle.fields.proofs.TreeFile.is_open.Goals as goal

pub field-requires-clause-has_field : goal.field-requires-clause-has_field
field-requires-clause-has_field c = rw (← c.self.view_is) (open_told _ (sym c.self.invariant.1 ∙ c.if-self-eq-OPEN_RECORD.true))

pub returns-then-self-eq-OPEN_RECORD : goal.returns-then-self-eq-OPEN_RECORD
returns-then-self-eq-OPEN_RECORD c =
    let open_bytes_lem : has_open_bytes c.args.self.now ≡ true = rw (← c.self.view_is) (open_told _ (sym c.self.invariant.1 ∙ c.if-self-eq-OPEN_RECORD.true)) in
    ap (λ (x : ℕ). eqb x 1) c.field.ensures.value ∙ sym (open_by_byte _ _ open_bytes_lem)

pub returns : goal.returns
returns c =
    let no_open_bytes : has_open_bytes c.args.self.now ≡ false =
    rw (← c.self.view_is) (all_open_told _ (λ e. c.if-self-eq-OPEN_RECORD.false (c.self.invariant.1 ∙ e))) in
    sym (open_throughout _ _ no_open_bytes)
