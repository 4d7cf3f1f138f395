-- The mark at a file's start, byte by byte.
use mathlib.Core.Path.{◌≡◌, refl, sym, ap₂, ◌∙◌}
use mathlib.Core.Bool.{false≢true, ◌&&◌}
use mathlib.Core.List.{List, [], ◌∷◌}
use Prim.Native.Nat.{ℕ}
use lib.Dec.{eqb}
use lib.ListN.{take}
use lib.Pointwise.{pointwise}
use borrow.Author.Tests.{eq-eqb, ne_eqb, eqb-true}
use Rattle.laws.specs.Lists.{same}
use Rattle.laws.proofs.Bools.{by_test}
use Rattle.model.specs.File.{mark}
use Rattle.model.specs.Rules.{marked}

eqb_sym : (a b : ℕ) → eqb a b ≡ eqb b a
eqb_sym a b =
    by_test (λ x. eqb a b ≡ x → x ≡ eqb b a) (eqb a b)
    (λ h _. rw (eqb-true a b h) (sym (eq-eqb b b refl)))
    (λ h _. sym (ne_eqb b a (λ e. false≢true (sym h ∙ eq-eqb a b (sym e)))))
    refl

-- two lists are the same entry by entry, whichever is named first
same_pointwise : (xs ys : List ℕ) → pointwise eqb ys xs ≡ same xs ys
unfolding same
same_pointwise [] [] = refl
same_pointwise [] (y ∷ ys) = refl
same_pointwise (x ∷ xs) [] = refl
same_pointwise (x ∷ xs) (y ∷ ys) = ap₂ ◌&&◌ (eqb_sym y x) (same_pointwise xs ys)

pub marked_told : (file : List ℕ) → pointwise eqb mark (take 3 file) ≡ marked file
unfolding marked
marked_told file = same_pointwise (take 3 file) mark
