-- Laws of a tree's rows by node numbers: first child and next sibling lead to the rows, and what a pass through the nodes keeps.
use mathlib.Core.Path.{◌≡◌, refl, ap, ◌∙◌}
use mathlib.Core.Bool.{cond}
use mathlib.Core.Logic.{inl, inr}
use Prim.Native.Nat.{ℕ, zero, suc, ◌+◌, ◌-◌, ◌<◌}
use native.Mathlib.Omega.{arith}
use lib.Dec.{eqb}
use borrow.Author.Tests.{eq-eqb, ne_eqb, eqb-true, eqb-false}
use Rattle.laws.specs.Lists.{range, first_that}
use Rattle.laws.proofs.Bools.{by_test}
use Rattle.laws.proofs.Lists.{range_bounds}
use Rattle.laws.proofs.Counts.{first_that_cases}
use Rattle.model.specs.File.{Tree}
use Rattle.model.specs.Preorder.{Preorder}
use Rattle.model.proofs.Routes.{parent_before}
use Rattle.best_rows.specs.Rows.{Row, empty, node}
use Rattle.best_rows.specs.TreeRows.{row_after, first_after, nodes_after, first_child, next_sibling, row_at, NoneOrChild}

module _ (t : Tree) where
  -- a fact of a row by whether the next node is a child of p
  pub row_after_cases {ℓ} : (P : Row → Type ℓ) (n i p : ℕ)
      → (t.parent (suc i) ≡ p → P (node (suc i) (row_after t n (suc i) (suc i)) (row_after t n (suc i) p)))
      → ((t.parent (suc i) ≡ p → ⊥) → P (row_after t n (suc i) p))
      → P (row_after t (suc n) i p)
  unfolding row_after
  row_after_cases P n i p child other =
      let rest = row_after t n (suc i) p in
      by_test (λ b. P (cond b (node (suc i) (row_after t n (suc i) (suc i)) rest) rest)) (eqb (t.parent (suc i)) p)
      (λ e. child (eqb-true _ _ e)) (λ e. other (eqb-false _ _ e))

  pub row_after_child : (n i p : ℕ) → t.parent (suc i) ≡ p
      → row_after t (suc n) i p ≡ node (suc i) (row_after t n (suc i) (suc i)) (row_after t n (suc i) p)
  unfolding row_after
  row_after_child n i p e = rw (eq-eqb (t.parent (suc i)) p e)

  pub row_after_other : (n i p : ℕ) → (t.parent (suc i) ≡ p → ⊥) → row_after t (suc n) i p ≡ row_after t n (suc i) p
  unfolding row_after
  row_after_other n i p e = rw (ne_eqb (t.parent (suc i)) p e)

  -- ---- what a pass from the last node to the first keeps: it changes the first child of the node's parent alone

  pub first_after_none : (i p : ℕ) → first_after t 0 i p ≡ 0
  unfolding first_after first_that range
  first_after_none i p = refl

  pub first_after_child : (n i p : ℕ) → t.parent (suc i) ≡ p → first_after t (suc n) i p ≡ suc i
  unfolding first_after first_that range
  first_after_child n i p e = rw (eq-eqb (t.parent (suc i)) p e)

  pub first_after_other : (n i p : ℕ) → (t.parent (suc i) ≡ p → ⊥) → first_after t (suc n) i p ≡ first_after t n (suc i) p
  unfolding first_after first_that range
  first_after_other n i p e = rw (ne_eqb (t.parent (suc i)) p e)

  -- a node's first child is after it, so the pass through the nodes before leaves it
  pub first_child_kept : Preorder t → (x i v : ℕ) → i + x ≡ v → v < t.count → first_after t (nodes_after t i) i v ≡ first_child t v
  unfolding first_child
  first_child_kept pre zero i v e h = let same : i ≡ v = omega arith in rw same
  first_child_kept pre (suc x) i v e h =
      let left : nodes_after t i ≡ suc (nodes_after t (suc i)) = omega arith in
      ap (λ (n : ℕ). first_after t n i v) left
      ∙ first_after_other (nodes_after t (suc i)) i v (λ c. omega (arith, parent_before t pre i))
      ∙ first_child_kept pre x (suc i) v (omega arith) h

  -- ---- the row that begins with the first child found is the row of the children

  pub row_at_none : row_at t 0 ≡ empty
  unfolding row_at
  row_at_none = refl

  pub row_at_first : (n i p : ℕ) → i + n ≡ t.count - 1 → row_at t (first_after t n i p) ≡ row_after t n i p
  unfolding row_at row_after
  row_at_first zero i p e = rw (first_after_none i p)
  row_at_first (suc n) i p e =
      row_after_cases (λ r. row_at t (first_after t (suc n) i p) ≡ r) n i p
      (λ c. let left : nodes_after t (suc i) ≡ n = omega arith in rw (first_after_child n i p c, left, c))
      (λ o. rw (first_after_other n i p o) (row_at_first n (suc i) p (omega arith)))

  pub row_at_node : (v : ℕ) → 0 < v → v < t.count → row_at t v ≡ node v (row_at t (first_child t v)) (row_at t (next_sibling t v))
  unfolding row_at first_child next_sibling
  row_at_node zero h k = absurd (omega arith)
  row_at_node (suc i) h k =
      let v = suc i in
      rw (row_at_first (nodes_after t v) v v (omega arith), row_at_first (nodes_after t v) v (t.parent v) (omega arith))

  -- ---- where first children and next siblings stand

  first_after_stands : (v p : ℕ) → NoneOrChild t v p (first_after t (nodes_after t v) v p)
  unfolding first_after
  first_after_stands v p =
      elim (first_that_cases (λ u. eqb (t.parent u) p) 0 (range (suc v) (nodes_after t v))) [
        | inl e ↦ inl e
        | inr e ↦ let b = range_bounds (suc v) (nodes_after t v) _ e.0 in inr (omega arith, omega arith, eqb-true _ _ e.1)
      ]

  pub first_child_stands : (v : ℕ) → NoneOrChild t v v (first_child t v)
  unfolding first_child
  first_child_stands v = first_after_stands v v

  pub next_sibling_stands : (v : ℕ) → NoneOrChild t v (t.parent v) (next_sibling t v)
  unfolding next_sibling
  next_sibling_stands v = first_after_stands v (t.parent v)
