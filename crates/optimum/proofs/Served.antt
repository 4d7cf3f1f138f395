-- Rows and their serving nodes: a node's children, with the node as a cache and without, and its later siblings.
use mathlib.Core.Path.{◌≡◌, ◌∙◌}
use mathlib.Core.Logic.{inl, inr, ⊎_elim}
use Prim.Native.Nat.{ℕ, ◌<◌}
use native.Mathlib.Omega.{arith}
use Rattle.model.specs.File.{Tree}
use Rattle.model.specs.Tree.{depth}
use Rattle.model.specs.Preorder.{Preorder}
use Rattle.best_rows.specs.TreeRows.{first_child, next_sibling, NoneOrChild}
use Rattle.best_rows.proofs.TreeRows.{first_child_stands, next_sibling_stands}
use Rattle.node_words.specs.Ancestors.{ancestor_at}
use Rattle.node_words.proofs.Ancestors.{child_depth, child_ancestor, child_ancestor_parent, sibling_depth, sibling_ancestor}
use Rattle.optimum.specs.Walk.{RowServed}

module _ (t : Tree) (pre : Preorder t) where
  -- a row of children found, where each child there could be has `serving` above it
  row_served : (v p u serving : ℕ) → NoneOrChild t v p u → v < t.count → serving < t.count
      → (0 < u → t.parent u ≡ p → (depth t serving < depth t u) × (ancestor_at t u (depth t serving) ≡ serving)) → RowServed t u serving
  row_served v p u serving (inl e) h k f = record { node = omega arith; above = k; way = inl e }
  row_served v p u serving (inr e) h k f = record { node = e.1; above = k; way = inr (f (omega arith) e.2) }

  -- the children of x, x being a cache or the server
  pub children_served : (x : ℕ) → x < t.count → RowServed t (first_child t x) x
  children_served x h =
      row_served x x (first_child t x) x (first_child_stands t x) h h
      (λ p e. (omega (arith, child_depth t pre _ x p e), child_ancestor_parent t pre _ x p e))

  module _ (x serving : ℕ) (some : 0 < x) (s : RowServed t x serving) where
    pub served_from_above : (depth t serving < depth t x) × (ancestor_at t x (depth t serving) ≡ serving)
    served_from_above = ⊎_elim (λ e. absurd (omega arith)) (λ w. w) s.way

    -- the children of x, x being no cache
    pub children_served_above : RowServed t (first_child t x) serving
    children_served_above =
        row_served x x (first_child t x) serving (first_child_stands t x) s.node s.above
        (λ p e. (
          omega (arith, child_depth t pre _ x p e, served_from_above.0),
          child_ancestor t pre _ x (depth t serving) p e (omega (arith, served_from_above.0)) ∙ served_from_above.1,
        ))

    -- the later siblings of x
    pub siblings_served : RowServed t (next_sibling t x) serving
    siblings_served =
        row_served x (t.parent x) (next_sibling t x) serving (next_sibling_stands t x) s.node s.above
        (λ p e. (
          omega (arith, sibling_depth t pre _ x p some e, served_from_above.0),
          sibling_ancestor t pre _ x (depth t serving) p some e served_from_above.0 ∙ served_from_above.1,
        ))
