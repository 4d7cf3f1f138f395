-- Laws of ancestors by depth: the node itself, those that a child has from its parent and siblings share, and the way up.
use mathlib.Core.Path.{◌≡◌, refl, sym, ap, ◌∙◌}
use Prim.Native.Nat.{ℕ, zero, suc, ◌-◌, ◌≤◌, ◌<◌}
use native.Mathlib.Nat.{le_refl}
use native.Mathlib.Decide.{dec_lt}
use native.Mathlib.Omega.{arith}
use Rattle.model.specs.File.{Tree}
use Rattle.model.specs.Tree.{depth, distance}
use Rattle.model.specs.Preorder.{Preorder}
use Rattle.model.proofs.Routes.{route_server, parent_before, route_up, by_route, distance_up}
use Rattle.model.proofs.Depths.{depth_server, depth_up}
use Rattle.node_words.specs.Ancestors.{ancestor_at}

module _ (t : Tree) (pre : Preorder t) where
  -- at its own depth a node's ancestor is the node
  pub ancestor_self : (v : ℕ) → ancestor_at t v (depth t v) ≡ v
  unfolding ancestor_at
  ancestor_self zero = rw (route_server t, depth_server t)
  ancestor_self (suc i) =
      let none : depth t (suc i) - depth t (suc i) ≡ 0 = omega arith in
      rw (none, route_up t pre i)

  -- ---- a child is one deeper, has its parent's ancestors, and above them its parent

  pub child_depth : (c v : ℕ) → 0 < c → t.parent c ≡ v → depth t c ≡ suc (depth t v)
  child_depth zero v h e = absurd (omega arith)
  child_depth (suc i) v h e = depth_up t pre i ∙ ap (λ p. suc (depth t p)) e

  pub child_ancestor : (c v a : ℕ) → 0 < c → t.parent c ≡ v → a ≤ depth t v → ancestor_at t c a ≡ ancestor_at t v a
  unfolding ancestor_at
  child_ancestor zero v a h e k = absurd (omega arith)
  child_ancestor (suc i) v a h e k =
      let one : depth t (suc i) - a ≡ suc (depth t v - a) = omega (arith, child_depth (suc i) v h e) in
      rw (one, route_up t pre i, e)

  pub child_ancestor_parent : (c v : ℕ) → 0 < c → t.parent c ≡ v → ancestor_at t c (depth t v) ≡ v
  child_ancestor_parent c v h e = child_ancestor c v (depth t v) h e (le_refl (depth t v)) ∙ ancestor_self v

  -- ---- siblings are equally deep, and have the same ancestors

  pub sibling_depth : (u v : ℕ) → 0 < u → 0 < v → t.parent u ≡ t.parent v → depth t u ≡ depth t v
  sibling_depth u v h k e = child_depth u (t.parent v) h e ∙ sym (child_depth v (t.parent v) k refl)

  pub sibling_ancestor : (u v a : ℕ) → 0 < u → 0 < v → t.parent u ≡ t.parent v → a < depth t v → ancestor_at t u a ≡ ancestor_at t v a
  sibling_ancestor u v a h k e l =
      let up = t.parent v in
      let above : a ≤ depth t up = omega (arith, child_depth v up k refl) in
      child_ancestor u up a h e above ∙ sym (child_ancestor v up a k refl above)

  -- ---- an ancestor's own place

  -- what holds of each node with itself, and of a node if of its parent, holds of each node with each of its ancestors
  by_ancestor : (P : ℕ → ℕ → ℕ → Type 0) → ((v : ℕ) → P v (depth t v) v) → ((i a u : ℕ) → P (t.parent (suc i)) a u → P (suc i) a u)
      → (v a : ℕ) → a ≤ depth t v → P v a (ancestor_at t v a)
  by_ancestor P own up =
      by_route t pre (λ v. (a : ℕ) → a ≤ depth t v → P v a (ancestor_at t v a))
      (λ a h. let z : a ≡ depth t 0 = omega (arith, depth_server t) in rw (z, ancestor_self 0) (own 0))
      (λ i above a h.
      elim (dec_lt a (depth t (suc i))) [
        | yes l ↦
            let p = t.parent (suc i) in
            let k : a ≤ depth t p = omega (arith, depth_up t pre i) in
            rw (child_ancestor (suc i) p a (omega arith) refl k) (up i a (ancestor_at t p a) (above a k))
        | no l ↦ let z : a ≡ depth t (suc i) = omega arith in rw (z, ancestor_self (suc i)) (own (suc i))
      ])

  -- an ancestor is not after its node, and not farther from the server
  pub ancestor_before : (v a : ℕ) → a ≤ depth t v → ancestor_at t v a ≤ v
  ancestor_before = by_ancestor (λ v a u. u ≤ v) le_refl (λ i a u h. omega (arith, parent_before t pre i))

  pub ancestor_nearer : (v a : ℕ) → a ≤ depth t v → distance t (ancestor_at t v a) ≤ distance t v
  ancestor_nearer = by_ancestor (λ v a u. distance t u ≤ distance t v) (λ v. le_refl (distance t v)) (λ i a u h. omega (arith, distance_up t pre i))

  -- at depth 0 it is the server
  pub ancestor_server : (v : ℕ) → ancestor_at t v 0 ≡ 0
  ancestor_server =
      by_route t pre (λ v. ancestor_at t v 0 ≡ 0) (ap (ancestor_at t 0) (sym (depth_server t)) ∙ ancestor_self 0)
      (λ i h. child_ancestor (suc i) (t.parent (suc i)) 0 (omega arith) refl (omega arith) ∙ h)

  -- one link up from an ancestor is the next one
  pub ancestor_up : (v a : ℕ) → a < depth t v → t.parent (ancestor_at t v (suc a)) ≡ ancestor_at t v a
  ancestor_up =
      by_route t pre (λ v. (a : ℕ) → a < depth t v → t.parent (ancestor_at t v (suc a)) ≡ ancestor_at t v a)
      (λ a h. absurd (omega (arith, depth_server t)))
      (λ i above a h.
      let v = suc i in
      let p = t.parent v in
      let k : a ≤ depth t p = omega (arith, depth_up t pre i) in
      rw (child_ancestor v p a (omega arith) refl k)
      (elim (dec_lt a (depth t p)) [
        | yes l ↦ rw (child_ancestor v p (suc a) (omega arith) refl l) (above a l)
        | no l ↦
            let whole : suc a ≡ depth t v = omega (arith, depth_up t pre i) in
            let last : a ≡ depth t p = omega arith in
            rw (whole, ancestor_self v, last, ancestor_self p)
      ]))
