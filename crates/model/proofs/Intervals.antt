-- In preorder the nodes at or below a node are the node and the run of nodes after it whose parents do not come before it.
use mathlib.Core.Path.{◌≡◌, refl, sym, ◌∙◌}
use mathlib.Core.Bool.{true, false, ◌&&◌, and-false}
use mathlib.Core.List.{[]}
use Prim.Native.Nat.{ℕ, zero, suc, ◌+◌, ◌-◌, ◌≤◌, ◌<◌}
use native.Mathlib.Nat.{add-zero, add-suc}
use native.Mathlib.Decide.{dec_lt, ℕ_discrete}
use native.Mathlib.Omega.{arith}
use lib.Dec.{leb}
use borrow.Author.Tests.{le-leb, lt-leb}
use Rattle.laws.specs.Lists.{range, those}
use Rattle.laws.proofs.Bools.{by_test, both, not_both}
use Rattle.laws.proofs.Lists.{has_head, has_other, range_bounds}
use Rattle.laws.proofs.Ranges.{those_all, those_inside}
use Rattle.model.specs.File.{Tree}
use Rattle.model.specs.Tree.{nodes, route, at_or_below}
use Rattle.model.specs.Preorder.{Preorder}
use Rattle.model.proofs.Routes.{route_server, parent_before, route_up, by_route, route_before}

module _ (t : Tree) (pre : Preorder t) where
  pub below_self : (v : ℕ) → at_or_below t v v ≡ true
  unfolding at_or_below
  below_self zero = rw (route_server t) (has_head 0 [])
  below_self (suc i) = rw (route_up t pre i) (has_head (suc i) (route t (t.parent (suc i))))

  -- a node before v is not at or below v
  pub before_not_below : (v c : ℕ) → c < v → at_or_below t v c ≡ false
  unfolding at_or_below
  before_not_below v c h = route_before t pre v c h

  pub below_after : (v c : ℕ) → at_or_below t v c ≡ true → v ≤ c
  below_after v c h = elim (dec_lt c v) [ yes l ↦ absurd (not_both h (before_not_below v c l)) | no l ↦ omega arith ]

  pub parent_earlier : (v : ℕ) → 1 ≤ v → t.parent v < v
  parent_earlier zero h = absurd (omega arith)
  parent_earlier (suc i) h = omega (arith, parent_before t pre i)

  -- another node is at or below v just if its parent is
  pub below_other : (v c : ℕ) → 1 ≤ c → (c ≡ v → ⊥) → at_or_below t v c ≡ at_or_below t v (t.parent c)
  unfolding at_or_below
  below_other v zero h n = absurd (omega arith)
  below_other v (suc i) h n = rw (route_up t pre i) (has_other (suc i) v (route t (t.parent (suc i))) n)

  pub below_parent : (v c : ℕ) → v < c → at_or_below t v c ≡ at_or_below t v (t.parent c)
  below_parent v c h = below_other v c (omega arith) (λ e. omega arith)

  -- ---- a node on a route: its own route is the rest of that route

  rest_of_own : (w v : ℕ) → at_or_below t v w ≡ (at_or_below t v w && leb v w)
  rest_of_own w v = by_test (λ b. at_or_below t v w ≡ b → b ≡ (b && leb v w)) (at_or_below t v w) (λ _ h. rw (le-leb v w (below_after v w h))) (λ _ _. refl) refl

  rest_up : (i p v : ℕ) → p ≤ t.parent (suc i) → at_or_below t v p ≡ (at_or_below t v (t.parent (suc i)) && leb v p)
      → at_or_below t v p ≡ (at_or_below t v (suc i) && leb v p)
  rest_up i p v l ih =
      elim (dec_lt v (suc i)) [
        | yes h ↦ rw (below_parent v (suc i) h) ih
        | no h ↦
            let far : p < v = omega (arith, parent_before t pre i) in
            rw (before_not_below v p far, lt-leb v p far, and-false)
      ]

  pub rest_of_route : (p v w : ℕ) → at_or_below t p w ≡ true → at_or_below t v p ≡ (at_or_below t v w && leb v p)
  rest_of_route p v =
      by_route t pre (λ w. at_or_below t p w ≡ true → at_or_below t v p ≡ (at_or_below t v w && leb v p))
      (λ h. let e : p ≡ 0 = omega (arith, below_after p 0 h) in rw e (rest_of_own 0 v))
      (λ i ih h. elim (ℕ_discrete p (suc i)) [
        | yes e ↦ rw e (rest_of_own (suc i) v)
        | no e ↦
            let m = sym (below_parent p (suc i) (omega (arith, below_after p (suc i) h))) ∙ h in
            rest_up i p v (below_after p (t.parent (suc i)) m) (ih m)
      ])

  pub below_trans : (v i c : ℕ) → at_or_below t v i ≡ true → at_or_below t i c ≡ true → at_or_below t v c ≡ true
  below_trans v i c h k = (both (at_or_below t v c) (leb v i) (sym (rest_of_route i v c k) ∙ h)).0

  -- no node is at or below two siblings
  pub siblings_apart : (v s c : ℕ) → 1 ≤ v → v < s → t.parent s ≡ t.parent v → at_or_below t v c ≡ true → at_or_below t s c ≡ false
  siblings_apart v s c site later e h =
      by_test (λ b. at_or_below t s c ≡ b → b ≡ false) (at_or_below t s c)
      (λ _ m. absurd (not_both (rest_of_route s v c m ∙ rw (h, le-leb v s (omega arith)))
      (below_parent v s later ∙ rw e (before_not_below v (t.parent v) (parent_earlier v site)))))
      (λ _ _. refl) refl

  -- ---- the run of nodes

  -- the next node is at or below v too unless its parent comes before v
  below_next : (v c : ℕ) → v ≤ c → at_or_below t v (suc c) ≡ (at_or_below t v c && leb v (t.parent (suc c)))
  unfolding at_or_below
  below_next v c h = below_parent v (suc c) (omega arith) ∙ rest_of_route (t.parent (suc c)) v c (pre c)

  none_after : (v e m : ℕ) → v ≤ e → at_or_below t v e ≡ false → at_or_below t v (e + m) ≡ false
  none_after v e zero h n = rw (add-zero e) n
  none_after v e (suc m) h n = rw (add-suc e m) (below_next v (e + m) (omega arith) ∙ rw (none_after v e m h n))

  -- from a later node that is not at or below v on, none is
  pub none_from : (v e c : ℕ) → v ≤ e → at_or_below t v e ≡ false → e ≤ c → at_or_below t v c ≡ false
  none_from v e c h n l = let far : e + (c - e) ≡ c = omega arith in rw far at (none_after v e (c - e) h n)

  -- the node that ends v's subtree hangs from v's parent or an ancestor of it
  pub end_parent : (v j : ℕ) → at_or_below t v j ≡ true → at_or_below t v (suc j) ≡ false → at_or_below t (t.parent (suc j)) (t.parent v) ≡ true
  unfolding at_or_below
  end_parent v j h n =
      let q = t.parent (suc j) in
      let before : q < v = elim (dec_lt q v) [
        | yes l ↦ l
        | no l ↦ absurd (not_both (below_next v j (below_after v j h) ∙ rw (h, le-leb v q (omega arith))) n)
      ] in
      sym (below_parent q v before) ∙ rest_of_route v q j h ∙ rw (pre j, le-leb q v (omega arith))

  -- ---- all nodes at or below v: from v to e - 1, where node e is not or there is none

  pub subtree_is_range : (v e : ℕ) → v < e → e ≤ t.count → ((c : ℕ) → v < c → c < e → at_or_below t v c ≡ true)
      → (e < t.count → at_or_below t v e ≡ false) → those (at_or_below t v) (nodes t) ≡ range v (e - v)
  subtree_is_range v e h l within beyond =
      those_inside (at_or_below t v) 0 t.count v e (omega arith) (omega arith) (omega arith)
      (λ c _ b. before_not_below v c b)
      (λ c a b. none_from v e c (omega arith) (beyond (omega arith)) a)
      ∙ those_all (at_or_below t v) (range v (e - v)) (λ c m. let b = range_bounds v (e - v) c m in elim (ℕ_discrete v c) [
        | yes q ↦ rw q (below_self c)
        | no q ↦ within c (omega arith) (omega arith)
      ])
