-- The load above a node by what is below it: relieved flows where the node is a member, else its own flow and the loads above
-- its children.
use mathlib.Core.Path.{◌≡◌, refl, sym, ap, ◌∙◌}
use mathlib.Core.Bool.{Bool, true, false, cond, ◌||◌, or-true, or-false}
use mathlib.Core.List.{List, [], ◌∷◌}
use Prim.Native.Nat.{ℕ, zero, suc, ◌+◌, ◌-◌, ◌≤◌, ◌<◌}
use native.Mathlib.Decide.{ℕ_discrete}
use native.Mathlib.Omega.{arith}
use lib.Dec.{eqb}
use borrow.Author.Tests.{eq-eqb, ne_eqb}
use Rattle.laws.specs.Lists.{range, sum, has, any_of, those}
use Rattle.laws.proofs.Bools.{by_test, not_both, both, cond_same}
use Rattle.laws.proofs.Lists.{has_none, has_other, has_those, range_bounds}
use Rattle.laws.proofs.Sums.{sum_add, sum_none, sum_swap, sum_same, sum_those, sum_point}
use Rattle.laws.proofs.Ranges.{those_inside}
use Rattle.model.specs.File.{Tree, Demand}
use Rattle.model.specs.Tree.{nodes, sites, route, at_or_below}
use Rattle.model.specs.Bill.{whole, up_to, client_load, link_load}
use Rattle.model.specs.Preorder.{Preorder}
use Rattle.model.specs.Children.{child_of, relieved}
use Rattle.model.proofs.Routes.{route_server, parent_before, route_up, by_route, route_before}
use Rattle.model.proofs.Amounts.{load_amounts}
use Rattle.model.proofs.Intervals.{below_self, parent_earlier, below_parent, none_from}
use Rattle.model.proofs.Loads.{sent, bears, bears_up, bears_here, link_load_is}

-- the children of v stand in its subtree, which node e ends
pub children_in_subtree : (t : Tree) → Preorder t → (v e : ℕ) → v < e → e ≤ t.count → (e < t.count → at_or_below t v e ≡ false)
    → those (child_of t v) (sites t) ≡ those (child_of t v) (range (v + 1) (e - (v + 1)))
children_in_subtree t pre v e h l beyond =
    those_inside (child_of t v) 1 (t.count - 1) (v + 1) e (omega arith) (omega arith) (omega arith)
    (λ u a b. ne_eqb (t.parent u) v (λ p. omega (arith, parent_earlier t pre u a)))
    (λ u a b. ne_eqb (t.parent u) v (λ p. not_both (below_parent t pre v u (omega arith) ∙ rw p (below_self t pre v)) (none_from t pre v e u (omega arith) (beyond (omega arith)) a)))

module _ (t : Tree) (d : Demand) (k : List ℕ) where
  -- ---- above a member

  load_by_clients : (v : ℕ) → 1 ≤ v → link_load t d k v ≡ sum (client_load t d k v) (those (at_or_below t v) (nodes t))
  unfolding link_load
  load_by_clients zero z = absurd (omega arith)
  load_by_clients (suc v) z = refl

  met_at_member : (v : ℕ) (l : List ℕ) → has k v ≡ true → has l v ≡ true → any_of (has k) (up_to v l) ≡ true
  unfolding any_of up_to
  met_at_member v [] h m = absurd (has_none v m)
  met_at_member v (u ∷ l) h m =
      elim (ℕ_discrete u v) [
        | yes e ↦ rw (e, h)
        | no e ↦ rw (ne_eqb u v e, met_at_member v l h (sym (has_other u v l e) ∙ m), or-true)
      ]

  -- a cache relieves the link above it of every client at or below it
  pub load_above_member : (v : ℕ) → 1 ≤ v → has k v ≡ true → link_load t d k v ≡ sum (relieved d) (those (at_or_below t v) (nodes t))
  unfolding at_or_below
  load_above_member v z h =
      load_by_clients v z
      ∙ sum_same (client_load t d k v) (relieved d) (those (at_or_below t v) (nodes t))
      (λ c m. rw (load_amounts d c t k v, met_at_member v (route t c) h (both (at_or_below t v c) (has (nodes t) c) (sym (has_those (at_or_below t v) c (nodes t)) ∙ m)).0))

  -- ---- above another node

  module _ (pre : Preorder t) (v : ℕ) (z : 1 ≤ v) (other : has k v ≡ false) where
    module _ (c m : ℕ) where
      -- what the client at c puts on the link above u along the route of w, if u is a child of v
      child_bears : Bool → ℕ → ℕ → ℕ
      child_bears met w u = cond (child_of t v u) (bears t d pre k c met (route t w) u) 0

      -- along the route of w: what is borne above v was sent at v or is borne above a child of v
      abbrev ByChildren : ℕ → Type 0
      ByChildren w =
          (met : Bool) → w ≤ m
          → bears t d pre k c met (route t w) v ≡ cond (eqb w v) (sent t d pre k c met) 0 + sum (child_bears met w) (range 1 m)

      bears_server : (met : Bool) (u : ℕ) → 1 ≤ u → bears t d pre k c met (route t 0) u ≡ 0
      unfolding bears has
      bears_server met u h = rw (route_server t, ne_eqb 0 u (λ e. omega arith))

      by_children_server : ByChildren 0
      unfolding child_bears
      by_children_server met l =
          rw (bears_server met v z, ne_eqb 0 v (λ e. omega arith))
          (omega (
            arith,
            sum_none (range 1 m),
            sum_same (child_bears met 0) (λ _. 0) (range 1 m)
                (λ u h. rw (bears_server met u (range_bounds 1 m u h).0) (cond_same (child_of t v u) 0)),
          ))

      -- the children of v along one link more
      children_up : (met : Bool) (i : ℕ) → suc i ≤ m → ByChildren (t.parent (suc i))
          → sum (child_bears met (suc i)) (range 1 m) ≡ bears t d pre k c (met || has k (suc i)) (route t (t.parent (suc i))) v
      unfolding child_bears
      children_up met i l ih =
          let q = t.parent (suc i) in
          let r = route t q in
          let met' = met || has k (suc i) in
          let off = route_before t pre (suc i) q (omega (arith, parent_before t pre i)) in
          sum_point (child_bears met (suc i)) (child_bears met' q) (suc i) (cond (eqb q v) (sent t d pre k c met') 0) 1 m
          (rw (route_up t pre i) (by_test (λ b. cond b (bears t d pre k c met (suc i ∷ r) (suc i)) 0 ≡ cond b (sent t d pre k c met') 0 + cond b (bears t d pre k c met' r (suc i)) 0)
          (eqb q v) (λ _. bears_here t d pre k c met (suc i) r off) (λ _. omega arith)))
          (λ u n. rw (route_up t pre i) (ap (λ x. cond (child_of t v u) x 0) (bears_up t d pre k c met (suc i) u r n)))
          (omega arith)
          (omega arith)
          ∙ sym (ih met' (omega (arith, parent_before t pre i)))

      by_children_up : (i : ℕ) → ByChildren (t.parent (suc i)) → ByChildren (suc i)
      by_children_up i ih met l =
          let q = t.parent (suc i) in
          let off = route_before t pre (suc i) q (omega (arith, parent_before t pre i)) in
          rw (children_up met i l ih, route_up t pre i)
          (elim (ℕ_discrete (suc i) v) [
            | yes e ↦
                let lacks = ap (has k) e ∙ other in
                rw (eq-eqb (suc i) v e, ← e, lacks, or-false met) (rw (lacks, or-false met) at (bears_here t d pre k c met (suc i) (route t q) off))
            | no e ↦ rw (ne_eqb (suc i) v e) (bears_up t d pre k c met (suc i) v (route t q) (λ x. e (sym x)) ∙ omega arith)
          ])

      by_children : (w : ℕ) → ByChildren w
      by_children = by_route t pre ByChildren by_children_server by_children_up

    -- the clients' own flows, and each child's load
    own_flow : v < t.count → sum (λ c. cond (eqb c v) (sent t d pre k c false) 0) (nodes t) ≡ whole d v
    unfolding sent
    own_flow h =
        sum_point _ (λ _. 0) v (whole d v) 0 t.count (rw (eq-eqb v v refl) (omega arith)) (λ c n. rw (ne_eqb c v n)) (omega arith) (omega arith)
        ∙ omega (arith, sum_none (nodes t))

    child_load : (m u : ℕ) → 1 ≤ u → sum (λ c. child_bears c m false c u) (nodes t) ≡ cond (child_of t v u) (link_load t d k u) 0
    unfolding child_bears
    child_load m u h =
        by_test (λ b. sum (λ c. cond b (bears t d pre k c false (route t c) u) 0) (nodes t) ≡ cond b (link_load t d k u) 0) (child_of t v u)
        (λ _. sym (link_load_is t d pre k u h)) (λ _. sum_none (nodes t))

    -- the link above a node without a cache carries its own flow and the loads above its children
    pub load_above_other : v < t.count → link_load t d k v ≡ whole d v + sum (link_load t d k) (those (child_of t v) (sites t))
    load_above_other h =
        let m = t.count - 1 in
        let own : ℕ → ℕ = λ c. cond (eqb c v) (sent t d pre k c false) 0 in
        let children : ℕ → ℕ = λ c. sum (child_bears c m false c) (sites t) in
        link_load_is t d pre k v z
        ∙ sum_same _ (λ c. own c + children c) (nodes t) (λ c i. by_children c m c false (let b = range_bounds 0 t.count c i in omega arith))
        ∙ sum_add own children (nodes t)
        ∙ omega (
          arith,
          own_flow h,
          sum_swap (λ c u. child_bears c m false c u) (nodes t) (sites t),
          sum_those (link_load t d k) (child_of t v) (sites t),
          sum_same _ (λ u. cond (child_of t v u) (link_load t d k u) 0) (sites t) (λ u i. child_load m u (range_bounds 1 m u i).0),
        )
