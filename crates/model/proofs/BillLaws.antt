-- Laws of the bill, said without recursion over a route: the serving node, a client's cost, and the load above a link.
use mathlib.Core.Path.{◌≡◌, refl, sym, ap, ◌∙◌}
use mathlib.Core.Bool.{Bool, true, false, cond, ◌||◌, or-true, or-false}
use mathlib.Core.List.{List}
use mathlib.Core.Logic.{◌↔◌, ◌⊎◌, inl, inr, ⊎_elim}
use Prim.Native.Nat.{ℕ, suc, ◌≤◌}
use native.Mathlib.Decide.{ℕ_discrete}
use native.Mathlib.Omega.{arith}
use borrow.Author.Tests.{eq-eqb, ne_eqb}
use Rattle.laws.specs.Lists.{sum, has, any_of}
use Rattle.laws.proofs.Bools.{by_test, not_both, either}
use Rattle.model.specs.File.{Tree, Demand}
use Rattle.model.specs.Tree.{nodes, route, at_or_below}
use Rattle.model.specs.Bill.{served_load, whole, price, cost, up_to, link_load, serving}
use Rattle.model.specs.Preorder.{Preorder}
use Rattle.model.specs.Laws.{Serves, CacheBetween, PutsOn}
use Rattle.model.proofs.Routes.{route_ends, parent_before, route_up, by_route}
use Rattle.model.proofs.Amounts.{relieved_is}
use Rattle.model.proofs.Intervals.{below_self, below_after, below_other, below_parent, below_trans}
use Rattle.model.proofs.Nearest.{distance_grows, serving_server, serving_up, price_falls, cost_is}
use Rattle.model.proofs.Loads.{sent, bears, link_load_is}

module _ (t : Tree) (pre : Preorder t) (k : List ℕ) where
  -- ---- the serving node

  serves_self : (v : ℕ) → has k v ≡ true → Serves t k v v
  serves_self v h = record { on_route = below_self t pre v; member = inl h; nearest = λ u _ b. b }

  serves_server : Serves t k 0 0
  serves_server = record { on_route = below_self t pre 0; member = inr refl; nearest = λ u _ b. b }

  -- what serves the parent serves a node that is no member
  serves_up : (i s : ℕ) → has k (suc i) ≡ false → Serves t k (t.parent (suc i)) s → Serves t k (suc i) s
  serves_up i s lacks r =
      let below = below_after t pre s (t.parent (suc i)) r.on_route in
      record {
        on_route = below_parent t pre s (suc i) (omega (arith, parent_before t pre i)) ∙ r.on_route;
        member = r.member;
        nearest = λ u m b. r.nearest u m (sym (below_other t pre u (suc i) (omega arith) (λ e. not_both m (ap (has k) (sym e) ∙ lacks))) ∙ b);
      }

  pub serving_serves : (v : ℕ) → Serves t k v (serving t k v)
  serving_serves =
      by_route t pre (λ v. Serves t k v (serving t k v))
      (rw (serving_server t pre k) serves_server)
      (λ i ih. rw (serving_up t pre k i)
      (by_test (λ b. Serves t k (suc i) (cond b (suc i) (serving t k (t.parent (suc i))))) (has k (suc i)) (serves_self (suc i)) (λ lacks. serves_up i _ lacks ih)))

  serves_no_later : (v r s : ℕ) → Serves t k v r → Serves t k v s → r ≤ s
  serves_no_later v r s p q = ⊎_elim (λ m. below_after t pre r s (q.nearest r m p.on_route)) (λ e. omega arith) p.member

  pub only_serving : (v s : ℕ) → Serves t k v s → s ≡ serving t k v
  only_serving v s p =
      let q = serving_serves v in
      omega (arith, serves_no_later v s (serving t k v) p q, serves_no_later v (serving t k v) s q p)

  -- ---- the cost of a client

  module _ (d : Demand) (c : ℕ) where
    -- a member on the route, or the server, is no nearer than the serving node
    pub cost_least_lem : (v : ℕ) → at_or_below t v c ≡ true → (has k v ≡ true) ⊎ (v ≡ 0) → cost t d k c ≤ price t d c v
    unfolding at_or_below
    cost_least_lem v b m =
        let s = serving t k c in
        let above : has (route t s) v ≡ true = ⊎_elim (λ h. (serving_serves c).nearest v h b) (λ e. rw e (route_ends t s)) m in
        rw (cost_is t pre k d c) (price_falls t pre k d c s v (distance_grows t pre v s above))

    pub cost_reached_lem : (v : ℕ) × (at_or_below t v c ≡ true) × ((has k v ≡ true) ⊎ (v ≡ 0)) × (cost t d k c ≡ price t d c v)
    cost_reached_lem = let s = serving_serves c in (serving t k c, s.on_route, s.member, cost_is t pre k d c)

  -- ---- a member between a client and a link

  module _ (v : ℕ) (z : 1 ≤ v) where
    -- is a member on the way from c up to v?
    met : ℕ → Bool
    met c = any_of (has k) (up_to v (route t c))

    met_own : (i : ℕ) → suc i ≡ v → met (suc i) ≡ has k (suc i)
    unfolding met any_of up_to
    met_own i e = rw (route_up t pre i, eq-eqb (suc i) v e, or-false)

    met_up : (i : ℕ) → (suc i ≡ v → ⊥) → met (suc i) ≡ (has k (suc i) || met (t.parent (suc i)))
    unfolding met any_of up_to
    met_up i n = rw (route_up t pre i, ne_eqb (suc i) v n)

    abbrev MetSaid : ℕ → Type 0
    MetSaid c = at_or_below t v c ≡ true → met c ≡ true ↔ CacheBetween t k c v

    -- the link above the client's own node
    met_said_own : (i : ℕ) → suc i ≡ v → MetSaid (suc i)
    met_said_own i e b = rw (met_own i e) (
      λ h. (suc i, h, below_self t pre (suc i), b),
      λ a.
          let u = a.0 in
          let same : u ≡ suc i = omega (arith, below_after t pre u (suc i) a.2, below_after t pre v u a.3) in
          ap (has k) (sym same) ∙ a.1,
    )

    met_said_up : (i : ℕ) → (suc i ≡ v → ⊥) → MetSaid (t.parent (suc i)) → MetSaid (suc i)
    met_said_up i n ih b =
        let p = t.parent (suc i) in
        let said = ih (sym (below_other t pre v (suc i) (omega arith) n) ∙ b) in
        rw (met_up i n) (
          either (CacheBetween t k (suc i) v) (has k (suc i)) (met p) (λ h. (suc i, h, below_self t pre (suc i), b))
              (λ h.
              let a = said.0 h in
              let u = a.0 in
              let before = below_after t pre u p a.2 in
              (u, a.1, below_parent t pre u (suc i) (omega (arith, parent_before t pre i)) ∙ a.2, a.3)),
          λ a.
              let u = a.0 in
              elim (ℕ_discrete (suc i) u) [
                | yes e ↦ rw (ap (has k) e ∙ a.1)
                | no e ↦ rw (said.1 (u, a.1, sym (below_other t pre u (suc i) (omega arith) e) ∙ a.2, a.3), or-true)
              ],
        )

    met_said : (c : ℕ) → MetSaid c
    met_said =
        by_route t pre MetSaid (λ b. let none = below_after t pre v 0 b in absurd (omega arith))
        (λ i ih. elim (ℕ_discrete (suc i) v) [ yes e ↦ met_said_own i e | no e ↦ met_said_up i e ih ])

    -- a member between c and v lies below v, and so does c
    between_below : (c : ℕ) → CacheBetween t k c v → at_or_below t v c ≡ true
    between_below c a = below_trans t pre v a.0 c a.3 a.2

    -- ---- the load above a link

    module _ (d : Demand) where
      puts : ℕ → ℕ
      puts c = bears t d pre k c false (route t c) v

      puts_served : (c : ℕ) → CacheBetween t k c v → puts c ≡ served_load (d.flow c) (d.share c)
      unfolding puts bears sent met at_or_below
      puts_served c a = rw (between_below c a, (met_said c (between_below c a)).1 a) (relieved_is d c)

      puts_on : (c : ℕ) → PutsOn t d k c v (puts c)
      unfolding puts bears sent whole met at_or_below
      puts_on c =
          record {
            elsewhere = λ b. rw b;
            relieved_ratio = λ p e a. puts_served c a ∙ ap (served_load (d.flow c)) e;
            relieved_bytes = λ b e a. puts_served c a ∙ ap (served_load (d.flow c)) e;
            whole = λ b none. rw (b, by_test (λ m. met c ≡ m → m ≡ false) (met c) (λ _ h. absurd (none ((met_said c b).0 h))) (λ _ _. refl) refl);
          }

      pub load_said_lem : (f : ℕ → ℕ) × ((c : ℕ) → PutsOn t d k c v (f c)) × (link_load t d k v ≡ sum f (nodes t))
      unfolding puts
      load_said_lem = (puts, puts_on, link_load_is t d pre k v z)
