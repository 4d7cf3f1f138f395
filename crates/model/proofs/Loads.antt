-- Over the links above nodes 1 to n − 1, loads times lengths add up to the total.
use mathlib.Core.Path.{◌≡◌, refl, ap, sym, ◌∙◌}
use mathlib.Core.Bool.{Bool, true, false, cond, ◌||◌, or-false, or_assoc}
use mathlib.Core.List.{List, ◌∷◌}
use Prim.Native.Nat.{ℕ, zero, suc, ◌+◌, ◌*◌, ◌-◌, ◌≤◌}
use native.Mathlib.Omega.{arith}
use borrow.Author.Tests.{eq-eqb, ne_eqb}
use Rattle.laws.specs.Lists.{range, sum, has, any_of}
use Rattle.laws.proofs.Bools.{by_test}
use Rattle.laws.proofs.Lists.{has_head, has_other, range_bounds}
use Rattle.laws.proofs.Sums.{sum_mul, sum_none, sum_swap, sum_same, sum_those, sum_point}
use Rattle.model.specs.File.{Tree, Demand}
use Rattle.model.specs.Tree.{nodes, sites, route, at_or_below, distance}
use Rattle.model.specs.Bill.{whole, cachable, up_to, cost, total, client_load, link_load, link_total, serving}
use Rattle.model.specs.Preorder.{Preorder}
use Rattle.model.specs.Children.{relieved}
use Rattle.model.proofs.Routes.{route_server, parent_before, route_up, by_route, distance_server, distance_up, route_before}
use Rattle.model.proofs.Amounts.{price_amounts, load_amounts}
use Rattle.model.proofs.Nearest.{serving_server, serving_up, cost_is}

module _ (t : Tree) (d : Demand) (pre : Preorder t) (k : List ℕ) (c : ℕ) where
  -- what the client at c sends over a link before a cache, and after one has served it
  unfoldable pub sent : Bool → ℕ
  sent served = cond served (relieved d c) (whole d c)

  -- what it puts on the link above v along the rest l of its route, where a cache was met before or not
  unfoldable pub bears : Bool → List ℕ → ℕ → ℕ
  bears met l v = cond (has l v) (sent (met || any_of (has k) (up_to v l))) 0

  -- over the links above nodes 1 to m
  carried : ℕ → Bool → List ℕ → ℕ
  carried m met l = sum (λ v. bears met l v * t.link_length v) (range 1 m)

  pub bears_up : (met : Bool) (u v : ℕ) (l : List ℕ) → (v ≡ u → ⊥) → bears met (u ∷ l) v ≡ bears (met || has k u) l v
  unfolding bears up_to any_of
  bears_up met u v l n = rw (has_other u v l (λ e. n (sym e)), ne_eqb u v (λ e. n (sym e)), or_assoc)

  pub bears_here : (met : Bool) (u : ℕ) (l : List ℕ) → has l u ≡ false → bears met (u ∷ l) u ≡ sent (met || has k u) + bears (met || has k u) l u
  unfolding bears up_to any_of
  bears_here met u l h = rw (has_head u l, eq-eqb u u refl, or-false (has k u), h) (omega arith)

  -- one link further up
  carried_up : (m : ℕ) (met : Bool) (i : ℕ) → suc i ≤ m
      → let r = route t (t.parent (suc i)) in
      carried m met (suc i ∷ r) ≡ sent (met || has k (suc i)) * t.link_length (suc i) + carried m (met || has k (suc i)) r
  unfolding carried
  carried_up m met i h =
      let r = route t (t.parent (suc i)) in
      let met' = met || has k (suc i) in
      let off = route_before t pre (suc i) (t.parent (suc i)) (omega (arith, parent_before t pre i)) in
      sum_point (λ v. bears met (suc i ∷ r) v * t.link_length v) (λ v. bears met' r v * t.link_length v) (suc i) (sent met' * t.link_length (suc i)) 1 m
      (omega (arith, ap (λ x. x * t.link_length (suc i)) (bears_here met (suc i) r off)))
      (λ v n. ap (λ x. x * t.link_length v) (bears_up met (suc i) v r n))
      (omega arith)
      (omega arith)

  carried_server : (m : ℕ) (met : Bool) → carried m met (route t 0) ≡ 0
  unfolding carried bears has
  carried_server m met =
      rw (route_server t)
      (sum_same _ (λ _. 0) (range 1 m) (λ v h. let b = range_bounds 1 m v h in rw (ne_eqb 0 v (λ e. omega arith)) (omega arith)) ∙ sum_none (range 1 m))

  -- a cache saves the cachable part
  sent_saved : cachable d c ≤ whole d c → sent true + cachable d c ≡ sent false
  unfolding sent
  sent_saved h = omega arith

  -- over the links from v up the client sends less on each once a cache was met, and else from its serving node on
  abbrev Carried : ℕ → ℕ → Type 0
  Carried m v =
      (carried m true (route t v) ≡ sent true * distance t v)
      × (carried m false (route t v) + cachable d c * distance t (serving t k v) ≡ sent false * distance t v)

  module _ (z : t.link_length 0 ≡ 0) (h : cachable d c ≤ whole d c) where
    carried_step : (m i : ℕ) → suc i ≤ m → Carried m (t.parent (suc i)) → Carried m (suc i)
    carried_step m i l ih =
        let p = t.parent (suc i) in
        let x = t.link_length (suc i) in
        let less = ap (λ s. s * x) (sent_saved h) in
        let less' = ap (λ s. s * distance t p) (sent_saved h) in
        rw (route_up t pre i, distance_up t pre i, carried_up m true i l, carried_up m false i l, serving_up t pre k i)
        (by_test
        (λ u.
        (sent true * x + carried m true (route t p) ≡ sent true * (x + distance t p))
        × (sent u * x + carried m u (route t p) + cachable d c * distance t (cond u (suc i) (serving t k p)) ≡ sent false * (x + distance t p)))
        (has k (suc i))
        (λ _. rw (distance_up t pre i) (omega (arith, ih.0, less, less')))
        (λ _. omega (arith, ih.0, ih.1)))

    carried_all : (m v : ℕ) → v ≤ m → Carried m v
    carried_all m =
        by_route t pre (λ v. v ≤ m → Carried m v)
        (λ _. rw (serving_server t pre k, distance_server t z) (omega (arith, carried_server m true, carried_server m false)))
        (λ i ih l. carried_step m i l (ih (omega (arith, parent_before t pre i))))

    -- what the client carries over all links is its cost
    carried_is : (m : ℕ) → c ≤ m → carried m false (route t c) ≡ cost t d k c
    unfolding sent
    carried_is m l = rw (cost_is t pre k d c) (omega (arith, (carried_all m c l).1, price_amounts d c t (serving t k c)))

module _ (t : Tree) (d : Demand) (pre : Preorder t) (k : List ℕ) where
  pub link_load_is : (v : ℕ) → 1 ≤ v → link_load t d k v ≡ sum (λ c. bears t d pre k c false (route t c) v) (nodes t)
  unfolding link_load at_or_below bears sent
  link_load_is zero h = absurd (omega arith)
  link_load_is (suc v) h =
      sum_those (client_load t d k (suc v)) (at_or_below t (suc v)) (nodes t)
      ∙ sum_same _ _ (nodes t) (λ c _. ap (λ x. cond (at_or_below t (suc v) c) x 0) (load_amounts d c t k (suc v)))

  pub links_total_lem : t.link_length 0 ≡ 0 → ((c : ℕ) → cachable d c ≤ whole d c) → link_total t d k ≡ total t d k
  unfolding link_total total carried
  links_total_lem z h =
      let m = t.count - 1 in
      sum_same (λ v. link_load t d k v * t.link_length v) (λ v. sum (λ c. bears t d pre k c false (route t c) v * t.link_length v) (nodes t)) (sites t)
      (λ v i. rw (link_load_is v (range_bounds 1 m v i).0) (sum_mul (λ c. bears t d pre k c false (route t c) v) (t.link_length v) (nodes t)))
      ∙ sum_swap (λ v c. bears t d pre k c false (route t c) v * t.link_length v) (sites t) (nodes t)
      ∙ sum_same _ (cost t d k) (nodes t) (λ c i. carried_is t d pre k c z (h c) m (let b = range_bounds 0 t.count c i in omega arith))
