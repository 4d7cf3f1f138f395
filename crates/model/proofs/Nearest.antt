-- Distances grow along a route, so the least price over the route is the price at the serving node.
use mathlib.Core.Path.{◌≡◌, refl, ap, ◌∙◌}
use mathlib.Core.Bool.{true, cond}
use mathlib.Core.List.{List, [], ◌∷◌}
use Prim.Native.Nat.{ℕ, suc, ◌≤◌}
use native.Mathlib.Nat.{mul-le-mul_left}
use native.Mathlib.Omega.{arith}
use Rattle.laws.specs.Lists.{least, has, those, first_that}
use Rattle.laws.proofs.Bools.{by_test, cond_same}
use Rattle.laws.proofs.Lists.{has_cases, has_none}
use Rattle.model.specs.File.{Tree, Demand}
use Rattle.model.specs.Tree.{route, distance}
use Rattle.model.specs.Bill.{cachable, price, cost, serving}
use Rattle.model.specs.Preorder.{Preorder}
use Rattle.model.proofs.Routes.{route_server, route_up, by_route, distance_up}
use Rattle.model.proofs.Amounts.{price_amounts}

-- distances grow along a route
pub distance_grows : (t : Tree) → Preorder t → (u v : ℕ) → has (route t v) u ≡ true → distance t u ≤ distance t v
distance_grows t pre u =
    by_route t pre (λ v. has (route t v) u ≡ true → distance t u ≤ distance t v)
    (rw (route_server t) (has_cases _ 0 u [] (λ e. rw e (omega arith)) (λ m. absurd (has_none u m))))
    (λ i ih. rw (route_up t pre i) (has_cases _ (suc i) u (route t (t.parent (suc i)))
    (λ e. rw e (omega arith))
    (λ m. omega (arith, ih m, distance_up t pre i))))

module _ (t : Tree) (pre : Preorder t) (k : List ℕ) where
  pub serving_server : serving t k 0 ≡ 0
  unfolding serving first_that
  serving_server = rw (route_server t) (cond_same (has k 0) 0)

  -- a node serves itself if it is a member, else its parent's serving node does
  pub serving_up : (i : ℕ) → serving t k (suc i) ≡ cond (has k (suc i)) (suc i) (serving t k (t.parent (suc i)))
  unfolding serving first_that
  serving_up i = ap (first_that (has k) 0) (route_up t pre i)

  -- the serving node is no farther from the server than the node
  pub serving_near : (v : ℕ) → distance t (serving t k v) ≤ distance t v
  serving_near =
      by_route t pre (λ v. distance t (serving t k v) ≤ distance t v)
      (rw serving_server (omega arith))
      (λ i h. rw (serving_up i)
      (by_test (λ b. distance t (cond b (suc i) (serving t k (t.parent (suc i)))) ≤ distance t (suc i)) (has k (suc i))
      (λ _. omega arith)
      (λ _. omega (arith, distance_up t pre i))))

  module _ (d : Demand) (c : ℕ) where
    -- a nearer node to the client costs it no more
    pub price_falls : (v w : ℕ) → distance t w ≤ distance t v → price t d c v ≤ price t d c w
    price_falls v w h = omega (arith, price_amounts d c t v, price_amounts d c t w, mul-le-mul_left (cachable d c) h)

    -- one link up: v is met first, or the rest of the route decides
    least_up : (v w : ℕ) (l : List ℕ) → distance t w ≤ distance t v → least (price t d c) 0 (those (has k) l) ≡ price t d c w
        → least (price t d c) 0 (those (has k) (v ∷ l)) ≡ price t d c (cond (has k v) v w)
    unfolding least those
    least_up v w l h e =
        by_test (λ b. least (price t d c) 0 (cond b (v ∷ those (has k) l) (those (has k) l)) ≡ price t d c (cond b v w)) (has k v)
        (λ _. omega (arith, price_falls v w h))
        (λ _. e)

    least_on_route : (v : ℕ) → least (price t d c) 0 (those (has k) (route t v)) ≡ price t d c (serving t k v)
    unfolding least those
    least_on_route =
        by_route t pre (λ v. least (price t d c) 0 (those (has k) (route t v)) ≡ price t d c (serving t k v))
        (rw (route_server t, serving_server) (least_up 0 0 [] (omega arith) refl ∙ ap (price t d c) (cond_same (has k 0) 0)))
        (λ i h. let p = t.parent (suc i) in
        rw (route_up t pre i, serving_up i) (least_up (suc i) (serving t k p) (route t p) (omega (arith, serving_near p, distance_up t pre i)) h))

    -- the client at c pays the price at its serving node
    pub cost_is : cost t d k c ≡ price t d c (serving t k c)
    unfolding cost
    cost_is = least_on_route c
