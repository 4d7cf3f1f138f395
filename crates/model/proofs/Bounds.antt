-- Within the sizes of a tree file the height is at most 32, every distance at most 32,000 and every total below 2^62.
use Prim.Native.Nat.{ℕ, suc, ◌+◌, ◌*◌, ◌≤◌, ◌<◌}
use mathlib.Core.List.{List}
use native.Mathlib.Nat.{mul-le-mul}
use native.Mathlib.Omega.{arith}
use lib.ListN.{length}
use Rattle.laws.specs.Lists.{sum}
use Rattle.laws.proofs.Lists.{greatest_within}
use Rattle.laws.proofs.Sums.{sum_le}
use Rattle.model.specs.File.{Tree, Demand, most_depth, most_length, most_flow}
use Rattle.model.specs.Tree.{nodes, route, depth, height, distance}
use Rattle.model.specs.Bill.{thousandths, total_limit, whole, price, cost, total, serving}
use Rattle.model.specs.Accepted.{Sound}
use Rattle.model.proofs.Routes.{route_server, route_up, by_route}
use Rattle.model.proofs.Amounts.{whole_bound, price_amounts}
use Rattle.model.proofs.Nearest.{cost_is}

module _ (t : Tree) (d : Demand) (ok : Sound t d) where
  -- a route has a node more than its depth, and the server's length is 0
  distance_by_route : (v : ℕ) → distance t v + most_length ≤ most_length * length (route t v)
  unfolding distance sum
  distance_by_route =
      by_route t ok.preorder (λ v. sum t.link_length (route t v) + most_length ≤ most_length * length (route t v))
      (rw (route_server t) (omega (arith, ok.server)))
      (λ i h. rw (route_up t ok.preorder i) (omega (arith, ok.short (suc i))))

  pub distance_bound : (v : ℕ) → distance t v ≤ most_length * most_depth
  unfolding depth
  distance_bound v = omega (arith, distance_by_route v, ok.shallow v)

  pub height_bound : height t ≤ most_depth
  unfolding height
  height_bound = greatest_within (depth t) most_depth (nodes t) ok.shallow

  abbrev most_cost : ℕ
  most_cost = most_flow * thousandths * (most_length * most_depth)

  pub whole_within : (c : ℕ) → whole d c ≤ most_flow * thousandths
  whole_within c = whole_bound d c (ok.flow c)

  -- a client's whole flow over its distance
  pub way_bound : (c : ℕ) → whole d c * distance t c ≤ most_cost
  way_bound c = mul-le-mul (whole_within c) (distance_bound c)

  pub price_bound : (c v : ℕ) → price t d c v ≤ most_cost
  price_bound c v = omega (arith, price_amounts d c t v, way_bound c)

  cost_bound : (k : List ℕ) (c : ℕ) → cost t d k c ≤ most_cost
  cost_bound k c = rw (cost_is t ok.preorder k d c) (price_bound c (serving t k c))

  pub total_bound : (k : List ℕ) → total t d k < total_limit
  unfolding total
  total_bound k = omega (arith, ok.few, sum_le (cost t d k) most_cost 0 t.count (cost_bound k))
