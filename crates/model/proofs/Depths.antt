-- Depths in a tree: at most the node's number; in preorder one more than the parent's, and none above the height.
use mathlib.Core.Path.{◌≡◌, ap}
use Prim.Native.Nat.{ℕ, zero, suc, ◌≤◌, ◌<◌}
use native.Mathlib.Omega.{arith}
use lib.ListN.{length}
use Rattle.laws.proofs.Lists.{in_range, greatest_over}
use Rattle.model.specs.File.{Tree}
use Rattle.model.specs.Tree.{climb, nodes, route, depth, height}
use Rattle.model.specs.Preorder.{Preorder}
use Rattle.model.proofs.Routes.{route_server, route_up}

module _ (t : Tree) where
  climb_some : (k v : ℕ) → 1 ≤ length (climb t.parent k v)
  unfolding climb
  climb_some zero v = omega arith
  climb_some (suc k) zero = omega arith
  climb_some (suc k) (suc v) = omega arith

  -- a route has a node more than its depth
  pub route_length : (v : ℕ) → length (route t v) ≡ suc (depth t v)
  unfolding depth route
  route_length v = omega (arith, climb_some v v)

  climb_few : (k v : ℕ) → length (climb t.parent k v) ≤ suc k
  unfolding climb
  climb_few zero v = omega arith
  climb_few (suc k) zero = omega arith
  climb_few (suc k) (suc v) = omega (arith, climb_few k (t.parent (suc v)))

  -- a node's depth is at most its number
  pub depth_within_number : (v : ℕ) → depth t v ≤ v
  unfolding depth route
  depth_within_number v = omega (arith, climb_few v v)

  pub depth_server : depth t 0 ≡ 0
  unfolding depth
  depth_server = rw (route_server t)

  pub depth_up : Preorder t → (i : ℕ) → depth t (suc i) ≡ suc (depth t (t.parent (suc i)))
  depth_up pre i =
      let up = ap length (route_up t pre i) in
      omega (arith, up, route_length (suc i), route_length (t.parent (suc i)))

  -- no node is deeper than the height
  pub depth_within_height : (v : ℕ) → v < t.count → depth t v ≤ height t
  unfolding height
  depth_within_height v h = greatest_over (depth t) v (nodes t) (in_range 0 t.count v (omega arith) (omega arith))
