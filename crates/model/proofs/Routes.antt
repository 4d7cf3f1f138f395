-- Routes in a tree that stands in preorder: a node's route is the node and its parent's route.
use mathlib.Core.Path.{◌≡◌, refl, ap}
use mathlib.Core.Bool.{true, false}
use mathlib.Core.List.{[], ◌∷◌}
use Prim.Native.Nat.{ℕ, zero, suc, ◌+◌, ◌≤◌, ◌<◌}
use native.Mathlib.Omega.{arith}
use Rattle.laws.specs.Lists.{has, sum}
use Rattle.laws.proofs.Bools.{by_test}
use Rattle.laws.proofs.Lists.{has_cases, has_none, has_head, has_tail}
use Rattle.model.specs.File.{Tree}
use Rattle.model.specs.Tree.{climb, route, distance}
use Rattle.model.specs.Preorder.{PreorderTo, Preorder}

module _ (t : Tree) where
  pub route_server : route t 0 ≡ 0 ∷ []
  unfolding route climb
  route_server = refl

  pub distance_server : t.link_length 0 ≡ 0 → distance t 0 ≡ 0
  unfolding distance sum
  distance_server z = rw (route_server, z)

  climb_ends : (k v : ℕ) → has (climb t.parent k v) 0 ≡ true
  unfolding climb
  climb_ends zero v = has_head 0 []
  climb_ends (suc k) zero = has_head 0 []
  climb_ends (suc k) (suc v) = has_tail (suc v) 0 (climb t.parent k (t.parent (suc v))) (climb_ends k (t.parent (suc v)))

  -- the server is on every route
  pub route_ends : (v : ℕ) → has (route t v) 0 ≡ true
  unfolding route
  route_ends v = climb_ends v v

  -- ---- where the nodes below n stand in preorder

  -- the nodes on a route are not after its first
  climb_le : (k v u : ℕ) → ((x : ℕ) → x < v → t.parent (suc x) ≤ x) → has (climb t.parent k v) u ≡ true → u ≤ v
  unfolding climb
  climb_le zero v u f = has_cases (u ≤ v) 0 u [] (λ e. omega arith) (λ e. absurd (has_none u e))
  climb_le (suc k) zero u f = has_cases (u ≤ 0) 0 u [] (λ e. omega arith) (λ e. absurd (has_none u e))
  climb_le (suc k) (suc v) u f =
      let p = f v (omega arith) in
      has_cases (u ≤ suc v) (suc v) u (climb t.parent k (t.parent (suc v))) (λ e. omega arith)
      (λ e. omega (arith, climb_le k (t.parent (suc v)) u (λ x h. f x (omega arith)) e))

  -- a parent stands before its node
  pub parent_before_to : (n : ℕ) → PreorderTo t n → (i : ℕ) → suc i < n → t.parent (suc i) ≤ i
  unfolding route
  parent_before_to zero pre i h = absurd (omega arith)
  parent_before_to (suc n) pre i h =
      climb_le i i (t.parent (suc i)) (λ x l. parent_before_to n (λ j k. pre j (omega arith)) x (omega arith)) (pre i h)

  module _ (n : ℕ) (pre : PreorderTo t n) where
    -- more links than needed change nothing
    climb_same : (k j v : ℕ) → v < n → v ≤ k → v ≤ j → climb t.parent k v ≡ climb t.parent j v
    unfolding climb
    climb_same zero zero v l h h' = refl
    climb_same zero (suc j) zero l h h' = refl
    climb_same zero (suc j) (suc v) l h h' = absurd (omega arith)
    climb_same (suc k) zero zero l h h' = refl
    climb_same (suc k) zero (suc v) l h h' = absurd (omega arith)
    climb_same (suc k) (suc j) zero l h h' = refl
    climb_same (suc k) (suc j) (suc v) l h h' =
        let p = parent_before_to n pre v l in
        ap (λ r. suc v ∷ r) (climb_same k j (t.parent (suc v)) (omega arith) (omega arith) (omega arith))

    pub route_up_to : (i : ℕ) → suc i < n → route t (suc i) ≡ suc i ∷ route t (t.parent (suc i))
    unfolding route climb
    route_up_to i h =
        let p = parent_before_to n pre i h in
        ap (λ r. suc i ∷ r) (climb_same i (t.parent (suc i)) (t.parent (suc i)) (omega arith) p (omega arith))

  -- ---- where all do

  module _ (pre : Preorder t) where
    pub parent_before : (i : ℕ) → t.parent (suc i) ≤ i
    parent_before i = parent_before_to (suc (suc i)) (λ j _. pre j) i (omega arith)

    pub route_up : (i : ℕ) → route t (suc i) ≡ suc i ∷ route t (t.parent (suc i))
    route_up i = route_up_to (suc (suc i)) (λ j _. pre j) i (omega arith)

    up_from : (P : ℕ → Type 0) → P 0 → ((i : ℕ) → P (t.parent (suc i)) → P (suc i)) → (k v : ℕ) → v ≤ k → P v
    up_from P z s zero zero h = z
    up_from P z s zero (suc v) h = absurd (omega arith)
    up_from P z s (suc k) zero h = z
    up_from P z s (suc k) (suc v) h = s v (up_from P z s k (t.parent (suc v)) (omega (arith, parent_before v)))

    -- what holds of the server, and of a node if of its parent, holds of every node
    pub by_route : (P : ℕ → Type 0) → P 0 → ((i : ℕ) → P (t.parent (suc i)) → P (suc i)) → (v : ℕ) → P v
    by_route P z s v = up_from P z s v v (omega arith)

    pub distance_up : (i : ℕ) → distance t (suc i) ≡ t.link_length (suc i) + distance t (t.parent (suc i))
    unfolding distance sum
    distance_up i = ap (sum t.link_length) (route_up i)

    -- a later node is on no route of an earlier one
    pub route_before : (u v : ℕ) → v < u → has (route t v) u ≡ false
    unfolding route
    route_before u v h =
        by_test (λ b. b ≡ false) (has (route t v) u) (λ e. absurd (omega (arith, climb_le v v u (λ x _. parent_before x) e))) (λ _. refl)
