-- Laws of the clients that reach a node, those that a cache there would serve, and of the distances of serving nodes.
use mathlib.Core.Path.{◌≡◌, refl, sym, ap, ◌∙◌}
use mathlib.Core.Bool.{true, false, cond, ◌&&◌, ◌||◌, not, and-false}
use mathlib.Core.List.{List}
use Prim.Native.Nat.{ℕ, zero, suc, ◌≤◌, ◌<◌}
use native.Mathlib.Omega.{arith}
use lib.Dec.{eqb}
use borrow.Author.Tests.{eq-eqb, ne_eqb, eqb-true}
use Rattle.laws.specs.Lists.{sum, has}
use Rattle.laws.proofs.Bools.{by_test}
use Rattle.laws.proofs.Sums.{sum_those}
use Rattle.model.specs.File.{Tree, Demand}
use Rattle.model.specs.Tree.{nodes, distance}
use Rattle.model.specs.Bill.{cachable, serving}
use Rattle.model.specs.Greedy.{with_node}
use Rattle.model.specs.Preorder.{Preorder}
use Rattle.model.proofs.Routes.{parent_before, by_route}
use Rattle.model.proofs.Nearest.{serving_server, serving_up, serving_near}
use Rattle.model.proofs.WithNode.{has_with_node}
use Rattle.greedy.specs.Savings.{reaches, serving_distance, reach}

-- what reaches a node, as a sum over all clients
pub reach_counts : (t : Tree) (d : Demand) (k : List ℕ) (x : ℕ)
    → reach t d k x ≡ sum (λ c. cond (reaches t k x c) (cachable d c) 0) (nodes t)
unfolding reach
reach_counts t d k x = sum_those (cachable d) (reaches t k x) (nodes t)

module _ (t : Tree) (pre : Preorder t) (k : List ℕ) where
  -- the server's own client is served there
  pub serving_distance_server : serving_distance t k 0 ≡ distance t 0
  unfolding serving_distance
  serving_distance_server = ap (distance t) (serving_server t pre k)

  -- a member's own distance, else the one at its parent
  pub serving_distance_up : (i : ℕ)
      → serving_distance t k (suc i) ≡ cond (has k (suc i)) (distance t (suc i)) (serving_distance t k (t.parent (suc i)))
  unfolding serving_distance
  serving_distance_up i =
      let s = serving t k (t.parent (suc i)) in
      rw (serving_up t pre k i)
      (by_test (λ b. distance t (cond b (suc i) s) ≡ cond b (distance t (suc i)) (distance t s)) (has k (suc i)) (λ _. refl) (λ _. refl))

  pub serving_distance_near : (v : ℕ) → serving_distance t k v ≤ distance t v
  unfolding serving_distance
  serving_distance_near = serving_near t pre k

  module _ (x : ℕ) where
    serving_with_up : (i : ℕ)
        → serving t (with_node x k) (suc i) ≡ cond (eqb x (suc i) || has k (suc i)) (suc i) (serving t (with_node x k) (t.parent (suc i)))
    serving_with_up i = rw (serving_up t pre (with_node x k) i, has_with_node x (suc i) k)

    pub reaches_server : reaches t k x 0 ≡ eqb x 0
    unfolding reaches
    reaches_server = rw (serving_server t pre (with_node x k))

    -- a client reaches its own node, and any other where its node is no member and its parent's client reaches that
    pub reaches_up : (i : ℕ) → reaches t k x (suc i) ≡ (eqb x (suc i) || (not (has k (suc i)) && reaches t k x (t.parent (suc i))))
    unfolding reaches
    reaches_up i =
        let s = serving t (with_node x k) (t.parent (suc i)) in
        rw (serving_with_up i)
        (by_test (λ a. eqb x (cond (a || has k (suc i)) (suc i) s) ≡ (a || (not (has k (suc i)) && eqb x s))) (eqb x (suc i)) (λ e. e)
        (λ e. by_test (λ b. eqb x (cond b (suc i) s) ≡ (not b && eqb x s)) (has k (suc i)) (λ _. e) (λ _. refl)))

    pub reaches_self : reaches t k x x ≡ true
    reaches_self = self x refl where
      self : (y : ℕ) → x ≡ y → reaches t k x y ≡ true
      self zero e = rw reaches_server (eq-eqb x 0 e)
      self (suc i) e = rw (reaches_up i, eq-eqb x (suc i) e)

    -- no client before a node reaches it
    pub reaches_before : (c : ℕ) → c < x → reaches t k x c ≡ false
    reaches_before =
        by_route t pre (λ c. c < x → reaches t k x c ≡ false)
        (λ h. rw reaches_server (ne_eqb x 0 (λ e. omega arith)))
        (λ i ih h. rw (reaches_up i, ne_eqb x (suc i) (λ e. omega arith), ih (omega (arith, parent_before t pre i)), and-false (not (has k (suc i)))))

    -- with a cache at x, those that reach x leave their serving node, which is that of x, and every other keeps its own
    pub serving_without : (c : ℕ) → serving t k c ≡ cond (reaches t k x c) (serving t k x) (serving t (with_node x k) c)
    serving_without =
        by_route t pre (λ c. serving t k c ≡ cond (reaches t k x c) (serving t k x) (serving t (with_node x k) c))
        (rw (serving_server t pre k, serving_server t pre (with_node x k), reaches_server)
        (by_test (λ b. 0 ≡ cond b (serving t k x) 0) (eqb x 0) (λ e. sym (serving_server t pre k) ∙ ap (serving t k) (sym (eqb-true x 0 e))) (λ _. refl)))
        (λ i ih. let s = serving t k (t.parent (suc i)) in
        let s' = serving t (with_node x k) (t.parent (suc i)) in
        rw (serving_up t pre k i, reaches_up i, serving_with_up i)
        (by_test
        (λ b. cond (has k (suc i)) (suc i) s
        ≡ cond (b || (not (has k (suc i)) && reaches t k x (t.parent (suc i)))) (serving t k x) (cond (b || has k (suc i)) (suc i) s'))
        (eqb x (suc i))
        (λ e. sym (serving_up t pre k i) ∙ ap (serving t k) (sym (eqb-true x (suc i) e)))
        (λ _. by_test (λ m. cond m (suc i) s ≡ cond (not m && reaches t k x (t.parent (suc i))) (serving t k x) (cond m (suc i) s')) (has k (suc i))
        (λ _. refl)
        (λ _. ih))))

    pub reaches_served : (c : ℕ) → reaches t k x c ≡ true → serving t (with_node x k) c ≡ x
    unfolding reaches
    reaches_served c h = sym (eqb-true x (serving t (with_node x k) c) h)
