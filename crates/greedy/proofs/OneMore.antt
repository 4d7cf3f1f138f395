-- What one site more changes: the flow that reaches the nodes above it, and the serving nodes of those below it.
use mathlib.Core.Path.{◌≡◌, refl, sym, ap, subst, ◌∙◌}
use mathlib.Core.Bool.{true, false, cond, ◌&&◌, ◌||◌, not}
use mathlib.Core.List.{List}
use Prim.Native.Nat.{ℕ, zero, suc, ◌+◌, ◌≤◌, ◌<◌}
use native.Mathlib.Decide.{ℕ_discrete, dec_lt}
use native.Mathlib.Omega.{arith}
use lib.Dec.{eqb}
use borrow.Author.Tests.{eq-eqb, ne_eqb, eqb-true, not-true}
use Rattle.laws.specs.Lists.{has}
use Rattle.laws.proofs.Bools.{by_test, both, not_both, cond_same}
use Rattle.laws.proofs.Sums.{sum_add, sum_same, sum_where}
use Rattle.model.specs.File.{Tree, Demand}
use Rattle.model.specs.Tree.{nodes}
use Rattle.model.specs.Bill.{cachable}
use Rattle.model.specs.Greedy.{with_node}
use Rattle.model.specs.Preorder.{Preorder}
use Rattle.model.proofs.Routes.{parent_before, by_route}
use Rattle.model.proofs.WithNode.{has_with_node}
use Rattle.greedy.specs.Savings.{reaches, serving_distance, reach}
use Rattle.greedy.proofs.Reaches.{reach_counts, serving_distance_server, serving_distance_up, reaches_server, reaches_up, reaches_self, reaches_before}

module _ (t : Tree) (pre : Preorder t) (k : List ℕ) (x : ℕ) where
  -- the nodes before x are served as before
  pub served_before : (v : ℕ) → v < x → serving_distance t (with_node x k) v ≡ serving_distance t k v
  served_before =
      by_route t pre (λ v. v < x → serving_distance t (with_node x k) v ≡ serving_distance t k v)
      (λ _. serving_distance_server t pre (with_node x k) ∙ sym (serving_distance_server t pre k))
      (λ i ih h. rw (
        serving_distance_up t pre (with_node x k) i,
        serving_distance_up t pre k i,
        has_with_node x (suc i) k,
        ne_eqb x (suc i) (λ e. omega arith),
        ih (omega (arith, parent_before t pre i)),
      ))

  -- what reaches x is the same
  reaches_same : (c : ℕ) → reaches t (with_node x k) x c ≡ reaches t k x c
  reaches_same =
      by_route t pre (λ c. reaches t (with_node x k) x c ≡ reaches t k x c)
      (rw (reaches_server t pre (with_node x k) x, reaches_server t pre k x))
      (λ i ih. let up = reaches t k x (t.parent (suc i)) in
      rw (reaches_up t pre (with_node x k) x i, reaches_up t pre k x i, has_with_node x (suc i) k, ih)
      (by_test (λ b. (b || (not (b || has k (suc i)) && up)) ≡ (b || (not (has k (suc i)) && up))) (eqb x (suc i)) (λ _. refl) (λ _. refl)))

  -- ---- what reaches another node u

  module _ (u m : ℕ) (site : 1 ≤ x) (other : u ≡ x → ⊥) where
    -- the client at c, of weight m, reaches u as before, unless it does so over x
    abbrev Moves : ℕ → Type 0
    Moves c = cond (reaches t k u c) m 0 ≡ cond (reaches t (with_node x k) u c) m 0 + cond (reaches t k u x) (cond (reaches t k x c) m 0) 0

    moves_server : Moves 0
    moves_server =
        rw (reaches_server t pre k u, reaches_server t pre (with_node x k) u, reaches_before t pre k x 0 site, cond_same (reaches t k u x)) (omega arith)

    moves_here : (i : ℕ) → x ≡ suc i → Moves (suc i)
    moves_here i e =
        rw (reaches_up t pre (with_node x k) u i, has_with_node x (suc i) k, eq-eqb x (suc i) e, ne_eqb u (suc i) (λ q. other (q ∙ sym e)))
        (subst (λ c. cond (reaches t k u c) m 0 ≡ 0 + cond (reaches t k u x) (cond (reaches t k x c) m 0) 0) e (rw (reaches_self t pre k x) (omega arith)))

    -- no client before u reaches u over x
    none_over : (c : ℕ) → c < u → cond (reaches t k u x) (cond (reaches t k x c) m 0) 0 ≡ 0
    none_over c h =
        elim (dec_lt x u) [
          | yes l ↦ rw (reaches_before t pre k u x l)
          | no l ↦ rw (reaches_before t pre k x c (omega arith)) (cond_same (reaches t k u x) 0)
        ]

    moves_up : (i : ℕ) → (x ≡ suc i → ⊥) → Moves (t.parent (suc i)) → Moves (suc i)
    moves_up i apart ih =
        let p = t.parent (suc i) in
        rw (
          reaches_up t pre k u i,
          reaches_up t pre (with_node x k) u i,
          reaches_up t pre k x i,
          has_with_node x (suc i) k,
          ne_eqb x (suc i) apart,
        )
        (by_test
        (λ b. cond (eqb u (suc i) || (not b && reaches t k u p)) m 0
        ≡ cond (eqb u (suc i) || (not b && reaches t (with_node x k) u p)) m 0 + cond (reaches t k u x) (cond (not b && reaches t k x p) m 0) 0)
        (has k (suc i))
        (λ _. omega (arith, cond_same {A = ℕ} (reaches t k u x) 0))
        (λ _. by_test
        (λ b. cond (b || reaches t k u p) m 0 ≡ cond (b || reaches t (with_node x k) u p) m 0 + cond (reaches t k u x) (cond (reaches t k x p) m 0) 0)
        (eqb u (suc i))
        (λ e. omega (arith, none_over p (omega (arith, eqb-true u (suc i) e, parent_before t pre i))))
        (λ _. ih)))

    moves_all : (c : ℕ) → Moves c
    moves_all =
        by_route t pre Moves moves_server
        (λ i ih. elim (ℕ_discrete x (suc i)) [
          | yes e ↦ moves_here i e
          | no e ↦ moves_up i e ih
        ])

-- ---- the way up from a node

module _ (t : Tree) (pre : Preorder t) (k : List ℕ) where
  reaches_after : (v c : ℕ) → reaches t k v c ≡ true → v ≤ c
  reaches_after v c r =
      elim (dec_lt c v) [
        | yes l ↦ absurd (not_both r (reaches_before t pre k v c l))
        | no l ↦ omega arith
      ]

  -- a client that reaches v reaches a node before v where the client at v does
  reaches_over : (v u : ℕ) → u < v → (c : ℕ) → reaches t k v c ≡ true → reaches t k u c ≡ reaches t k u v
  reaches_over v u h =
      by_route t pre (λ c. reaches t k v c ≡ true → reaches t k u c ≡ reaches t k u v)
      (λ r. absurd (omega (arith, reaches_after v 0 r)))
      (λ i ih r. elim (ℕ_discrete v (suc i)) [
        | yes e ↦ ap (reaches t k u) (sym e)
        | no e ↦ let on = both (not (has k (suc i))) (reaches t k v (t.parent (suc i))) (rw (reaches_up t pre k v i, ne_eqb v (suc i) e) at r) in
            let far = reaches_after v (t.parent (suc i)) on.1 in
            rw (reaches_up t pre k u i, not-true (has k (suc i)) on.0, ne_eqb u (suc i) (λ q. omega (arith, parent_before t pre i))) (ih on.1)
      ])

  module _ (x u : ℕ) where
    -- a member lets nothing pass
    pub member_ends : (v : ℕ) → u < v → reaches t k v x ≡ true → has k v ≡ true → reaches t k u x ≡ false
    member_ends zero h r m = absurd (omega arith)
    member_ends (suc i) h r m = reaches_over (suc i) u h x r ∙ (rw (reaches_up t pre k u i, m, ne_eqb u (suc i) (λ e. omega arith)))

    -- what passes another node goes on to its parent
    pub parent_next : (v : ℕ) → u < v → reaches t k v x ≡ true → has k v ≡ false → reaches t k u x ≡ reaches t k u (t.parent v)
    parent_next zero h r m = absurd (omega arith)
    parent_next (suc i) h r m = reaches_over (suc i) u h x r ∙ (rw (reaches_up t pre k u i, m, ne_eqb u (suc i) (λ e. omega arith)))

-- ---- the flow

module _ (t : Tree) (d : Demand) (pre : Preorder t) (k : List ℕ) (x : ℕ) where
  pub reach_same : reach t d (with_node x k) x ≡ reach t d k x
  reach_same =
      rw (reach_counts t d (with_node x k) x, reach_counts t d k x)
      (sum_same _ _ (nodes t) (λ c _. ap (λ b. cond b (cachable d c) 0) (reaches_same t pre k x c)))

  -- another node loses what reaches x, where it came on from there
  pub reach_moves : (u : ℕ) → 1 ≤ x → (u ≡ x → ⊥)
      → reach t d k u ≡ reach t d (with_node x k) u + cond (reaches t k u x) (reach t d k x) 0
  reach_moves u site other =
      omega (
        arith,
        reach_counts t d k u,
        reach_counts t d (with_node x k) u,
        ap (λ y. cond (reaches t k u x) y 0) (reach_counts t d k x),
        sum_where (λ c. cond (reaches t k x c) (cachable d c) 0) (reaches t k u x) (nodes t),
        sum_add (λ c. cond (reaches t (with_node x k) u c) (cachable d c) 0)
            (λ c. cond (reaches t k u x) (cond (reaches t k x c) (cachable d c) 0) 0) (nodes t),
        sum_same (λ c. cond (reaches t k u c) (cachable d c) 0) _ (nodes t) (λ c _. moves_all t pre k x u (cachable d c) site other c),
      )
