-- What reaches a node is its own cachable flow and what reaches its children, where no site is taken: one pass down finds it.
use mathlib.Core.Path.{◌≡◌, refl, sym, ap, subst, ◌∙◌}
use mathlib.Core.Bool.{true, false, cond, ◌||◌}
use mathlib.Core.List.{List, [], ◌∷◌}
use Prim.Native.Nat.{ℕ, zero, suc, ◌+◌, ◌*◌, ◌-◌, ◌≤◌, ◌<◌}
use native.Mathlib.Decide.{ℕ_discrete}
use native.Mathlib.Omega.{arith}
use lib.Dec.{eqb}
use borrow.Author.Tests.{eq-eqb, ne_eqb, eqb-true}
use Rattle.laws.specs.Lists.{range, sum, has, those}
use Rattle.laws.proofs.Bools.{by_test, cond_same}
use Rattle.laws.proofs.Lists.{range_bounds}
use Rattle.laws.proofs.Sums.{sum_add, sum_none, sum_swap, sum_same, sum_zero, sum_where, sum_those, sum_le, sum_point}
use Rattle.model.specs.File.{Tree, Demand, most_flow}
use Rattle.model.specs.Tree.{nodes, sites}
use Rattle.model.specs.Bill.{thousandths, cachable}
use Rattle.model.specs.Preorder.{Preorder}
use Rattle.model.specs.Accepted.{Sound}
use Rattle.model.proofs.Routes.{parent_before, by_route}
use Rattle.model.proofs.Bounds.{whole_within}
use Rattle.greedy.specs.Savings.{most_reach, reaches, reach, gathered}
use Rattle.greedy.proofs.Reaches.{reach_counts, reaches_server, reaches_up, reaches_self, reaches_before}

-- ---- a client that reaches a node is the node's own, or it reaches one of the node's children

module _ (t : Tree) where
  -- m where the client at c reaches u, else 0
  abbrev share : ℕ → ℕ → ℕ → ℕ
  share m c u = cond (reaches t [] u c) m 0

  -- the same only where u is a child of x
  abbrev share_over : ℕ → ℕ → ℕ → ℕ → ℕ
  share_over x m c u = cond (eqb x (t.parent u)) (share m c u) 0

module _ (t : Tree) (pre : Preorder t) (x : ℕ) where
  child_after : (u : ℕ) → 1 ≤ u → eqb x (t.parent u) ≡ true → x < u
  child_after zero a h = absurd (omega arith)
  child_after (suc i) a h = omega (arith, eqb-true x (t.parent (suc i)) h, parent_before t pre i)

  -- a client reaches its own node, and any other that its parent's client reaches
  climbs : (i : ℕ) → reaches t [] x (suc i) ≡ (eqb x (suc i) || reaches t [] x (t.parent (suc i)))
  unfolding has
  climbs i = reaches_up t pre [] x i

module _ (t : Tree) (pre : Preorder t) (x m n : ℕ) where
  none_over : (c : ℕ) → ((u : ℕ) → 1 ≤ u → eqb x (t.parent u) ≡ true → reaches t [] u c ≡ false) → sum (share_over t x m c) (range 1 n) ≡ 0
  none_over c h =
      sum_zero (share_over t x m c) (range 1 n)
      (λ u i. by_test (λ b. cond b (share t m c u) 0 ≡ 0) (eqb x (t.parent u)) (λ e. rw (h u (range_bounds 1 n u i).0 e)) (λ _. refl))

  -- what reaches x is x's own, or it comes over one child of x
  abbrev Splits : ℕ → Type 0
  Splits c = share t m c x ≡ cond (eqb x c) m 0 + sum (share_over t x m c) (range 1 n)

  splits_server : Splits 0
  splits_server = rw (reaches_server t pre [] x) (omega (arith, none_over 0 (λ u a _. reaches_before t pre [] u 0 a)))

  splits_here : Splits x
  splits_here =
      rw (reaches_self t pre [] x, eq-eqb x x refl) (omega (arith, none_over x (λ u a h. reaches_before t pre [] u x (child_after t pre x u a h))))

  splits_up : (i : ℕ) → suc i ≤ n → eqb x (suc i) ≡ false → Splits (t.parent (suc i)) → Splits (suc i)
  splits_up i l e ih =
      let p = t.parent (suc i) in
      let off = reaches_before t pre [] (suc i) p (omega (arith, parent_before t pre i)) in
      let point = sum_point (share_over t x m (suc i)) (share_over t x m p) (suc i) (cond (eqb x p) m 0) 1 n
      (rw (reaches_self t pre [] (suc i), off, cond_same (eqb x p)) (omega arith))
      (λ u q. rw (climbs t pre u i, ne_eqb u (suc i) q))
      (omega arith) (omega arith) in
      rw (climbs t pre x i, e) (omega (arith, point))

  splits_all : (c : ℕ) → c ≤ n → Splits c
  splits_all =
      by_route t pre (λ c. c ≤ n → Splits c) (λ _. splits_server)
      (λ i ih l. elim (ℕ_discrete x (suc i)) [
        | yes e ↦ subst Splits e splits_here
        | no e ↦ splits_up i l (ne_eqb x (suc i) e) (ih (omega (arith, parent_before t pre i)))
      ])

-- ---- what the pass down gathers

module _ (t : Tree) (d : Demand) (pre : Preorder t) where
  -- a node's own cachable flow, as a sum over all clients
  own_counts : (x : ℕ) → x < t.count → sum (λ c. cond (eqb x c) (cachable d c) 0) (nodes t) ≡ cachable d x
  own_counts x h =
      omega (
        arith,
        sum_none (nodes t),
        sum_point (λ c. cond (eqb x c) (cachable d c) 0) (λ _. 0) x (cachable d x) 0 t.count
            (rw (eq-eqb x x refl) (omega arith)) (λ v q. rw (ne_eqb x v (λ e. q (sym e)))) (omega arith) (omega arith),
      )

  children_count : (x : ℕ) → sum (λ c. sum (share_over t x (cachable d c) c) (sites t)) (nodes t) ≡ sum (reach t d []) (those (λ u. eqb x (t.parent u)) (sites t))
  children_count x =
      sum_swap (λ c u. share_over t x (cachable d c) c u) (nodes t) (sites t)
      ∙ sum_same _ (λ u. cond (eqb x (t.parent u)) (reach t d [] u) 0) (sites t)
      (λ u _. sum_where (λ c. share t (cachable d c) c u) (eqb x (t.parent u)) (nodes t) ∙ ap (λ y. cond (eqb x (t.parent u)) y 0) (sym (reach_counts t d [] u)))
      ∙ sym (sum_those (reach t d []) (λ u. eqb x (t.parent u)) (sites t))

  -- what reaches a node is its own cachable flow and what reaches its children
  reach_children : (x : ℕ) → x < t.count → reach t d [] x ≡ cachable d x + sum (reach t d []) (those (λ u. eqb x (t.parent u)) (sites t))
  reach_children x h =
      let n = t.count - 1 in
      omega (
        arith,
        reach_counts t d [] x,
        own_counts x h,
        children_count x,
        sum_add (λ c. cond (eqb x c) (cachable d c) 0) (λ c. sum (share_over t x (cachable d c) c) (sites t)) (nodes t),
        sum_same _ (λ c. cond (eqb x c) (cachable d c) 0 + sum (share_over t x (cachable d c) c) (sites t)) (nodes t)
            (λ c i. splits_all t pre x (cachable d c) n c (let b = range_bounds 0 t.count c i in omega arith)),
      )

  -- before the first node is passed
  pub gathered_none : (p : ℕ) → gathered t d t.count p ≡ cachable d p
  unfolding gathered range those sum
  gathered_none p = let e : t.count - t.count ≡ 0 = omega arith in rw e (omega arith)

  gathered_turn : (v p : ℕ) → v < t.count → gathered t d v p ≡ gathered t d (suc v) p + cond (eqb p (t.parent v)) (reach t d [] v) 0
  unfolding gathered range those sum
  gathered_turn v p h =
      let e : t.count - v ≡ suc (t.count - suc v) = omega arith in
      let rest = those (λ u. eqb p (t.parent u)) (range (suc v) (t.count - suc v)) in
      rw e
      (by_test (λ b. cachable d p + sum (reach t d []) (cond b (v ∷ rest) rest) ≡ cachable d p + sum (reach t d []) rest + cond b (reach t d [] v) 0)
      (eqb p (t.parent v)) (λ _. omega arith) (λ _. omega arith))

  -- a node is passed: its parent has what reaches it besides
  pub gathered_parent : (v : ℕ) → v < t.count → gathered t d v (t.parent v) ≡ gathered t d (suc v) (t.parent v) + reach t d [] v
  gathered_parent v h = rw (gathered_turn v (t.parent v) h, eq-eqb (t.parent v) (t.parent v) refl)

  -- nothing changes at another node
  pub gathered_other : (v q : ℕ) → v < t.count → (q ≡ t.parent v → ⊥) → gathered t d v q ≡ gathered t d (suc v) q
  gathered_other v q h n = rw (gathered_turn v q h, ne_eqb q (t.parent v) n) (omega arith)

  -- once every later node is passed, a node has what reaches it
  pub gathered_all : (x i : ℕ) → x < t.count → i ≤ x → gathered t d (suc i) x ≡ reach t d [] x
  unfolding gathered
  gathered_all x zero h l = sym (reach_children x h)
  gathered_all x (suc i) h l =
      sym (gathered_other (suc i) x (omega arith) (λ e. omega (arith, parent_before t pre i))) ∙ gathered_all x i h (omega arith)

  -- and before that no more
  gathered_within_reach : (x i : ℕ) → x < t.count → suc i ≤ t.count → gathered t d (suc i) x ≤ reach t d [] x
  gathered_within_reach x zero h l = omega (arith, gathered_all x 0 h (omega arith))
  gathered_within_reach x (suc i) h l = omega (arith, gathered_turn (suc i) x l, gathered_within_reach x i h (omega arith))

-- ---- bounds

module _ (t : Tree) (d : Demand) (ok : Sound t d) where
  pub reach_bound : (k : List ℕ) (x : ℕ) → reach t d k x ≤ most_reach
  reach_bound k x =
      let most = most_flow * thousandths in
      let each : (c : ℕ) → cond (reaches t k x c) (cachable d c) 0 ≤ most = λ c. by_test (λ b. cond b (cachable d c) 0 ≤ most) (reaches t k x c)
      (λ _. omega (arith, ok.part c, whole_within t d ok c)) (λ _. omega arith) in
      omega (arith, reach_counts t d k x, sum_le (λ c. cond (reaches t k x c) (cachable d c) 0) most 0 t.count each, ok.few)

  pub gathered_bound : (x i : ℕ) → x < t.count → suc i ≤ t.count → gathered t d (suc i) x ≤ most_reach
  gathered_bound x i h l = omega (arith, gathered_within_reach t d ok.preorder x i h l, reach_bound [] x)
