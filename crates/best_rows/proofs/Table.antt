-- Laws for a table of the least by node numbers, and for the walk that reads the caches from it.
use mathlib.Core.Path.{◌≡◌, ap, ◌∙◌}
use mathlib.Core.Bool.{Bool, true, false, cond}
use mathlib.Core.List.{◌++◌}
use Prim.Native.Nat.{ℕ, suc, ◌+◌, ◌-◌, ◌≤◌, ◌<◌}
use native.Mathlib.Decide.{dec_lt}
use native.Mathlib.Omega.{arith}
use lib.ListN.{length}
use Rattle.model.specs.File.{Tree, Demand}
use Rattle.best_rows.specs.Rows.{Row, empty, node, Choice, if_member, chosen, row_size, row_count}
use Rattle.best_rows.specs.Best.{cap, node_best, split, row_best, best, choose}
use Rattle.best_rows.specs.Guarded.{guarded}
use Rattle.best_rows.specs.TreeRows.{first_child, next_sibling, row_at}
use Rattle.best_rows.specs.BestAt.{one, prefer, site, best_at, best_nodes, pay_at, children_at, siblings_at, takes_node, node_best_at, later_at}
use Rattle.best_rows.proofs.Least.{first_least_within}
use Rattle.best_rows.proofs.Best.{cost_if_fits, best_within_cap, best_attained}
use Rattle.best_rows.proofs.TreeRows.{row_at_none, row_at_node}
use Rattle.best_rows.proofs.Chosen.{length_chosen}

-- ---- how many nodes a row has, and that it has no more caches

one_within : (v : ℕ) (u : Bool) → one v u ≤ 1
one_within v true = omega arith
one_within v false = omega arith

pub count_within_size : (r : Row) (x : Choice r) → row_count one r x ≤ row_size r
unfolding row_count row_size
count_within_size empty x = omega arith
count_within_size (node v a b) x = omega (arith, one_within v x.0, count_within_size a x.1, count_within_size b x.2)

module _ (t : Tree) where
  pub row_size_none : row_size (row_at t 0) ≡ 0
  unfolding row_size
  row_size_none = rw (row_at_none t)

  pub row_size_node : (v : ℕ) → 0 < v → v < t.count
      → row_size (row_at t v) ≡ 1 + row_size (row_at t (first_child t v)) + row_size (row_at t (next_sibling t v))
  unfolding row_size
  row_size_node v some fits = ap row_size (row_at_node t v some fits)

module _ (t : Tree) (d : Demand) (allows : ℕ → Bool → Bool) where
  -- ---- any row

  pub best_at_within_cap : (v c m : ℕ) → best_at t d allows v c m ≤ cap
  unfolding best_at
  best_at_within_cap v c m = best_within_cap one prefer (guarded allows (site t d)) (row_at t v) c m

  pub length_best_nodes : (v c m : ℕ) → best_at t d allows v c m < cap → length (best_nodes t d allows v c m) ≡ m
  unfolding best_at best_nodes
  length_best_nodes v c m h =
      length_chosen (row_at t v) (choose one prefer (guarded allows (site t d)) (row_at t v) c m) ∙ (best_attained one prefer (guarded allows (site t d)) (row_at t v) c m h).0

  -- more caches than nodes cannot be had
  pub best_at_over : (v c m : ℕ) → row_size (row_at t v) < m → best_at t d allows v c m ≡ cap
  unfolding best_at
  best_at_over v c m h =
      elim (dec_lt (best_at t d allows v c m) cap) [
        | yes l ↦
            let x = choose one prefer (guarded allows (site t d)) (row_at t v) c m in
            absurd (omega (arith, (best_attained one prefer (guarded allows (site t d)) (row_at t v) c m l).0, count_within_size (row_at t v) x))
        | no l ↦ omega (arith, best_at_within_cap v c m)
      ]

  -- the empty row has none
  pub best_at_none_over : (c m : ℕ) → best_at t d allows 0 c (suc m) ≡ cap
  unfolding best_at best
  best_at_none_over c m = rw (row_at_none t)

  -- ---- node v and the row of its children, with n caches

  -- below the cap, the least is attained with v's own choice
  pub node_best_attained : (v c n : ℕ) → node_best_at t d allows v c n < cap
      → let u = takes_node t d allows v c n in
      (one v u ≤ n) × (node_best_at t d allows v c n ≡ pay_at t d allows v c u + children_at t d allows v c u (n - one v u))
  unfolding node_best_at takes_node node_best
  node_best_attained v c n h = cost_if_fits (one v) (pay_at t d allows v c) (children_at t d allows v c) n (takes_node t d allows v c n) h

  -- more caches than v and the nodes below it cannot be had
  pub node_best_over : (v c n : ℕ) → 1 + row_size (row_at t (first_child t v)) < n → cap ≤ node_best_at t d allows v c n
  node_best_over v c n h =
      elim (dec_lt (node_best_at t d allows v c n) cap) [
        | yes l ↦
            let u = takes_node t d allows v c n in
            let over = best_at_over (first_child t v) (cond u v c) (n - one v u) (omega (arith, one_within v u)) in
            absurd (omega (arith, (node_best_attained v c n l).1))
        | no l ↦ omega arith
      ]

  -- ---- the row that begins with v, with m caches

  module _ (v : ℕ) (some : 0 < v) (fits : v < t.count) (c m : ℕ) where
    -- the least by that of v with its children and that of its later siblings
    pub best_at_node : best_at t d allows v c m ≡ row_best (node_best_at t d allows v c) (siblings_at t d allows v c) m
    unfolding best_at best node_best_at
    best_at_node = ap (λ r. best one prefer (guarded allows (site t d)) r c m) (row_at_node t v some fits)

    pub best_nodes_node :
        let r = later_at t d allows v c m in
        let u = takes_node t d allows v c (m - r) in
        best_nodes t d allows v c m
        ≡ if_member u v ++ best_nodes t d allows (first_child t v) (cond u v c) (m - r - one v u) ++ best_nodes t d allows (next_sibling t v) c r
    unfolding best_nodes chosen choose best_at takes_node node_best_at later_at
    best_nodes_node = ap (λ r. chosen r (choose one prefer (guarded allows (site t d)) r c m)) (row_at_node t v some fits)

    -- below the cap, the least is attained by that split
    pub later_at_attains : best_at t d allows v c m < cap
        → let r = later_at t d allows v c m in
        (r ≤ m) × (split (node_best_at t d allows v c) (siblings_at t d allows v c) m r ≡ best_at t d allows v c m)
    unfolding row_best later_at
    later_at_attains h = omega (arith, first_least_within (split (node_best_at t d allows v c) (siblings_at t d allows v c) m) m, best_at_node)
