-- The caches of a row, node by node: what each part of it can have, and that the parts together are the row's.
use mathlib.Core.Path.{◌≡◌, refl, ◌∙◌}
use mathlib.Core.Bool.{Bool, true, false, cond}
use mathlib.Core.List.{List, [], ◌++◌}
use Prim.Native.Nat.{ℕ, zero, suc, ◌+◌, ◌-◌, ◌≤◌, ◌<◌}
use native.Mathlib.Omega.{arith}
use lib.ListN.{length, length-append}
use lib.Seq.{sets}
use Rattle.laws.proofs.Lists.{none_of_length}
use Rattle.laws.proofs.Stores.{sets_append}
use Rattle.model.specs.File.{Tree, Demand}
use Rattle.best_rows.specs.Rows.{if_member}
use Rattle.best_rows.specs.Best.{cap, split}
use Rattle.best_rows.specs.TreeRows.{first_child, next_sibling}
use Rattle.best_rows.specs.BestAt.{one, best_at, best_nodes, takes_node, node_best_at, later_at}
use Rattle.best_rows.proofs.Table.{length_best_nodes, best_at_none_over, node_best_attained, best_nodes_node, later_at_attains}
use Rattle.optimum.specs.Walk.{nodes_from}

module _ (t : Tree) (d : Demand) (allows : ℕ → Bool → Bool) where
  -- a row that has a cache has a node
  pub row_has_node : (x c m : ℕ) → 0 < m → best_at t d allows x c m < cap → 0 < x
  row_has_node zero c zero h k = absurd (omega arith)
  row_has_node zero c (suc m) h k = absurd (omega (arith, best_at_none_over t d allows c m))
  row_has_node (suc x) c m h k = omega arith

  -- no caches are no nodes
  pub row_without : (x c : ℕ) → best_at t d allows x c 0 < cap → best_nodes t d allows x c 0 ≡ []
  row_without x c h = none_of_length (best_nodes t d allows x c 0) (length_best_nodes t d allows x c 0 h)

  module _ (x c : ℕ) where
    module _ (n : ℕ) (h : node_best_at t d allows x c n < cap) where
      abbrev member : Bool
      member = takes_node t d allows x c n

      -- with its own choice the children's row can have the caches left
      pub children_attained : (one x member ≤ n) × (best_at t d allows (first_child t x) (cond member x c) (n - one x member) < cap)
      children_attained = let a = node_best_attained t d allows x c n h in (a.0, omega (arith, a.1))

      length_nodes_from : length (nodes_from t d allows x c n) ≡ n
      unfolding nodes_from
      length_nodes_from =
          let a = children_attained in
          length-append (if_member member x) _ ∙ omega (arith, length_member member, length_best_nodes t d allows _ _ _ a.1, a.0)
        where
          length_member : (u : Bool) → length (if_member u x) ≡ one x u
          length_member true = refl
          length_member false = refl

    pub node_without : node_best_at t d allows x c 0 < cap → nodes_from t d allows x c 0 ≡ []
    node_without h = none_of_length (nodes_from t d allows x c 0) (length_nodes_from 0 h)

    module _ (m : ℕ) (some : 0 < x) (fits : x < t.count) (h : best_at t d allows x c m < cap) where
      abbrev later : ℕ
      later = later_at t d allows x c m

      -- no more than all are among the later siblings
      pub later_within : later ≤ m
      later_within = (later_at_attains t d allows x some fits c m h).0

      -- the first node and the later siblings can have theirs
      pub row_attained : (node_best_at t d allows x c (m - later) < cap) × (best_at t d allows (next_sibling t x) c later < cap)
      unfolding split
      row_attained = let a = (later_at_attains t d allows x some fits c m h).1 in (omega arith, omega arith)

      -- the row's caches are the first node's, then the later siblings'
      row_nodes_lem : best_nodes t d allows x c m ≡ nodes_from t d allows x c (m - later) ++ best_nodes t d allows (next_sibling t x) c later
      unfolding nodes_from
      row_nodes_lem = best_nodes_node t d allows x some fits c m

      pub row_stores : (l : List ℕ) (at : ℕ)
          → sets l at (best_nodes t d allows x c m)
          ≡ sets (sets l at (nodes_from t d allows x c (m - later))) (at + (m - later)) (best_nodes t d allows (next_sibling t x) c later)
      row_stores l at =
          rw (
            row_nodes_lem,
            sets_append l at (nodes_from t d allows x c (m - later)) (best_nodes t d allows (next_sibling t x) c later),
            length_nodes_from (m - later) row_attained.0,
          )
