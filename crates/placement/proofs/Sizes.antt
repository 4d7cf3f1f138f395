-- Every load and sum of a walk is far below 2^64.
use mathlib.Core.Path.{◌≡◌}
use Prim.Native.Nat.{ℕ, zero, suc, ◌-◌, ◌≤◌}
use mathlib.Core.Bool.{cond}
use mathlib.Core.List.{List}
use native.Mathlib.Omega.{arith}
use Rattle.laws.specs.Lists.{range, sum, any_of, has, those}
use Rattle.laws.proofs.Bools.{by_test}
use Rattle.laws.proofs.Sums.{sum_le}
use Rattle.laws.proofs.Ranges.{sum_those_le}
use Rattle.model.specs.File.{Tree, Demand}
use Rattle.model.specs.Tree.{route, at_or_below}
use Rattle.model.specs.Bill.{whole, up_to, client_load, link_load}
use Rattle.model.specs.Accepted.{Sound}
use Rattle.model.specs.Children.{relieved, child_of}
use Rattle.model.proofs.Amounts.{load_amounts}
use Rattle.model.proofs.Bounds.{whole_within}
use Rattle.placement.specs.Walks.{most_sent, most_load, most_of_row, RangeWalked, NodeWalked}

module _ (t : Tree) (d : Demand) (ok : Sound t d) where
  relieved_bound : (c : ℕ) → relieved d c ≤ most_sent
  relieved_bound c = omega (arith, whole_within t d ok c)

  client_load_bound : (k : List ℕ) (v c : ℕ) → client_load t d k v c ≤ most_sent
  client_load_bound k v c =
      rw (load_amounts d c t k v)
      (by_test (λ b. cond b (relieved d c) (whole d c) ≤ most_sent) (any_of (has k) (up_to v (route t c))) (λ _. relieved_bound c) (λ _. whole_within t d ok c))

  link_load_bound : (k : List ℕ) (v : ℕ) → link_load t d k v ≤ most_load
  unfolding link_load
  link_load_bound k zero = omega arith
  link_load_bound k (suc v) =
      omega (arith, ok.few, sum_those_le (client_load t d k (suc v)) (at_or_below t (suc v)) most_sent 0 t.count (client_load_bound k (suc v)))

  pub relief_bound : {k loads loads' : List ℕ} {i e relief : ℕ} → e ≤ t.count → RangeWalked t d k loads i e relief loads' → relief ≤ most_load
  relief_bound {i = i} {e = e} h w = omega (arith, ok.few, w.relieves, sum_le (relieved d) most_sent i (e - i) relieved_bound)

  pub node_load_bound : {k loads loads' : List ℕ} {v e load relief : ℕ} → NodeWalked t d k loads v e load relief loads' → load ≤ most_load
  node_load_bound {k} {v = v} w = omega (arith, w.load_above, link_load_bound k v)

  pub row_load_bound : (k : List ℕ) (v i e : ℕ) {load : ℕ} → e ≤ t.count
      → load ≡ sum (link_load t d k) (those (child_of t v) (range i (e - i))) → load ≤ most_of_row
  row_load_bound k v i e h is = omega (arith, ok.few, sum_those_le (link_load t d k) (child_of t v) most_load i (e - i) (link_load_bound k))
