-- The total of a set is what its choice costs on the server's row.
use mathlib.Core.Path.{◌≡◌, sym, ap}
use mathlib.Core.Bool.{cond}
use mathlib.Core.List.{List, []}
use Prim.Native.Nat.{ℕ, zero, suc, ◌+◌, ◌-◌, ◌≤◌}
use native.Mathlib.Omega.{arith}
use Rattle.laws.specs.Lists.{range, sum, has}
use Rattle.model.specs.File.{Tree, Demand}
use Rattle.model.specs.Bill.{cost, total, serving}
use Rattle.model.specs.Preorder.{Preorder}
use Rattle.model.proofs.Routes.{distance_server}
use Rattle.model.proofs.Amounts.{price_amounts}
use Rattle.model.proofs.Nearest.{serving_server, serving_up, cost_is}
use Rattle.best_rows.specs.Rows.{row_nodes, choice_of, row_cost}
use Rattle.best_rows.specs.TreeRows.{row_after, server_row}
use Rattle.best_rows.specs.BestAt.{site}
use Rattle.best_rows.proofs.TreeRows.{row_after_cases}
use Rattle.best_rows.proofs.Cover.{server_row_whole}

module _ (t : Tree) (d : Demand) (pre : Preorder t) (k : List ℕ) where
  -- a row costs what its nodes do
  row_cost_is_sum : (n i p : ℕ) (l : List ℕ)
      → row_cost (site t d) (row_after t n i p) (serving t k p) (choice_of k (row_after t n i p)) + sum (cost t d k) l
      ≡ sum (cost t d k) (row_nodes (row_after t n i p) l)
  unfolding row_cost choice_of row_nodes row_after sum
  row_cost_is_sum zero i p l = omega arith
  row_cost_is_sum (suc n) i p l =
      row_after_cases t (λ r. row_cost (site t d) r (serving t k p) (choice_of k r) + sum (cost t d k) l ≡ sum (cost t d k) (row_nodes r l)) n i p
      (λ e.
      let serves : cond (has k (suc i)) (suc i) (serving t k p) ≡ serving t k (suc i) = rw (← e) (sym (serving_up t pre k i)) in
      let children = row_cost_is_sum n (suc i) (suc i) (row_nodes (row_after t n (suc i) p) l) in
      rw serves (omega (arith, cost_is t pre k d (suc i), children, row_cost_is_sum n (suc i) p l)))
      (λ _. row_cost_is_sum n (suc i) p l)

  server_pays_none : t.link_length 0 ≡ 0 → cost t d k 0 ≡ 0
  server_pays_none z =
      rw (cost_is t pre k d 0, price_amounts d 0 t (serving t k 0), distance_server t z) (omega arith)

  pub total_is_row_cost : 1 ≤ t.count → t.link_length 0 ≡ 0 → total t d k ≡ row_cost (site t d) (server_row t) 0 (choice_of k (server_row t))
  unfolding total sum range
  total_is_row_cost some z =
      let n = t.count - 1 in
      let more : t.count ≡ suc n = omega arith in
      let all : sum (cost t d k) (range 0 t.count) ≡ cost t d k 0 + sum (cost t d k) (range 1 n) =
      ap (λ (m : ℕ). sum (cost t d k) (range 0 m)) more in
      let row = rw (serving_server t pre k) at (row_cost_is_sum n 0 0 []) in
      omega (arith, server_pays_none z, ap (sum (cost t d k)) (server_row_whole t pre n))
