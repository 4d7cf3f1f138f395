-- The caches that the dynamic program finds on the server's row rank first of all allowed sets within the budget, at the least
-- cost found.
use mathlib.Core.Path.{◌≡◌, sym, ap, ◌∙◌}
use mathlib.Core.Bool.{Bool, true}
use mathlib.Core.List.{List, []}
use mathlib.Core.Logic.{⊎_elim}
use Prim.Native.Nat.{ℕ, ◌-◌, ◌≤◌, ◌<◌}
use native.Mathlib.Omega.{arith}
use Rattle.model.specs.File.{Tree, Demand}
use Rattle.model.specs.Rules.{ascends}
use Rattle.model.specs.Bill.{total}
use Rattle.model.specs.Ties.{ties_before, ranks_before}
use Rattle.model.specs.Accepted.{Sound}
use Rattle.model.proofs.Ascending.{ascends_range}
use Rattle.model.proofs.Bounds.{total_bound}
use Rattle.model.proofs.Order.{smaller_said, rank_total_lem}
use Rattle.best_rows.specs.Least.{first_least}
use Rattle.best_rows.specs.Rows.{Choice, row_nodes, choice_of, chosen, row_count, row_cost, RanksNoLater}
use Rattle.best_rows.specs.Best.{cap, best, choose_within}
use Rattle.best_rows.specs.Guarded.{guarded, Allowed, AllowedSet, RanksFirstAllowed}
use Rattle.best_rows.specs.TreeRows.{server_row}
use Rattle.best_rows.specs.BestAt.{one, prefer, site}
use Rattle.best_rows.proofs.Guarded.{guarded_ranks, sites_kept}
use Rattle.best_rows.proofs.Cover.{server_row_whole}
use Rattle.best_rows.proofs.Below.{length_is_row_count}
use Rattle.best_rows.proofs.Totals.{total_is_row_cost}
use Rattle.best_rows.proofs.Ties.{not_preceded}
use Rattle.best_rows.proofs.Chosen.{length_chosen, chosen_ascends, choice_of_chosen}

module _ (t : Tree) (d : Demand) (allows : ℕ → Bool → Bool) (b : ℕ) where
  -- the choice found on the server's row, and its members
  abbrev choice_found : Choice (server_row t)
  choice_found = choose_within one prefer (guarded allows (site t d)) (server_row t) 0 b

  abbrev nodes_found : List ℕ
  nodes_found = chosen (server_row t) choice_found

  -- the least found there
  abbrev least_found : ℕ
  least_found = let f = best one prefer (guarded allows (site t d)) (server_row t) 0 in f (first_least f b)

module _ (t : Tree) (d : Demand) (ok : Sound t d) where
  total_is_lem : (k : List ℕ) → total t d k ≡ row_cost (site t d) (server_row t) 0 (choice_of k (server_row t))
  total_is_lem k = total_is_row_cost t d ok.preorder k ok.some ok.server

  -- no set costs the cap
  below_cap : (k : List ℕ) → row_cost (site t d) (server_row t) 0 (choice_of k (server_row t)) < cap
  unfolding cap
  below_cap k = omega (arith, total_is_lem k, total_bound t d ok k)

  -- of two sets, the one whose choice ranks no later is not outranked
  not_outranked : (k l : List ℕ) → ascends 0 t.count k ≡ true → ascends 0 t.count l ≡ true
      → RanksNoLater one prefer (site t d) (server_row t) 0 (choice_of k (server_row t)) (choice_of l (server_row t))
      → ranks_before t d l k ≡ true → ⊥
  unfolding ranks_before ties_before
  not_outranked k l g h r before =
      let pre = ok.preorder in
      let total_k = total_is_lem k in
      let total_l = total_is_lem l in
      let length_k = length_is_row_count t pre k g in
      let length_l = length_is_row_count t pre l h in
      ⊎_elim (λ less. omega arith)
      (λ same.
      let counts = r.1 (omega arith) in
      ⊎_elim (λ fewer. omega arith) (λ alike. not_preceded t pre k l g h (counts.1 (omega arith)) alike.1) (smaller_said.0 same.1))
      (smaller_said.0 before)

  nodes_ascend : ascends 0 t.count (row_nodes (server_row t) []) ≡ true
  nodes_ascend = rw (server_row_whole t ok.preorder (t.count - 1)) (ascends_range t.count 0 (t.count - 1) (omega arith))

  module _ (allows : ℕ → Bool → Bool) (b : ℕ) where
    choice_found_is : choice_of (nodes_found t d allows b) (server_row t) ≡ choice_found t d allows b
    choice_found_is = choice_of_chosen t.count (server_row t) (choice_found t d allows b) 0 nodes_ascend

    -- how the choice found compares with each allowed set
    choice_found_ranks : (l : List ℕ) → AllowedSet t allows b l
        → Allowed allows (server_row t) (choice_found t d allows b)
        × (row_count one (server_row t) (choice_found t d allows b) ≤ b)
        × (row_cost (site t d) (server_row t) 0 (choice_found t d allows b) ≡ least_found t d allows b)
        × RanksNoLater one prefer (site t d) (server_row t) 0 (choice_found t d allows b) (choice_of l (server_row t))
    choice_found_ranks l a =
        guarded_ranks allows (site t d) one prefer (server_row t) 0 b (choice_of l (server_row t)) ((sites_kept allows l t ok.preorder).0 a.allowed)
        (omega (arith, a.within, length_is_row_count t ok.preorder l a.ascending)) (below_cap l)

    -- where there is such a set
    module _ (k : List ℕ) (some : AllowedSet t allows b k) where
      pub nodes_found_total : total t d (nodes_found t d allows b) ≡ least_found t d allows b
      nodes_found_total =
          total_is_lem (nodes_found t d allows b) ∙ ap (row_cost (site t d) (server_row t) 0) choice_found_is ∙ (choice_found_ranks k some).2

      pub nodes_found_rank_first : RanksFirstAllowed t d allows b (nodes_found t d allows b)
      nodes_found_rank_first =
          let found = nodes_found t d allows b in
          let ascending = chosen_ascends t.count (server_row t) (choice_found t d allows b) 0 nodes_ascend in
          let ranks = choice_found_ranks k some in
          record {
            fits = record {
              ascending = ascending;
              within = omega (arith, length_chosen (server_row t) (choice_found t d allows b), ranks.1);
              allowed = (sites_kept allows found t ok.preorder).1 (rw choice_found_is ranks.0);
            };
            first = λ l a other.
                ⊎_elim (λ p. p) (λ q. absurd (not_outranked found l ascending a.ascending (rw choice_found_is (choice_found_ranks l a).3) q))
                (rank_total_lem t d found l ascending a.ascending (λ e. other (sym e)));
          }
