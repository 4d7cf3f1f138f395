-- Where not every choice is allowed at a node, the dynamic program finds the first, in the order of ties, of the allowed choices
-- of least cost. A set keeps to what is allowed at every site just where its choice does on the server's row.
use mathlib.Core.Path.{◌≡◌, refl}
use mathlib.Core.Bool.{Bool, true, cond}
use mathlib.Core.List.{List, []}
use mathlib.Core.Logic.{◌↔◌}
use Prim.Native.Nat.{ℕ, ◌-◌, ◌≤◌, ◌<◌}
use native.Mathlib.Omega.{arith}
use Rattle.laws.specs.Lists.{has}
use Rattle.laws.proofs.Bools.{by_test}
use Rattle.laws.proofs.Lists.{has_cases, has_none, has_head, has_tail}
use Rattle.model.specs.File.{Tree}
use Rattle.model.specs.Tree.{sites}
use Rattle.model.specs.Preorder.{Preorder}
use Rattle.best_rows.specs.Least.{first_least}
use Rattle.best_rows.specs.Rows.{Row, empty, node, Choice, Site, row_nodes, choice_of, row_count, row_cost, RanksNoLater}
use Rattle.best_rows.specs.Best.{cap, best, choose_within}
use Rattle.best_rows.specs.Guarded.{guarded, Allowed, KeepsTo}
use Rattle.best_rows.specs.TreeRows.{server_row}
use Rattle.best_rows.proofs.Best.{within_ranks}
use Rattle.best_rows.proofs.Cover.{server_row_whole}

module _ {C : Type 0} (allows : ℕ → Bool → Bool) (s : ℕ → Site C) where
  -- an allowed choice costs what it did
  guarded_same : (r : Row) (c : C) (x : Choice r) → Allowed allows r x → row_cost (guarded allows s) r c x ≡ row_cost s r c x
  unfolding row_cost
  guarded_same empty c x h = refl
  guarded_same (node v a b) c x h = rw (h.0, guarded_same a ((s v).down c x.0) x.1 h.1, guarded_same b c x.2 h.2)

  -- a choice that costs less than the cap is allowed
  guarded_allows : (r : Row) (c : C) (x : Choice r) → row_cost (guarded allows s) r c x < cap → Allowed allows r x
  unfolding row_cost
  guarded_allows empty c x h = tt
  guarded_allows (node v a b) c x h = (
    by_test (λ u. cond u ((s v).pay c x.0) cap < cap → u ≡ true) (allows v x.0) (λ _ _. refl) (λ _ l. absurd (omega arith)) (omega arith),
    guarded_allows a ((s v).down c x.0) x.1 (omega arith),
    guarded_allows b c x.2 (omega arith),
  )

  -- the choice found within a budget is allowed, costs the least found, and ranks no later than any other that is allowed
  pub guarded_ranks : (w : ℕ → Bool → ℕ) (p : Bool) (r : Row) (c : C) (b : ℕ) (y : Choice r)
      → Allowed allows r y → row_count w r y ≤ b → row_cost s r c y < cap
      → let f = best w p (guarded allows s) r c in
      let x = choose_within w p (guarded allows s) r c b in
      Allowed allows r x × (row_count w r x ≤ b) × (row_cost s r c x ≡ f (first_least f b)) × RanksNoLater w p s r c x y
  guarded_ranks w p r c b y allowed h k =
      let x = choose_within w p (guarded allows s) r c b in
      let same = guarded_same r c y allowed in
      let ranks = within_ranks w p (guarded allows s) r c b y h (omega arith) in
      let taken = guarded_allows r c x (omega arith) in
      (taken, ranks.0, rw (guarded_same r c x taken) at ranks.1, rw (guarded_same r c x taken, same) at ranks.2)

-- ---- sets that keep to what is allowed

module _ (allows : ℕ → Bool → Bool) (k : List ℕ) where
  -- where a set does at the nodes of a row and of a list behind them, so does its choice on the row
  set_keeps : (r : Row) (l : List ℕ) → KeepsTo allows k (row_nodes r l) → Allowed allows r (choice_of k r) × KeepsTo allows k l
  unfolding row_nodes choice_of
  set_keeps empty l h = (tt, h)
  set_keeps (node v a b) l h =
      let children = set_keeps a (row_nodes b l) (λ u i. h u (has_tail v u (row_nodes a (row_nodes b l)) i)) in
      let siblings = set_keeps b l children.1 in
      ((h v (has_head v (row_nodes a (row_nodes b l))), children.0, siblings.0), siblings.1)

  -- where its choice on a row does, and the set at the nodes of the list behind, so does the set at all of them
  choice_keeps : (r : Row) (l : List ℕ) → Allowed allows r (choice_of k r) → KeepsTo allows k l → KeepsTo allows k (row_nodes r l)
  unfolding row_nodes choice_of
  choice_keeps empty l x h = h
  choice_keeps (node v a b) l x h =
      let below = choice_keeps a (row_nodes b l) x.1 (choice_keeps b l x.2 h) in
      λ u. has_cases (allows u (has k u) ≡ true) v u (row_nodes a (row_nodes b l)) (λ e. rw e at x.0) (below u)

  -- so a set does at every site just where its choice does on the server's row
  pub sites_kept : (t : Tree) → Preorder t → KeepsTo allows k (sites t) ↔ Allowed allows (server_row t) (choice_of k (server_row t))
  sites_kept t pre =
      rw (← (server_row_whole t pre (t.count - 1)))
      (λ h. (set_keeps (server_row t) [] h).0, λ x. choice_keeps (server_row t) [] x (λ u i. absurd (has_none u i)))
