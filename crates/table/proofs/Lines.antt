-- Laws of what the lines hold: the empty row's, those of children and later siblings, and the one that they join to.
use mathlib.Core.Path.{◌≡◌, sym, ap, ◌∙◌}
use mathlib.Core.Bool.{Bool, true, false, cond}
use mathlib.Core.List.{List, [], ◌∷◌, ◌++◌, map}
use Prim.Native.Nat.{ℕ, ◌+◌, ◌-◌, ◌≤◌, ◌<◌}
use native.Mathlib.Nat.{le_refl, add-sub_cancel_left}
use native.Mathlib.Omega.{arith}
use lib.ListN.{length, take, drop}
use lib.Seq.{sets}
use Rattle.laws.specs.Lists.{range}
use Rattle.laws.proofs.Bools.{by_test, cond_both}
use Rattle.laws.proofs.Lists.{length_of_range}
use Rattle.laws.proofs.Stores.{sets_part}
use Rattle.laws.proofs.FrontValues.{same_on_range}
use Rattle.model.specs.File.{Tree, Demand}
use Rattle.model.specs.Bill.{price}
use Rattle.model.specs.Accepted.{Sound}
use Rattle.best_rows.specs.Rows.{row_size}
use Rattle.best_rows.specs.Best.{cap}
use Rattle.best_rows.specs.Guarded.{guarded, may_be, Wish, grants, may_be_under}
use Rattle.best_rows.specs.TreeRows.{first_child, next_sibling, row_at}
use Rattle.best_rows.specs.BestAt.{one, prefer, site, best_at, pay_at, children_at, siblings_at, node_best_at}
use Rattle.best_rows.proofs.TreeRows.{row_at_none}
use Rattle.best_rows.proofs.Table.{row_size_none, row_size_node, best_at_within_cap, best_at_over, best_at_node}
use Rattle.node_words.specs.Ancestors.{ancestor_at}
use Rattle.places.specs.Places.{width_at}
use Rattle.lines.specs.Line.{LineParts, line_best, empty_best, HoldsBest, LinesHoldBest}
use Rattle.lines.proofs.HeldBest.{holds_of_rule, held_parts, held_line, empty_is_best}
use Rattle.table.specs.Table.{line_for, as_cache, Served}
use Rattle.table.proofs.Prices.{price_within_cap}
use Rattle.table.proofs.Places.{width_some}

-- what the code works out at v is what v pays: as none always its price, as a cache where it may be one
module _ (t : Tree) (d : Demand) (v u : ℕ) {x : ℕ} where
  pub pays_itself_lem : x ≡ as_cache t d v → x ≡ pay_at t d (may_be t) v u true
  unfolding may_be
  pays_itself_lem e = e

  pub pays_above : x ≡ price t d v u → x ≡ pay_at t d (may_be t) v u false
  unfolding may_be
  pays_above e = e

  -- and under a wish, where it is the cap if the wish does not let it
  module _ (w : Wish) {y : ℕ} where
    pub wished_itself : x ≡ as_cache t d v → y ≡ cond (grants w v true) x cap → y ≡ pay_at t d (may_be_under t w) v u true
    wished_itself e f = f ∙ rw (pays_itself_lem e) (sym (cond_both (grants w v true) (may_be t v true) (price t d v v) cap))

    pub wished_above : x ≡ price t d v u → y ≡ cond (grants w v false) x cap → y ≡ pay_at t d (may_be_under t w) v u false
    wished_above e f = f ∙ rw (pays_above e) (sym (cond_both (grants w v false) (may_be t v false) (price t d v u) cap))

-- ---- how many entries a line has

module _ (t : Tree) (k : ℕ) where
  pub width_within : (x : ℕ) → width_at t k x ≤ k + 1
  unfolding width_at
  width_within x = omega arith

  module _ (v : ℕ) (site : 0 < v) (node : v < t.count) where
    -- the later siblings' no more than the row's
    pub siblings_narrower : width_at t k (next_sibling t v) ≤ width_at t k v
    unfolding width_at
    siblings_narrower = omega (arith, row_size_node t v site node)

    -- the row's one more than that of one part, where the other is empty
    pub last_width : next_sibling t v ≡ 0 → width_at t k v ≤ width_at t k (first_child t v) + 1
    unfolding width_at
    last_width none = let empty : row_size (row_at t (next_sibling t v)) ≡ 0 = rw none (row_size_none t) in omega (arith, row_size_node t v site node)

    pub leaf_width : first_child t v ≡ 0 → width_at t k v ≤ width_at t k (next_sibling t v) + 1
    unfolding width_at
    leaf_width none = let empty : row_size (row_at t (first_child t v)) ≡ 0 = rw none (row_size_none t) in omega (arith, row_size_node t v site node)

module _ (t : Tree) (d : Demand) (allows : ℕ → Bool → Bool) where
  -- the least of the empty row
  pub best_at_empty : (c m : ℕ) → best_at t d allows 0 c m ≡ empty_best m
  unfolding best_at
  best_at_empty c m = rw (row_at_none t) (sym (empty_is_best one prefer (guarded allows (site t d)) c m))

  -- what a node pays is never above the cap
  pay_within_cap : Sound t d → (v u : ℕ) (b : Bool) → pay_at t d allows v u b ≤ cap
  pay_within_cap ok v u b =
      let paid = price_within_cap t d ok v (cond b v u) in
      by_test (λ a. cond a (price t d v (cond b v u)) cap ≤ cap) (allows v b) (λ _. paid) (λ _. le_refl cap)

  module _ (k : ℕ) where
    pub length_line_for : (x a : ℕ) → length (line_for t d allows k x a) ≡ width_at t k x
    unfolding line_for
    length_line_for x a = length_of_range _ 0 (width_at t k x)

    -- ---- what the line of a row holds

    -- the empty row's, word 0 alone
    pub empty_holds : (u : ℕ) {l : List ℕ} → l ≡ 0 ∷ [] → HoldsBest (k + 1) (best_at t d allows 0 u) l
    unfolding range empty_best
    empty_holds u e =
        holds_of_rule (best_at t d allows 0 u) (k + 1) 1 (e ∙ ap (λ (x : ℕ). x ∷ []) (sym (best_at_empty u 0))) (omega arith) (omega arith)
        (λ m h l. best_at_over t d allows 0 u m (omega (arith, row_size_none t)))

    -- a row's with u as the serving node
    pub line_holds : (x a u : ℕ) {l : List ℕ} → ancestor_at t x a ≡ u → l ≡ line_for t d allows k x a → HoldsBest (k + 1) (best_at t d allows x u) l
    unfolding line_for width_at
    line_holds x a u e f =
        holds_of_rule (best_at t d allows x u) (k + 1) (width_at t k x) (f ∙ rw e) (width_some t k x) (width_within t k x)
        (λ m h l. best_at_over t d allows x u m (omega arith))

    -- ---- the line of node v from those of its children, with v as a cache and without, and of its later siblings

    line_joined : (v a u : ℕ) (cached uncached rest : List ℕ) → 0 < v → v < t.count → u ≡ ancestor_at t v a
        → LinesHoldBest (k + 1) (children_at t d allows v u) (siblings_at t d allows v u) cached uncached rest
        → map (line_best cached uncached rest (pay_at t d allows v u true) (pay_at t d allows v u false)) (range 0 (width_at t k v)) ≡ line_for t d allows k v a
    unfolding line_for node_best_at
    line_joined v a u cached uncached rest h fits e held =
        held_line (k + 1) (pay_at t d allows v u) (children_at t d allows v u) (siblings_at t d allows v u) cached uncached rest held (width_at t k v) (width_within t k v)
        ∙ same_on_range _ _ 0 (width_at t k v) (λ m _ _. sym (best_at_node t d allows v h fits u m) ∙ ap (λ c. best_at t d allows v c m) e)

    -- the same, of what the code made
    pub line_read : {v a u n member other : ℕ} {cached uncached rest : List ℕ} (l : List ℕ) → Served t v a u
        → LinesHoldBest (k + 1) (children_at t d allows v u) (siblings_at t d allows v u) cached uncached rest
        → n ≡ width_at t k v → member ≡ pay_at t d allows v u true → other ≡ pay_at t d allows v u false
        → l ≡ map (line_best cached uncached rest member other) (range 0 n) → l ≡ line_for t d allows k v a
    line_read {v} {a} {u} {cached = cached} {uncached = uncached} {rest = rest} l at held e m o h =
        (rw (e, m, o) at h) ∙ line_joined v a u cached uncached rest at.site at.node at.ancestor held

    -- and where it was lent to be made, it was stored
    pub line_put : (v a at n : ℕ) {l : List ℕ} (s : List ℕ) → at + n ≤ length s → n ≡ width_at t k v → l ≡ line_for t d allows k v a
        → take at s ++ (l ++ drop (at + n - at) (drop at s)) ≡ sets s at (line_for t d allows k v a)
    line_put v a at n s h e is =
        rw (is, add-sub_cancel_left at n) (sets_part s at (line_for t d allows k v a) n (omega (arith, length_line_for v a)) h)

    -- what the code makes it from
    pub parts_read : {v a u member other : ℕ} {cached uncached rest : List ℕ} → Sound t d → Served t v a u
        → LinesHoldBest (k + 1) (children_at t d allows v u) (siblings_at t d allows v u) cached uncached rest
        → member ≡ pay_at t d allows v u true → other ≡ pay_at t d allows v u false → LineParts cached uncached rest member other
    parts_read {v} {a} {u} {cached = cached} {uncached = uncached} {rest = rest} ok at held m o =
        rw (m, o)
        (held_parts (k + 1) (pay_at t d allows v u) (children_at t d allows v u) (siblings_at t d allows v u) cached uncached rest held
        (pay_within_cap ok v u) (λ b. best_at_within_cap t d allows (first_child t v) (cond b v u)) (best_at_within_cap t d allows (next_sibling t v) u))
