-- The dynamic program is right, whatever the rules: no choice of that count costs less, a least below the cap is attained, and
-- of the choices that attain it the one found is the first in the order of ties.
use mathlib.Core.Path.{◌≡◌, refl}
use mathlib.Core.Bool.{Bool, true, false}
use Prim.Native.Nat.{ℕ, zero, suc, ◌+◌, ◌-◌, ◌≤◌, ◌<◌}
use native.Mathlib.Decide.{dec_lt}
use native.Mathlib.Omega.{arith}
use borrow.Author.Tests.{lt-ltb, le-ltb}
use Rattle.best_rows.specs.Least.{first_least}
use Rattle.best_rows.specs.Rows.{Row, empty, node, Choice, Site, row_count, row_cost, favour, Before, RanksNoLater}
use Rattle.best_rows.specs.Best.{cap, cost_if, own_choice, node_best, split, later, row_best, costs_of, best, choose, choose_within}
use Rattle.best_rows.proofs.Least.{better_cases, first_least_within, first_least_wins}

-- ---- one node's own choice

module _ (w pay : Bool → ℕ) (children : Bool → ℕ → ℕ) (n : ℕ) (u : Bool) where
  pub cost_if_is : w u ≤ n → cost_if w pay children n u ≡ pay u + children u (n - w u)
  unfolding cost_if
  cost_if_is h = rw (le-ltb n (w u))

  pub cost_if_over : n < w u → cost_if w pay children n u ≡ cap
  unfolding cost_if
  cost_if_over h = rw (lt-ltb n (w u))

  pub cost_if_fits : cost_if w pay children n u < cap → (w u ≤ n) × (cost_if w pay children n u ≡ pay u + children u (n - w u))
  cost_if_fits = elim (dec_lt n (w u)) [ yes h ↦ λ k. absurd (omega (arith, cost_if_over h)) | no h ↦ λ k. (omega arith, cost_if_is (omega arith)) ]

-- x wins over u: u is not less, and if it is as small it is not favoured
abbrev WinsChoice : (Bool → ℕ) → Bool → Bool → Bool → Type 0
WinsChoice f p u x = (f x ≤ f u) × (f x ≡ f u → favour p u ≤ favour p x)

module _ (costs : ℕ → Bool → ℕ) (n : ℕ) where
  own_choice_wins : (p u : Bool) → WinsChoice (costs n) p u (own_choice p costs n)
  unfolding own_choice
  own_choice_wins true true = better_cases (WinsChoice (costs n) true true) _ _ _ (λ h. omega arith) (λ h. omega arith)
  own_choice_wins true false = better_cases (WinsChoice (costs n) true false) _ _ _ (λ h. omega arith) (λ h. omega arith)
  own_choice_wins false true = better_cases (WinsChoice (costs n) false true) _ _ _ (λ h. omega arith) (λ h. omega arith)
  own_choice_wins false false = better_cases (WinsChoice (costs n) false false) _ _ _ (λ h. omega arith) (λ h. omega arith)

module _ {C : Type 0} (w : ℕ → Bool → ℕ) (p : Bool) (s : ℕ → Site C) where
  -- what node v and the row a of its children cost, by v's own choice
  abbrev costs : ℕ → Row → C → ℕ → Bool → ℕ
  costs v a c = costs_of w s v c (best w p s a)

  -- ---- the least is never above the cap, and below it the choice found has that count and that cost

  pub best_within_cap : (r : Row) (c : C) (m : ℕ) → best w p s r c m ≤ cap
  unfolding best row_best
  best_within_cap empty c zero = omega arith
  best_within_cap empty c (suc m) = omega arith
  best_within_cap (node v a b) c m = omega arith

  pub best_attained : (r : Row) (c : C) (m : ℕ) → best w p s r c m < cap
      → (row_count w r (choose w p s r c m) ≡ m) × (row_cost s r c (choose w p s r c m) ≡ best w p s r c m)
  unfolding best choose row_count row_cost node_best split row_best
  best_attained empty c zero h = (refl, refl)
  best_attained empty c (suc m) h = omega arith
  best_attained (node v a b) c m h =
      let r = later (node_best p (costs v a c)) (best w p s b c) m in
      let u = own_choice p (costs v a c) (m - r) in
      let fits = cost_if_fits (w v) ((s v).pay c) (λ u. best w p s a ((s v).down c u)) (m - r) u (omega arith) in
      let children = best_attained a ((s v).down c u) (m - r - w v u) (omega arith) in
      let siblings = best_attained b c r (omega arith) in
      omega (arith, first_least_within (split (node_best p (costs v a c)) (best w p s b c) m) m)

  -- ---- no choice y of count m costs less, and of those that cost as little none comes before the one found

  abbrev FindsFirst : (r : Row) → C → ℕ → Choice r → Type 1
  FindsFirst r c m y =
      (best w p s r c m ≤ row_cost s r c y)
      × (best w p s r c m ≡ row_cost s r c y → (rest : Type 0) → rest → Before w p r (choose w p s r c m) y rest)

  -- of a node and the row of its children, with count n
  node_first : (v : ℕ) (a : Row) (c : C) (u : Bool) (y : Choice a) (n : ℕ)
      → ((e : C) (m : ℕ) → row_count w a y ≡ m → row_cost s a e y < cap → FindsFirst a e m y)
      → w v u + row_count w a y ≡ n → (s v).pay c u + row_cost s a ((s v).down c u) y < cap
      → let x = own_choice p (costs v a c) n in
      (node_best p (costs v a c) n ≤ (s v).pay c u + row_cost s a ((s v).down c u) y)
      × (node_best p (costs v a c) n ≡ (s v).pay c u + row_cost s a ((s v).down c u) y
      → (favour p u ≤ favour p x)
      × (x ≡ u → (rest : Type 0) → rest → Before w p a (choose w p s a ((s v).down c x) (n - w v x)) y rest))
  unfolding node_best
  node_first v a c u y n ih e h =
      let children = ih ((s v).down c u) (n - w v u) (omega arith) (omega arith) in
      let is = cost_if_is (w v) ((s v).pay c) (λ u. best w p s a ((s v).down c u)) n u (omega arith) in
      let won = own_choice_wins (costs v a c) n p u in
      (omega arith, λ eq. (won.1 (omega arith), λ same. rw same (children.1 (omega arith))))

  -- of a row
  pub best_first : (r : Row) (y : Choice r) (c : C) (m : ℕ) → row_count w r y ≡ m → row_cost s r c y < cap → FindsFirst r c m y
  unfolding best choose row_count row_cost split row_best
  best_first empty y c zero e h = (omega arith, λ _ rest z. z)
  best_first empty y c (suc m) e h = absurd (omega arith)
  best_first (node v a b) y c m e h =
      let r = later (node_best p (costs v a c)) (best w p s b c) m in
      let k = row_count w b y.2 in
      let here = node_first v a c y.0 y.1 (m - k) (best_first a y.1) (omega arith) (omega arith) in
      let siblings = best_first b y.2 c k refl (omega arith) in
      let won = first_least_wins (split (node_best p (costs v a c)) (best w p s b c) m) m k (omega arith) in (
        omega arith,
        λ eq rest z.
            let no_later_lem : r ≤ k = won.1 (omega arith) in
            let attained = (best_attained (node v a b) c m (omega arith)).0 in
            let after = (best_attained b c r (omega arith)).0 in (
              omega arith,
              λ same.
                  let here = node_first v a c y.0 y.1 (m - r) (best_first a y.1) (omega arith) (omega arith) in
                  let siblings = best_first b y.2 c r (omega arith) (omega arith) in
                  let tie = here.1 (omega arith) in
                  (tie.0, λ self. tie.1 self _ (siblings.1 (omega arith) rest z)),
            ),
      )

  -- ---- the choice found within a budget ranks no later than any other, and costs the least found

  pub within_ranks : (r : Row) (c : C) (b : ℕ) (y : Choice r) → row_count w r y ≤ b → row_cost s r c y < cap
      → let x = choose_within w p s r c b in
      (row_count w r x ≤ b) × (row_cost s r c x ≡ best w p s r c (first_least (best w p s r c) b)) × RanksNoLater w p s r c x y
  within_ranks r c b y h k =
      let m = first_least (best w p s r c) b in
      let won = first_least_wins (best w p s r c) b (row_count w r y) h in
      let first = best_first r y c (row_count w r y) refl k in
      let x = best_attained r c m (omega arith) in (
        omega (arith, first_least_within (best w p s r c) b),
        x.1,
        (
          omega arith,
          λ e. (omega (arith, won.1 (omega arith)), λ n. (best_first r y c m (omega arith) k).1 (omega arith) _ tt),
        ),
      )
