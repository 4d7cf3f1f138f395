-- What holds of the least budget for a target: it is the first of the budgets 0 to k whose plan total is no larger, and none is
-- answered just where every set of at most k nodes costs more.
use mathlib.Core.Path.{◌≡◌, refl, ap}
use mathlib.Core.Bool.{cond}
use mathlib.Core.List.{List}
use Prim.Native.Nat.{ℕ, zero, suc, ◌+◌, ◌≤◌, ◌<◌}
use native.Mathlib.Decide.{ℕ_discrete, dec_lt}
use native.Mathlib.Nat.{zero-add}
use native.Mathlib.Omega.{arith}
use lib.Dec.{leb}
use lib.ListN.{length}
use borrow.Author.Tests.{leb-true, leb-false}
use Rattle.laws.specs.Lists.{range}
use Rattle.laws.proofs.Bools.{by_test}
use Rattle.model.specs.File.{Tree, Demand, tree_of, demand_of, budget_of}
use Rattle.model.specs.Plan.{plan, plan_total}
use Rattle.model.specs.Calls.{Least, none, least_is}
use Rattle.model.specs.LeastBudget.{first_within, least_budget, AllCostMore, CheapEnough, LeastBudgetSaid}
use Rattle.model.proofs.Plans.{plan_ranks_first, plan_least}

never_rise_lem : (t : Tree) (d : Demand) (b c : ℕ) → b ≤ c → plan_total t d c ≤ plan_total t d b
never_rise_lem t d b c h = let p = plan_ranks_first t d b in plan_least t d c (plan t d b) p.is_a_set (omega (arith, p.within))

module _ (t : Tree) (d : Demand) (target : ℕ) where
  -- ---- the first budget of a range

  -- the plan of each budget from i on and below e costs more than the target
  abbrev CostMoreFrom : ℕ → ℕ → Type 0
  CostMoreFrom i e = (c : ℕ) → i ≤ c → c < e → target < plan_total t d c

  costs_more_before : (i e : ℕ) → target < plan_total t d i → CostMoreFrom (suc i) e → CostMoreFrom i e
  costs_more_before i e more f c p q = elim (ℕ_discrete i c) [
    | yes same ↦ rw same at more
    | no other ↦ f c (omega arith) q
  ]

  -- of those from i on and below e the first whose plan does not, or none
  abbrev FirstFrom : ℕ → ℕ → Least → Type 0
  FirstFrom i e none = CostMoreFrom i e
  FirstFrom i e (least_is b) = (i ≤ b) × (b < e) × (plan_total t d b ≤ target) × CostMoreFrom i b

  one_before : (i e : ℕ) (m : Least) → target < plan_total t d i → FirstFrom (suc i) e m → FirstFrom i e m
  one_before i e none more f = costs_more_before i e more f
  one_before i e (least_is b) more f = (omega (arith, f.0), f.1, f.2, costs_more_before i b more f.3)

  first_from : (i n : ℕ) → FirstFrom i (i + n) (first_within t d target (range i n))
  unfolding first_within range
  first_from i zero = λ c p q. absurd (omega arith)
  first_from i (suc n) =
      let e : i + suc n ≡ suc i + n = omega arith in
      by_test (λ x. FirstFrom i (i + suc n) (cond x (least_is i) (first_within t d target (range (suc i) n)))) (leb (plan_total t d i) target)
      (λ h. (omega arith, omega arith, leb-true _ _ h, λ c p q. absurd (omega arith)))
      (λ h. one_before i (i + suc n) (first_within t d target (range (suc i) n)) (leb-false _ _ h) (rw e (first_from (suc i) n)))

  -- two such answers are the same
  first_only : (i e : ℕ) (m n : Least) → FirstFrom i e m → FirstFrom i e n → m ≡ n
  first_only i e none none f g = refl
  first_only i e none (least_is c) f g = absurd (omega (arith, f c g.0 g.1, g.2))
  first_only i e (least_is b) none f g = absurd (omega (arith, g b f.0 f.1, f.2))
  first_only i e (least_is b) (least_is c) f g =
      elim (dec_lt b c) [
        | yes less ↦ absurd (omega (arith, g.3 b f.0 less, f.2))
        | no other ↦ elim (dec_lt c b) [
          | yes more ↦ absurd (omega (arith, f.3 c g.0 more, g.2))
          | no same ↦ let is : b ≡ c = omega arith in ap least_is is
        ]
      ]

  -- ---- plan totals and all sets

  -- every set of at most b nodes costs more than the target just where the plan does
  all_cost_more : (b : ℕ) → target < plan_total t d b → AllCostMore t d target b
  all_cost_more b h l s w = omega (arith, plan_least t d b l s w)

  plan_costs_more : (b c : ℕ) → AllCostMore t d target b → c ≤ b → target < plan_total t d c
  plan_costs_more b c h w = let p = plan_ranks_first t d c in h (plan t d c) p.is_a_set (omega (arith, p.within))

  plan_cheap : (b : ℕ) → plan_total t d b ≤ target → CheapEnough t d target b (plan t d b)
  plan_cheap b h = let p = plan_ranks_first t d b in record { is_a_set = p.is_a_set; within = p.within; cheap = h }

  cheap_plan : (b : ℕ) (k : List ℕ) → CheapEnough t d target b k → plan_total t d b ≤ target
  cheap_plan b k c = omega (arith, plan_least t d b k c.is_a_set c.within, c.cheap)

-- ---- the least budget

module _ (file : List ℕ) (target : ℕ) where
  abbrev t : Tree
  t = tree_of file

  abbrev d : Demand
  d = demand_of file

  least_budget_first : FirstFrom t d target 0 (suc (budget_of file)) (least_budget file target)
  unfolding least_budget
  least_budget_first = rw (zero-add (suc (budget_of file))) at (first_from t d target 0 (suc (budget_of file)))

  least_budget_only : (m : Least) → FirstFrom t d target 0 (suc (budget_of file)) m → least_budget file target ≡ m
  least_budget_only m f = first_only t d target 0 (suc (budget_of file)) (least_budget file target) m least_budget_first f

  pub least_budget_is : (b : ℕ) → b ≤ budget_of file → plan_total t d b ≤ target → ((c : ℕ) → c < b → target < plan_total t d c)
      → least_budget file target ≡ least_is b
  least_budget_is b w h before = least_budget_only (least_is b) (omega arith, omega arith, h, λ c _ q. before c q)

  pub least_budget_none_lem : ((c : ℕ) → c ≤ budget_of file → target < plan_total t d c) → least_budget file target ≡ none
  least_budget_none_lem h = least_budget_only none (λ c _ q. h c (omega arith))

  module _ {b : ℕ} (e : least_budget file target ≡ least_is b) where
    budget_found_lem : (b ≤ budget_of file) × (plan_total t d b ≤ target) × ((c : ℕ) → c < b → target < plan_total t d c)
    budget_found_lem = let f = rw e at least_budget_first in (omega (arith, f.1), f.2, λ c q. f.3 c (omega arith) q)

    -- a plan with fewer nodes would be cheap enough at a smaller budget
    all_used_lem : length (plan t d b) ≡ b
    all_used_lem =
        let p = plan_ranks_first t d b in
        elim (ℕ_discrete (length (plan t d b)) b) [
          | yes same ↦ same
          | no fewer ↦
              let costs_more = budget_found_lem.2 (length (plan t d b)) (omega (arith, p.within)) in
              absurd (omega (arith, budget_found_lem.1, costs_more, plan_least t d (length (plan t d b)) (plan t d b) p.is_a_set (omega arith)))
        ]

  none_found_lem : least_budget file target ≡ none → target < plan_total t d (budget_of file)
  none_found_lem e = (rw e at least_budget_first) (budget_of file) (omega arith) (omega arith)

  pub least_budget_said : LeastBudgetSaid file target
  least_budget_said = record {
    found = λ b. (λ e. budget_found_lem e, λ h. least_budget_is b h.0 h.1 h.2);
    found_over_sets = λ b. (
      λ e.
          let f = budget_found_lem e in
          (f.0, (plan t d b, plan_cheap t d target b f.1), λ c q. all_cost_more t d target c (f.2 c q)),
      λ h.
          least_budget_is b h.0 (cheap_plan t d target b h.1.0 h.1.1) (λ c q. plan_costs_more t d target c c (h.2 c q) (omega arith)),
    );
    none_over_sets = (
      λ e. all_cost_more t d target (budget_of file) (none_found_lem e),
      λ h. least_budget_none_lem (λ c w. plan_costs_more t d target (budget_of file) c h w),
    );
    all_used = λ b e. all_used_lem e;
    never_rise = never_rise_lem t d;
  }
