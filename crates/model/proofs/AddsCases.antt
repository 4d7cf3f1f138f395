-- The worked cases of three files of which the third has the sums hold.
use mathlib.Core.Path.{◌≡◌, refl}
use mathlib.Core.Bool.{Bool, true, cond}
use mathlib.Core.List.{List, flat_map}
use mathlib.Core.Logic.{inr}
use Prim.Native.Nat.{ℕ, ◌+◌}
use native.Mathlib.Omega.{arith}
use lib.Dec.{eqb}
use borrow.Author.Tests.{eq-eqb}
use Rattle.laws.specs.Lists.{range, sum, least, has, any_of, all_of, those, how_many, first_that, same}
use Rattle.laws.proofs.Bools.{not_both}
use Rattle.laws.proofs.Lists.{equal_below}
use Rattle.model.specs.File.{Field, number, version_of, count_of, budget_of, parent_field, length_field, flow_field, hit_field, cachable_field, open_field, has_ratios, has_open_bytes, record_length, field_of, open_of, share_of}
use Rattle.model.specs.Tree.{climb, route, at_or_below, depth, distance}
use Rattle.model.specs.Rules.{parent_holds, length_holds, record_verdict, records_verdict, marked, file_verdict, accepted}
use Rattle.model.specs.Bill.{price, cost, total, up_to, client_load, link_load, serving}
use Rattle.model.specs.Ties.{smaller_first, members, visits, ties_before, ranks_before}
use Rattle.model.specs.Plan.{sets_of, first_of, plan}
use Rattle.model.specs.Calls.{plan_totals, plan_rows}
use Rattle.model.specs.Adds.{AlikeButFlows, Adds}
use Rattle.model.specs.AddsCases.{AddsCases}
use Rattle.model.specs.Samples.{largest, idle_week, twice_largest, first_week, second_week, both_weeks, first_week_bytes, second_week_bytes, both_weeks_bytes, first_week_closed, second_week_closed, both_weeks_closed}
use Rattle.model.proofs.Adds.{later_no_ratios}

-- ---- three files that tests find to add

-- field by field as in `AlikeButFlows`
module _ (f h : List ℕ) where
  abbrev same_field : Field → Bool
  same_field x = all_of (λ v. eqb (field_of f x v) (field_of h x v)) (range 0 (count_of h))

  abbrev FoundAlike : Type 0
  FoundAlike =
      (version_of f ≡ version_of h) × (count_of f ≡ count_of h) × (budget_of f ≡ budget_of h)
      × (same_field parent_field ≡ true) × (same_field length_field ≡ true)
      × (cond (eqb (version_of h) 1) (same_field hit_field) true ≡ true) × (cond (eqb (version_of h) 3) (same_field open_field) true ≡ true)

  found_alike : FoundAlike → AlikeButFlows f h
  found_alike found = record {
    version = found.0;
    count = found.1;
    budget = found.2;
    parents = equal_below _ _ _ found.3;
    lengths = equal_below _ _ _ found.4;
    hits = λ first. equal_below _ _ _ (rw (eq-eqb _ _ first) at found.5);
    open_bytes = λ third. equal_below _ _ _ (rw (eq-eqb _ _ third) at found.6);
  }

module _ (f g h : List ℕ) where
  abbrev sum_field : Field → Bool
  sum_field x = all_of (λ v. eqb (field_of h x v) (field_of f x v + field_of g x v)) (range 0 (count_of h))

  found_adds : (accepted f ≡ true) × (accepted g ≡ true) × (accepted h ≡ true) → FoundAlike f h → FoundAlike g h
      → sum_field flow_field ≡ true → cond (has_ratios h) true (sum_field cachable_field) ≡ true → Adds f g h
  found_adds fit first second flows cachables = record {
    all_accepted = fit;
    first_alike = found_alike f h first;
    second_alike = found_alike g h second;
    flows = equal_below _ _ _ flows;
    cachables = λ later. equal_below _ _ _ (rw (later_no_ratios h later) at cachables);
  }

pub adds_cases : AddsCases
unfolding largest idle_week twice_largest first_week second_week both_weeks first_week_bytes second_week_bytes both_weeks_bytes first_week_closed second_week_closed both_weeks_closed flat_map range sum least has any_of all_of those how_many first_that same number has_ratios has_open_bytes record_length field_of open_of share_of climb route at_or_below depth distance parent_holds length_holds record_verdict records_verdict marked file_verdict accepted price cost total up_to client_load link_load serving smaller_first members visits ties_before ranks_before sets_of first_of plan plan_totals plan_rows
adds_cases = record {
  weeks_add = found_adds first_week second_week both_weeks (refl, refl, refl) (refl, refl, refl, refl, refl, refl, refl) (refl, refl, refl, refl, refl, refl, refl) refl refl;
  plan_totals_of_first = refl;
  plan_totals_of_second = refl;
  plan_totals_of_both = refl;
  plan_rows_of_first = refl;
  plan_rows_of_second = refl;
  plan_rows_of_both = refl;
  more_than_the_sum = omega arith;
  just_the_sum = refl;
  total_of_first = refl;
  total_of_second = refl;
  total_of_both = refl;
  loads_of_first = refl;
  loads_of_second = refl;
  loads_of_both = refl;
  servings_of_first = refl;
  servings_of_second = refl;
  servings_of_both = refl;
  bytes_add = found_adds first_week_bytes second_week_bytes both_weeks_bytes (refl, refl, refl) (refl, refl, refl, refl, refl, refl, refl) (refl, refl, refl, refl, refl, refl, refl) refl refl;
  plan_totals_of_first_bytes = refl;
  plan_totals_of_second_bytes = refl;
  plan_totals_of_both_bytes = refl;
  plan_rows_of_first_bytes = refl;
  plan_rows_of_second_bytes = refl;
  plan_rows_of_both_bytes = refl;
  closed_add = found_adds first_week_closed second_week_closed both_weeks_closed (refl, refl, refl) (refl, refl, refl, refl, refl, refl, refl) (refl, refl, refl, refl, refl, refl, refl) refl refl;
  plan_totals_of_first_closed = refl;
  plan_totals_of_second_closed = refl;
  plan_totals_of_both_closed = refl;
  plan_rows_of_first_closed = refl;
  plan_rows_of_second_closed = refl;
  plan_rows_of_both_closed = refl;
  idle_week_adds = found_adds largest idle_week largest (refl, refl, refl) (refl, refl, refl, refl, refl, refl, refl) (refl, refl, refl, refl, refl, refl, refl) refl refl;
  other_budget = (refl, refl, refl, λ a. absurd (omega (arith, a.first_alike.budget)));
  other_first_budget = (refl, refl, refl, λ a. absurd (omega (arith, a.first_alike.budget)));
  other_second_budget = (refl, refl, refl, λ a. absurd (omega (arith, a.second_alike.budget)));
  other_server_hit = (refl, refl, refl, λ a. absurd (omega (arith, a.first_alike.hits refl 0 (omega arith))));
  other_idle_hit = (refl, refl, refl, λ a. absurd (omega (arith, a.first_alike.hits refl 1 (omega arith))));
  other_server_byte = (refl, refl, refl, λ a. absurd (omega (arith, a.first_alike.open_bytes refl 0 (omega arith))));
  other_server_flow = (refl, refl, refl, λ a. absurd (omega (arith, a.flows 0 (omega arith))));
  other_server_cachable = (refl, refl, refl, λ a. absurd (omega (arith, a.cachables (inr refl) 0 (omega arith))));
  sum_too_large = (refl, λ a. absurd (not_both a.all_accepted.2 refl));
}
