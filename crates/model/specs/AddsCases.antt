-- Worked cases of three files of which the third has the sums (`Adds`), in each version, on files written out byte by byte (`Samples`).
use Rattle.std.specs.Prelude.{◌≡◌, true, List, [], ◌∷◌, ℕ, ◌+◌, ◌<◌, set}
use Rattle.model.specs.File.{tree_of, demand_of}
use Rattle.model.specs.Rules.{broken, file_verdict, accepted}
use Rattle.model.specs.Bill.{total}
use Rattle.model.specs.Plan.{plan_total}
use Rattle.model.specs.Calls.{serving_nodes, link_loads, plan_totals, plan_rows}
use Rattle.model.specs.Adds.{Adds}
use Rattle.model.specs.Samples.{largest, idle_week, twice_largest, first_week, second_week, both_weeks, first_week_bytes, second_week_bytes, both_weeks_bytes, first_week_closed, second_week_closed, both_weeks_closed}

-- three accepted files, but not three alike of which the third has the sums
abbrev pub NotAdds : List ℕ → List ℕ → List ℕ → Type 0
NotAdds f g h = (accepted f ≡ true) × (accepted g ≡ true) × (accepted h ≡ true) × (Adds f g h → ⊥)

pub record AddsCases : Type 0 where
  -- version 1: at budget 1 the weeks plan {2} and {3}, and both together {1}, for 568,000, where 180,000 + 120,000 is the sum; at
  -- budget 0, and at 2, where all three plan {2, 3}, the plan totals add
  pub weeks_add : Adds first_week second_week both_weeks
  pub plan_totals_of_first : plan_totals first_week ≡ 720000 ∷ 180000 ∷ 60000 ∷ []
  pub plan_totals_of_second : plan_totals second_week ≡ 840000 ∷ 120000 ∷ 12000 ∷ []
  pub plan_totals_of_both : plan_totals both_weeks ≡ 1560000 ∷ 568000 ∷ 72000 ∷ []
  pub plan_rows_of_first : plan_rows first_week ≡ 0 ∷ 0 ∷ 2 ∷ 0 ∷ 2 ∷ 3 ∷ []
  pub plan_rows_of_second : plan_rows second_week ≡ 0 ∷ 0 ∷ 3 ∷ 0 ∷ 2 ∷ 3 ∷ []
  pub plan_rows_of_both : plan_rows both_weeks ≡ 0 ∷ 0 ∷ 1 ∷ 0 ∷ 2 ∷ 3 ∷ []
  pub more_than_the_sum : plan_total (tree_of first_week) (demand_of first_week) 1 + plan_total (tree_of second_week) (demand_of second_week) 1
      < plan_total (tree_of both_weeks) (demand_of both_weeks) 1
  pub just_the_sum : plan_total (tree_of both_weeks) (demand_of both_weeks) 2
      ≡ plan_total (tree_of first_week) (demand_of first_week) 2 + plan_total (tree_of second_week) (demand_of second_week) 2
  -- one set in all three: its totals and loads add, its serving nodes are the same
  pub total_of_first : total (tree_of first_week) (demand_of first_week) (1 ∷ 3 ∷ []) ≡ 240000
  pub total_of_second : total (tree_of second_week) (demand_of second_week) (1 ∷ 3 ∷ []) ≡ 48000
  pub total_of_both : total (tree_of both_weeks) (demand_of both_weeks) (1 ∷ 3 ∷ []) ≡ 288000
  pub loads_of_first : link_loads first_week (1 ∷ 3 ∷ []) ≡ 0 ∷ 20000 ∷ 200000 ∷ 0 ∷ []
  pub loads_of_second : link_loads second_week (1 ∷ 3 ∷ []) ≡ 0 ∷ 4000 ∷ 40000 ∷ 0 ∷ []
  pub loads_of_both : link_loads both_weeks (1 ∷ 3 ∷ []) ≡ 0 ∷ 24000 ∷ 240000 ∷ 0 ∷ []
  pub servings_of_first : serving_nodes first_week (1 ∷ 3 ∷ []) ≡ 0 ∷ 1 ∷ 1 ∷ 3 ∷ []
  pub servings_of_second : serving_nodes second_week (1 ∷ 3 ∷ []) ≡ 0 ∷ 1 ∷ 1 ∷ 3 ∷ []
  pub servings_of_both : serving_nodes both_weeks (1 ∷ 3 ∷ []) ≡ 0 ∷ 1 ∷ 1 ∷ 3 ∷ []
  -- version 2: at budget 1 all three plan {1}, and at both budgets the plan totals add
  pub bytes_add : Adds first_week_bytes second_week_bytes both_weeks_bytes
  pub plan_totals_of_first_bytes : plan_totals first_week_bytes ≡ 200_030_000 ∷ 60_024_000 ∷ []
  pub plan_totals_of_second_bytes : plan_totals second_week_bytes ≡ 100_021_000 ∷ 7000 ∷ []
  pub plan_totals_of_both_bytes : plan_totals both_weeks_bytes ≡ 300_051_000 ∷ 60_031_000 ∷ []
  pub plan_rows_of_first_bytes : plan_rows first_week_bytes ≡ 0 ∷ 1 ∷ []
  pub plan_rows_of_second_bytes : plan_rows second_week_bytes ≡ 0 ∷ 1 ∷ []
  pub plan_rows_of_both_bytes : plan_rows both_weeks_bytes ≡ 0 ∷ 1 ∷ []
  -- version 3, node 1 closed: at budget 1 the weeks plan {2} and {3}, and both together {2}, for 21,000, where 3,000 + 3,000 is the sum
  pub closed_add : Adds first_week_closed second_week_closed both_weeks_closed
  pub plan_totals_of_first_closed : plan_totals first_week_closed ≡ 21000 ∷ 3000 ∷ []
  pub plan_totals_of_second_closed : plan_totals second_week_closed ≡ 21000 ∷ 3000 ∷ []
  pub plan_totals_of_both_closed : plan_totals both_weeks_closed ≡ 42000 ∷ 21000 ∷ []
  pub plan_rows_of_first_closed : plan_rows first_week_closed ≡ 0 ∷ 2 ∷ []
  pub plan_rows_of_second_closed : plan_rows second_week_closed ≡ 0 ∷ 3 ∷ []
  pub plan_rows_of_both_closed : plan_rows both_weeks_closed ≡ 0 ∷ 2 ∷ []
  -- a client may be there in one week alone, and the sum may be the greatest flow
  pub idle_week_adds : Adds largest idle_week largest
  -- "alike in all": not with another budget in the third, the first or the second, another hit or last byte at the server, or another
  -- hit at a node without flow, though no total depends on them
  pub other_budget : NotAdds first_week second_week (set both_weeks 8 0x01)
  pub other_first_budget : NotAdds (set first_week 8 0x01) second_week both_weeks
  pub other_second_budget : NotAdds first_week (set second_week 8 0x03) both_weeks
  pub other_server_hit : NotAdds first_week second_week (set both_weeks 18 0x2D)
  pub other_idle_hit : NotAdds first_week second_week (set both_weeks 28 0x01)
  pub other_server_byte : NotAdds first_week_closed second_week_closed (set both_weeks_closed 21 0x00)
  -- "the sums of the other two's": at the server too, flow 257 for 250 + 6, and cachable bytes 120,001 for 70,000 + 50,000
  pub other_server_flow : NotAdds first_week second_week (set both_weeks 16 0x01)
  pub other_server_cachable : NotAdds first_week_closed second_week_closed (set both_weeks_closed 20 0xC1)
  -- "three accepted files": rule 10 refuses twice the greatest flow
  pub sum_too_large : (file_verdict twice_largest ≡ broken 10 1) × (Adds largest largest twice_largest → ⊥)
