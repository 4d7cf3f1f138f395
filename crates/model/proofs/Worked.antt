-- The definitions agree with document 01's worked cases that it does not mark, and with those of 02, items 2, 3, 4, 6 and 9, on
-- bytes written out.
use mathlib.Core.Path.{◌≡◌, refl}
use mathlib.Core.List.{List, [], ◌∷◌, flat_map}
use Prim.Native.Nat.{ℕ, zero, suc, ◌*◌, ◌<◌}
use native.Mathlib.Omega.{arith}
use Rattle.laws.specs.Lists.{range, sum, least, greatest, has, any_of, all_of, those, how_many, first_that, same}
use Rattle.model.specs.File.{number, parent_field, length_field, flow_field, hit_field, cachable_field, has_ratios, has_open_bytes, record_length, field_of, open_of, share_of, tree_of, demand_of}
use Rattle.model.specs.Tree.{climb, route, at_or_below, nodes_of_row, depth, height, distance}
use Rattle.model.specs.Rules.{Verdict, parent_holds, length_holds, record_verdict, records_verdict, marked, file_verdict, accepted, ascends, is_set, scratch_words}
use Rattle.model.specs.Bill.{whole, cachable, price, cost, total, up_to, client_load, link_load, serving}
use Rattle.model.specs.Ties.{smaller_first, members, visits, ties_before, ranks_before}
use Rattle.model.specs.Plan.{sets_of, first_of, plan}
use Rattle.model.specs.Greedy.{with_node, with_nodes, least_node, step_over, taken_from}
use Rattle.model.specs.Calls.{after, ScratchAfter, check_number, record_bytes, bill_verdict, serving_nodes, link_loads, rank_verdict, ranking, plan_totals, plan_rows, PlanMemory, plan_verdict, PlanCall, greedy_totals, greedy_row, GreedyMemory, greedy_verdict, GreedyCall}
use Rattle.model.specs.Report.{set_of_row, ReportMemory, report_verdict, ReportCall, digits, decimal, line, report_text, refusal_text, verdict_within, text_within}
use Rattle.model.specs.Hosts.{words_asked, record_place, HostBillMemory, host_bill_verdict, HostBillCall}
use Rattle.model.specs.Bytes.{bytes_of, header_bytes, record_of}
use Rattle.model.specs.Cases.{tree_a, chain}
use Rattle.model.specs.Situations.{first_situation, cost_in, paper_cost, situation}
use Rattle.model.specs.Samples.{file_a, two_families, unit_tree, second_a, third_a, closed_last, last_byte, visited, largest, second_largest, three_sevenths, too_much, each_kind, second_each_kind, too_long}
use Rattle.model.specs.Worked.{Worked}

-- ---- what a call's statement settles

host_bill_settled_lem : {file set : List ℕ} {v : Verdict} {memory memory' : HostBillMemory} → HostBillCall file set memory v memory'
    → let w = host_bill_verdict file set memory in
    (v ≡ w) × (memory'.totals ≡ after w (total (tree_of file) (demand_of file) set ∷ []) memory.totals)
    × (memory'.servings ≡ after w (serving_nodes file set) memory.servings) × (memory'.loads ≡ after w (link_loads file set) memory.loads)
host_bill_settled_lem c = rw (← c.verdict) (refl, c.totals_after, c.servings_after, c.loads_after)

module _ {file : List ℕ} {v : Verdict} where
  plan_settled_lem : {memory memory' : PlanMemory} → PlanCall file memory v memory'
      → let w = plan_verdict file memory in
      (v ≡ w) × ScratchAfter w (scratch_words file) memory.scratch memory'.scratch
      × (memory'.totals ≡ after w (plan_totals file) memory.totals) × (memory'.rows ≡ after w (plan_rows file) memory.rows)
  plan_settled_lem c = rw (← c.verdict) (refl, c.scratch_after, c.totals_after, c.rows_after)

  greedy_settled_lem : {memory memory' : GreedyMemory} → GreedyCall file memory v memory'
      → let w = greedy_verdict file memory in
      (v ≡ w) × ScratchAfter w (scratch_words file) memory.scratch memory'.scratch
      × (memory'.totals ≡ after w (greedy_totals file) memory.totals) × (memory'.nodes ≡ after w (greedy_row file) memory.nodes)
  greedy_settled_lem c = rw (← c.verdict) (refl, c.scratch_after, c.totals_after, c.nodes_after)

  report_settled_lem : {memory memory' : ReportMemory} → ReportCall file memory v memory'
      → let w = report_verdict file memory in
      (v ≡ w) × ScratchAfter w (scratch_words file) memory.scratch memory'.scratch
      × (memory'.plan_totals ≡ after w (plan_totals file) memory.plan_totals) × (memory'.plan_rows ≡ after w (plan_rows file) memory.plan_rows)
      × (memory'.greedy_totals ≡ after w (greedy_totals file) memory.greedy_totals) × (memory'.greedy_nodes ≡ after w (greedy_row file) memory.greedy_nodes)
  report_settled_lem c =
      rw (← c.verdict) (refl, c.scratch_after, c.plan_totals_after, c.plan_rows_after, c.greedy_totals_after, c.greedy_nodes_after)

-- ---- the cases

-- what holds of each of five nodes
of_five : (P : ℕ → Type 0) → P 0 → P 1 → P 2 → P 3 → P 4 → (v : ℕ) → v < 5 → P v
of_five P a b c d e zero h = a
of_five P a b c d e (suc zero) h = b
of_five P a b c d e (suc (suc zero)) h = c
of_five P a b c d e (suc (suc (suc zero))) h = d
of_five P a b c d e (suc (suc (suc (suc zero)))) h = e
of_five P a b c d e (suc (suc (suc (suc (suc f))))) h = absurd (omega arith)

-- and of each of two
of_two_lem : (P : ℕ → Type 0) → P 0 → P 1 → (v : ℕ) → v < 2 → P v
of_two_lem P a b zero h = a
of_two_lem P a b (suc zero) h = b
of_two_lem P a b (suc (suc f)) h = absurd (omega arith)

pub worked : Worked
unfolding file_a two_families unit_tree second_a third_a closed_last visited largest second_largest three_sevenths too_much each_kind second_each_kind too_long bytes_of header_bytes record_of tree_a chain flat_map range sum least greatest has any_of all_of those how_many first_that same number has_ratios has_open_bytes record_length field_of open_of share_of climb route at_or_below nodes_of_row depth height distance parent_holds length_holds record_verdict records_verdict marked file_verdict accepted ascends is_set scratch_words whole cachable price cost total up_to client_load link_load serving smaller_first members visits ties_before ranks_before sets_of first_of plan with_node with_nodes least_node step_over taken_from check_number record_bytes bill_verdict rank_verdict ranking plan_totals plan_rows plan_verdict greedy_totals greedy_row greedy_verdict set_of_row report_verdict digits decimal line report_text refusal_text verdict_within text_within words_asked record_place host_bill_verdict first_situation cost_in paper_cost situation
worked = record {
  files = record {
    offsets = refl;
    widths = refl;
    mosts = refl;
    bytes_of_a = refl;
    file_a_passes = refl;
    eight_bytes = refl;
    nine_bytes = refl;
    mark_first = refl;
    mark_second = refl;
    mark_third = refl;
    version_none = refl;
    version_four = refl;
    version_high = refl;
    no_nodes = refl;
    most_nodes_and_budget = refl;
    nodes_over = refl;
    budget_over = refl;
    budget_high = refl;
    byte_over = refl;
    byte_under = refl;
    one_first = refl;
    two_first = refl;
    three_first = refl;
    four_first = refl;
    six_first = refl;
    own_parent = refl;
    parent_high = refl;
    no_ancestor = refl;
    deepest = refl;
    too_deep = refl;
    depth_before_length = refl;
    parent_before_depth = refl;
    largest_pass = refl;
    length_over = refl;
    flow_over = refl;
    hit_over = refl;
    length_before_hit = refl;
    parent_before_length = refl;
    length_before_flow = refl;
    flow_before_hit = refl;
    node_by_node = refl;
    server_parent = refl;
    server_length = refl;
    server_client = refl;
    server_flow = refl;
    server_hit = refl;
  };
  second = record {
    second_a_passes = refl;
    byte_over = refl;
    byte_under = refl;
    short_records = refl;
    long_records = refl;
    version_high = refl;
    no_nodes = refl;
    most_nodes_and_budget = refl;
    nodes_over = refl;
    budget_over = refl;
    largest_pass = refl;
    one_more = refl;
    second_byte = refl;
    third_byte = refl;
    fourth_byte = refl;
    eleven_not_asked = refl;
    parent_first = refl;
    length_first = refl;
    flow_first = refl;
    node_by_node = refl;
    later_record = refl;
    server_client = refl;
    server_cachable = refl;
    check_of_accepted = refl;
    check_of_refused = refl;
    last_record = refl;
    record_past = refl;
    last_place = refl;
    place_past = refl;
    place_refused = refl;
    code_of_rank = refl;
    sevenths = refl;
    sevenths_served = refl;
    loads_of_none = refl;
    loads_of_one = refl;
    largest_total = refl;
    largest_saved = refl;
    seventeen_first = refl;
    set_over = refl;
    loads_short = refl;
    plan_passes = refl;
    plan_scratch_short = refl;
    plan_rows_short = refl;
    totals_of_plan = refl;
    rows_of_plan = refl;
    totals_of_greedy = refl;
    words_of_second_a = refl;
    longest_file = refl;
    longest_short = refl;
    both_versions = record {
      first = (refl, refl);
      second = (refl, refl);
      count = refl;
      parents = of_five (λ v. field_of second_a parent_field v ≡ field_of file_a parent_field v) refl refl refl refl refl;
      lengths = of_five (λ v. field_of second_a length_field v ≡ field_of file_a length_field v) refl refl refl refl refl;
      flows = of_five (λ v. field_of second_a flow_field v ≡ field_of file_a flow_field v) refl refl refl refl refl;
      cachables = of_five (λ v. 1000 * field_of second_a cachable_field v ≡ field_of file_a flow_field v * field_of file_a hit_field v) refl refl refl refl refl;
    };
  };
  third = record {
    third_a_passes = refl;
    byte_over = refl;
    byte_under = refl;
    short_records = refl;
    long_records = refl;
    version_four = refl;
    version_high = refl;
    no_nodes = refl;
    most_nodes_and_budget = refl;
    nodes_over = refl;
    budget_over = refl;
    byte_zero = refl;
    byte_one = refl;
    byte_two = refl;
    byte_most = refl;
    parent_first = refl;
    depth_first = refl;
    length_first = refl;
    flow_first = refl;
    cachable_first = refl;
    node_by_node = refl;
    later_record = refl;
    server_open = refl;
    server_closed = refl;
    server_byte = refl;
    check_of_accepted = refl;
    check_of_refused = refl;
    check_of_server = refl;
    last_record = refl;
    record_past = refl;
    last_place = refl;
    place_past = refl;
    place_refused = refl;
    code_of_rank = refl;
    longest_file = refl;
    longest_short = refl;
    open_sites_of_third_a = refl;
    open_sites_of_second_a = refl;
    open_sites_of_a = refl;
    open_set = refl;
    closed_set = refl;
    closed_among_open = refl;
    closed_after_open = refl;
    host_closed_after_open = refl;
    first_closed_after_open = refl;
    second_closed_after_open = refl;
    twenty_four_first = refl;
    loads_short = refl;
    first_closed = refl;
    second_closed = refl;
    code_of_closed = refl;
    no_winner = refl;
    total_of_two = refl;
    loads_of_two = refl;
    plan_passes = refl;
    plan_scratch_short = refl;
    plan_rows_short = refl;
    totals_of_plan = refl;
    rows_of_plan = refl;
    totals_of_greedy = refl;
    row_of_greedy = refl;
    words_of_third_a = refl;
    words_of_closed = refl;
    totals_of_closed = refl;
    greedy_of_closed = refl;
    row_of_closed = refl;
    totals_of_open = refl;
    greedy_of_open = refl;
    row_of_open = refl;
    lower_open_passes = refl;
    lower_closed_passes = refl;
    lower_open = refl;
    lower_closed = refl;
    visited_passes = refl;
    visited_plan = refl;
    visited_total = refl;
    visited_rival = refl;
    visited_first = refl;
    visited_second = refl;
    adds_open_bytes = record {
      second = (refl, refl);
      third = (refl, refl);
      count = refl;
      parents = of_five (λ v. field_of third_a parent_field v ≡ field_of second_a parent_field v) refl refl refl refl refl;
      lengths = of_five (λ v. field_of third_a length_field v ≡ field_of second_a length_field v) refl refl refl refl refl;
      flows = of_five (λ v. field_of third_a flow_field v ≡ field_of second_a flow_field v) refl refl refl refl refl;
      cachables = of_five (λ v. field_of third_a cachable_field v ≡ field_of second_a cachable_field v) refl refl refl refl refl;
    };
    adds_open_only = record {
      second = (refl, refl);
      third = (refl, refl);
      count = refl;
      parents = of_two_lem (λ v. field_of (last_byte 0x01) parent_field v ≡ field_of three_sevenths parent_field v) refl refl;
      lengths = of_two_lem (λ v. field_of (last_byte 0x01) length_field v ≡ field_of three_sevenths length_field v) refl refl;
      flows = of_two_lem (λ v. field_of (last_byte 0x01) flow_field v ≡ field_of three_sevenths flow_field v) refl refl;
      cachables = of_two_lem (λ v. field_of (last_byte 0x01) cachable_field v ≡ field_of three_sevenths cachable_field v) refl refl;
    };
    open_only = refl;
  };
  situations = record {
    each_kind_passes = refl;
    of_none = refl;
    of_one = refl;
    of_two = refl;
    costs_of_none = refl;
    costs_of_one = refl;
    costs_of_two = refl;
    second_passes = refl;
    second_of_none = refl;
    second_of_one = refl;
    second_of_two = refl;
    second_costs = refl;
    length_zero = refl;
    first_none = refl;
    first_of_nothing = refl;
    first_of_no_flow = refl;
    first_of_everything = refl;
    first_of_part = refl;
    first_of_more = refl;
    no_cache_of = refl;
    nothing_of = refl;
    everything_of = refl;
    partly_of = refl;
    paper_of = refl;
  };
  calls = record {
    largest_total = refl;
    largest_saved = refl;
    totals_below = refl;
    set_passes = refl;
    set_over = refl;
    set_of_server = refl;
    set_twice = refl;
    set_descends = refl;
    servings_short = refl;
    loads_short = refl;
    set_before_buffers = refl;
    file_before_set = refl;
    servings_of_one = refl;
    servings_of_two = refl;
    loads_of_two = refl;
    load_on_length_zero = refl;
    entries_stay = refl;
    refusal_keeps = refl;
    less_is_first = refl;
    less_is_second = refl;
    tie_is_first = refl;
    tie_is_second = refl;
    equal_is_first = refl;
    first_set_over = refl;
    second_set_over = refl;
    ranked_file_refused = refl;
    lower_is_first = refl;
    lower_is_second = refl;
    fewest_is_first = refl;
    winner_is_lower = refl;
    lower_planned = refl;
    upper_taken = refl;
    unit_passes = refl;
    lacking_is_first = refl;
    lacking_is_second = refl;
    lower_of_two = refl;
    totals_of_unit = refl;
    lower_two_planned = refl;
    upper_two_taken = refl;
    deeper_not_first = refl;
    winner_is_first = refl;
    winner_is_second = refl;
    no_winner = refl;
    last_record = refl;
    record_past = refl;
    record_refused = refl;
    place_of_server = refl;
    place_of_two = refl;
    last_place = refl;
    place_past = refl;
    place_refused = refl;
    totals_of_plan = refl;
    rows_of_plan = refl;
    totals_of_greedy = refl;
    row_of_greedy = refl;
    order_taken = refl;
    set_of_row_one = refl;
    set_of_row_two = refl;
    nodes_of_rows_of_a = refl;
    nodes_of_rows_of_each_kind = refl;
    nodes_of_two_families = refl;
    scratch_of_none = refl;
    scratch_of_three = refl;
    scratch_of_four = refl;
    scratch_of_most = refl;
    scratch_of_server = refl;
    scratch_of_siblings = refl;
    scratch_of_chain = refl;
    scratch_of_deep_chain = refl;
    plan_passes = refl;
    plan_scratch_short = refl;
    plan_totals_short = refl;
    plan_rows_short = refl;
    plan_file_first = refl;
    greedy_passes = refl;
    greedy_scratch_short = refl;
    greedy_totals_short = refl;
    greedy_nodes_short = refl;
    greedy_file_first = refl;
    report_passes = refl;
    report_scratch_short = refl;
    report_totals_short = refl;
    report_greedy_totals_short = refl;
    report_plan_short = refl;
    report_greedy_short = refl;
    report_file_first = refl;
    check_of_accepted = refl;
    check_of_refused = refl;
    code_of_none = refl;
    code_of_nine = refl;
    code_of_first = refl;
    code_of_second = refl;
    code_of_equal = refl;
    code_of_lower = refl;
    code_of_upper = refl;
    code_of_empty = refl;
    code_of_no_cache = refl;
    code_of_first_over = refl;
    code_of_second_over = refl;
    code_of_file_first = refl;
    words_of_a = refl;
    words_of_refused = refl;
    host_bill_passes = refl;
    host_total_short = refl;
    host_servings_short = refl;
    host_loads_short = refl;
    host_set_first = refl;
    host_file_first = refl;
  };
  statements = record {
    bill_settled = λ c. (c.answers, c.servings_after, c.loads_after);
    bill_of_second = λ c. (c.answers, c.servings_after, c.loads_after);
    host_bill_of_second = host_bill_settled_lem;
    plan_of_second = λ c. let s = plan_settled_lem c in (s.0, s.1.0, s.1.1, s.2, s.3);
    greedy_of_second = λ c. let s = greedy_settled_lem c in (s.0, s.1.0, s.1.1, s.2, s.3);
    report_of_second = λ c. let s = report_settled_lem c in (s.0, s.1.0, s.1.1, s.2, s.3, s.4, s.5, c.demand_three s.0);
    bill_of_closed = λ c. (c.answers, c.servings_after, c.loads_after);
    host_bill_of_closed = host_bill_settled_lem;
    plan_of_third = λ c. let s = plan_settled_lem c in (s.0, s.1.0, s.1.1, s.2, s.3);
    greedy_of_third = λ c. let s = greedy_settled_lem c in (s.0, s.1.0, s.1.1, s.2, s.3);
    report_of_third = λ c. let s = report_settled_lem c in (s.0, s.1.0, s.1.1, s.2, s.3, s.4, s.5, c.demand_three s.0);
    bill_refused = λ c. (c.answers, c.servings_after, c.loads_after);
    host_bill_settled = host_bill_settled_lem;
    host_bill_refused = host_bill_settled_lem;
    plan_settled = λ c. let s = plan_settled_lem c in (s.0, s.1.0, s.1.1, s.2, s.3);
    plan_refused = plan_settled_lem;
    greedy_settled = λ c. let s = greedy_settled_lem c in (s.0, s.1.0, s.1.1, s.2, s.3);
    greedy_refused = greedy_settled_lem;
    report_refused = report_settled_lem;
    report_settled = λ c. let s = report_settled_lem c in (s.0, s.1.0, s.1.1, s.2, s.3, s.4, s.5, c.demand_three s.0);
  };
  program = record {
    report_of_a = refl;
    report_of_chain = refl;
    refusal_of_length = refl;
    report_of_second_a = refl;
    refusal_of_cachable = refl;
    report_of_third_a = refl;
    refusal_of_open = refl;
    former_passes = refl;
    former_look_over = refl;
    former_look_within = refl;
    former_text_over = refl;
    former_text_within = refl;
    second_passes = refl;
    second_look_over = refl;
    second_look_within = refl;
    look_over = refl;
    look_within = refl;
    text_over = refl;
    nodes_within = refl;
    nodes_within_in_second = refl;
    nodes_within_in_third = refl;
    nodes_beyond = refl;
    height_within = refl;
    height_beyond = refl;
    budget_beyond = refl;
    eleven_before_nodes = refl;
    eleven_beyond = refl;
    seventeen_beyond = refl;
    twenty_four_beyond = refl;
    height_within_in_second = refl;
    height_beyond_in_second = refl;
    budget_beyond_in_second = refl;
    budget_beyond_in_third = refl;
    twenty_four_before_fifteen = refl;
    seventeen_before_fifteen = refl;
    eleven_first = refl;
  };
}
