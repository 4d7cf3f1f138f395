-- The worked cases of the least budget for a target hold.
use mathlib.Core.Path.{refl}
use Rattle.laws.specs.Lists.{range, sum, least, has, those, how_many, same}
use Rattle.model.specs.File.{number, has_ratios, has_open_bytes, record_length, field_of, open_of, share_of}
use Rattle.model.specs.Bytes.{bytes_of, header_bytes, record_of}
use Rattle.model.specs.Tree.{climb, route, at_or_below, nodes_of_row, depth, distance}
use Rattle.model.specs.Rules.{parent_holds, length_holds, record_verdict, records_verdict, marked, file_verdict, scratch_words}
use Rattle.model.specs.Bill.{price, cost, total}
use Rattle.model.specs.Ties.{smaller_first, members, visits, ties_before, ranks_before}
use Rattle.model.specs.Plan.{sets_of, first_of, plan}
use Rattle.model.specs.LeastBudget.{first_within, least_budget, least_budget_verdict}
use Rattle.model.specs.Hosts.{host_least_budget_verdict}
use Rattle.model.specs.Cases.{chain}
use Rattle.model.specs.Samples.{file_a, largest, too_long, three_sevenths, too_much, third_a}
use Rattle.model.specs.LeastBudgetCases.{LeastBudgetCases}

pub least_budget_cases : LeastBudgetCases
unfolding file_a largest too_long three_sevenths too_much third_a chain bytes_of header_bytes record_of range sum least has those how_many same number has_ratios has_open_bytes record_length field_of open_of share_of climb route at_or_below nodes_of_row depth distance parent_holds length_holds record_verdict records_verdict marked file_verdict scratch_words price cost total smaller_first members visits ties_before ranks_before sets_of first_of plan first_within least_budget least_budget_verdict host_least_budget_verdict
least_budget_cases = record {
  at_first = refl;
  above_first = refl;
  below_first = refl;
  at_second = refl;
  above_second = refl;
  below_second = refl;
  at_last = refl;
  above_last = refl;
  below_last = refl;
  zero_target = refl;
  largest_target = refl;
  zero_budget = refl;
  zero_budget_none = refl;
  one_budget_none = refl;
  three_of_thirty_two = refl;
  server_alone = refl;
  zero_length = refl;
  lower_in_row = refl;
  largest_below = refl;
  sevenths = refl;
  sevenths_none = refl;
  closed_second = refl;
  closed_third = refl;
  only_closed = refl;
  only_open = refl;
  passes = refl;
  scratch_short = refl;
  row_short = refl;
  scratch_first = refl;
  no_entries_for_zero = refl;
  entries_for_thirty_two = refl;
  entries_below_thirty_two = refl;
  records_first = refl;
  seventeen_first = refl;
  twenty_four_first = refl;
  host_passes = refl;
  host_budget_short = refl;
  host_row_short = refl;
  host_scratch_first = refl;
  host_file_first = refl;
  settled = λ c. (c.answers, c.scratch_after.0, c.scratch_after.1, c.row_after);
  settled_empty = λ c. (c.answers, c.row_after);
  settled_whole = λ c. (c.answers, c.row_after);
  settled_none = λ c. (c.answers, c.scratch_after.0, c.scratch_after.1, c.row_after);
  settled_short = λ c. (c.answers, c.scratch_after, c.row_after);
  settled_row_short = λ c. (c.answers, c.scratch_after, c.row_after);
  settled_none_short = λ c. (c.answers, c.row_after);
  settled_refused = λ c. (c.answers, c.scratch_after, c.row_after);
  settled_zeros = λ c. (c.answers, c.scratch_after.1, c.row_after);
  settled_second = λ c. (c.answers, c.row_after);
  settled_third = λ c. (c.answers, c.row_after);
  host_settled_zeros = λ c. (c.answers, c.budget_after, c.row_after);
  host_settled_empty = λ c. (c.answers, c.budget_after, c.row_after);
  host_seventeen = λ c. c.answers;
  host_twenty_four = λ c. c.answers;
  host_settled = λ c. (c.answers, c.scratch_after.1, c.budget_after, c.row_after);
  host_settled_none = λ c. (c.answers, c.scratch_after.1, c.budget_after, c.row_after);
  host_settled_short = λ c. (c.answers, c.budget_after, c.row_after);
  host_settled_refused = λ c. (c.answers, c.scratch_after, c.budget_after, c.row_after);
}
