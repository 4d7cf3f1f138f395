-- The worked cases of the least totals with a node and without it hold.
use mathlib.Core.Path.{◌≡◌, refl}
use mathlib.Core.Bool.{false, ◌&&◌}
use mathlib.Core.List.{List}
use Prim.Native.Nat.{ℕ, zero, suc}
use native.Mathlib.Omega.{arith}
use lib.Dec.{leb, ltb}
use borrow.Author.Tests.{le-leb, le-ltb}
use Rattle.laws.specs.Lists.{range, sum, least, has, those, how_many, same}
use Rattle.model.specs.File.{number, has_ratios, has_open_bytes, record_length, field_of, open_of, share_of}
use Rattle.model.specs.Bytes.{bytes_of, header_bytes, record_of}
use Rattle.model.specs.Tree.{climb, route, at_or_below, nodes_of_row, depth, distance}
use Rattle.model.specs.Rules.{Verdict, parent_holds, length_holds, record_verdict, records_verdict, marked, file_verdict, scratch_words}
use Rattle.model.specs.Bill.{price, cost, total}
use Rattle.model.specs.Plan.{sets_of}
use Rattle.model.specs.Calls.{after, ScratchAfter}
use Rattle.model.specs.WithOrWithout.{least_of, with_it, without_it, with_or_without_verdict}
use Rattle.model.specs.Hosts.{HostWithOrWithoutMemory, host_with_or_without_verdict, both_totals, HostWithOrWithoutCall}
use Rattle.model.specs.Cases.{chain}
use Rattle.model.specs.Samples.{file_a, largest, too_long, three_sevenths, too_much, third_a, closed_last}
use Rattle.model.specs.WithOrWithoutCases.{WithOrWithoutCases}

-- what a host's call settles
host_settled_lem : {file : List ℕ} {v b : ℕ} {a : Verdict} {memory memory' : HostWithOrWithoutMemory} → HostWithOrWithoutCall file v b memory a memory'
    → let w = host_with_or_without_verdict file v b memory in
    (a ≡ w) × ScratchAfter w (scratch_words file) memory.scratch memory'.scratch × (memory'.totals ≡ after w (both_totals file v b) memory.totals)
host_settled_lem c = rw (← c.verdict) (refl, c.scratch_after, c.totals_after)

-- no node is from 1 to 0
no_node : (v : ℕ) → (leb 1 v && ltb v 1) ≡ false
no_node zero = refl
no_node (suc v) = rw (le-leb 1 (suc v) (omega arith), le-ltb (suc v) 1 (omega arith))

pub with_or_without_cases : WithOrWithoutCases
unfolding file_a largest too_long three_sevenths too_much third_a closed_last chain bytes_of header_bytes record_of range sum least has those how_many same number has_ratios has_open_bytes record_length field_of open_of share_of climb route at_or_below nodes_of_row depth distance parent_holds length_holds record_verdict records_verdict marked file_verdict scratch_words price cost total sets_of least_of with_it without_it with_or_without_verdict host_with_or_without_verdict
with_or_without_cases = record {
  no_budget = refl;
  no_budget_last = refl;
  planned = refl;
  not_planned = refl;
  planned_of_two = refl;
  not_planned_of_two = refl;
  last_node = refl;
  more_than_all = refl;
  largest_totals = refl;
  tie_planned = refl;
  tie_not_planned = refl;
  sevenths = refl;
  closed_node = refl;
  closed_beside = refl;
  closed_beside_of_two = refl;
  closed_last_node = refl;
  only_closed = refl;
  only_open = refl;
  first_node = refl;
  highest_node = refl;
  node_zero = refl;
  node_past = refl;
  node_far_past = refl;
  node_whole = refl;
  budget_whole = refl;
  closed_passes = refl;
  server_alone = λ v b scratch. rw (no_node v);
  budget_above = refl;
  zero_of_zero = refl;
  one_of_zero = refl;
  scratch_at_zero = refl;
  scratch_short = refl;
  scratch_short_at_zero = refl;
  records_first = refl;
  seventeen_first = refl;
  twenty_four_first = refl;
  node_before_scratch = refl;
  budget_before_scratch = refl;
  host_passes = refl;
  host_totals_short = refl;
  host_totals_short_at_zero = refl;
  host_scratch_first = refl;
  host_node_first = refl;
  host_budget_first = refl;
  host_file_first = refl;
  host_code = refl;
  settled = λ c. (c.answers, c.scratch_after.0, c.scratch_after.1);
  settled_none = λ c. (c.answers, c.scratch_after.0, c.scratch_after.1);
  settled_refused = λ c. (c.answers, c.scratch_after);
  settled_record = λ c. (c.answers, c.scratch_after);
  settled_short = λ c. (c.answers, c.scratch_after);
  host_settled = λ c. let s = host_settled_lem c in (s.0, s.1.0, s.1.1, s.2);
  host_settled_largest = λ c. let s = host_settled_lem c in (s.0, s.2);
  host_settled_none = λ c. let s = host_settled_lem c in (s.0, s.2);
  host_settled_closed = λ c. let s = host_settled_lem c in (s.0, s.2);
  host_settled_refused = host_settled_lem;
}
