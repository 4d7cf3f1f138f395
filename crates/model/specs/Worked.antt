-- Document 01's worked cases that it does not mark *, and its numbers from elsewhere, with those of 02, items 2, 3, 4, 6 and 9: each
-- on a file written out byte by byte (`Samples`) or on 01's chain of length 0 (`Cases`), with the answer that the documents give.
-- `VersionCases` has those of versions 2 and 3.
use Rattle.std.specs.Prelude.{◌≡◌, List, [], ◌∷◌, ◌++◌, map, ℕ, length, take, drop, replicate}
use Rattle.model.specs.File.{field_table, tree_of, demand_of}
use Rattle.model.specs.Tree.{nodes, sites, nodes_of_row}
use Rattle.model.specs.Rules.{Verdict, passed, broken, file_verdict, scratch_words}
use Rattle.model.specs.Bill.{total_limit, cost, total}
use Rattle.model.specs.Calls.{Answer, answered, refused, after, check_number, record_bytes, bill_verdict, serving_nodes, link_loads, BillMemory, BillCall, first, second, ranking, winner, plan_totals, plan_rows, PlanMemory, plan_verdict, PlanCall, greedy_totals, greedy_row, GreedyMemory, greedy_verdict, GreedyCall}
use Rattle.model.specs.Report.{set_of_row, ReportMemory, DemandThree, report_verdict, ReportCall, verdict_within, text_within, program_verdict, program_text}
use Rattle.model.specs.Hosts.{code_of, words_asked, record_place, rank_code, HostBillMemory, host_bill_verdict, HostBillCall}
use Rattle.model.specs.Cases.{tree_a, chain}
use Rattle.model.specs.Samples.{file_a, two_families, unit_tree, header, ten_bytes, server_record, one_node, two_nodes, chained, largest, too_long, each_kind, second_a, second_header, second_chained, three_sevenths, too_much, second_each_kind, third_a, third_header, last_byte, bill_memory, host_bill_memory, plan_memory, greedy_memory, report_memory}
use Rattle.model.specs.VersionCases.{SecondCases, ThirdCases}
use Rattle.model.specs.Situations.{Situation, no_cache, nothing, everything, partly, first_situation, cost_in, paper_cost, situation}

-- ---- questions 1 to 11

pub record FileCases : Type 0 where
  -- "one table gives each its offset, width and largest value": parent, length, flow, hit, cachable bytes, last byte
  pub offsets : map (λ f. f.offset) field_table ≡ 0 ∷ 2 ∷ 4 ∷ 8 ∷ 8 ∷ 12 ∷ []
  pub widths : map (λ f. f.width) field_table ≡ 2 ∷ 2 ∷ 4 ∷ 2 ∷ 4 ∷ 1 ∷ []
  pub mosts : map (λ f. f.most) field_table ≡ 1023 ∷ 1000 ∷ 100_000_000 ∷ 1000 ∷ 100_000_000 ∷ 1 ∷ []
  -- the bytes of tree A as the starred cases have them
  pub bytes_of_a : tree_a 20 1000 5 800 ≡ file_a
  pub file_a_passes : file_verdict file_a ≡ passed
  -- "8 bytes: 1"
  pub eight_bytes : file_verdict (take 8 file_a) ≡ broken 1 0
  pub nine_bytes : file_verdict (take 9 file_a) ≡ broken 6 0
  -- the mark is 4B 54 52
  pub mark_first : file_verdict (0x4A ∷ drop 1 file_a) ≡ broken 2 0
  pub mark_second : file_verdict (0x4B ∷ 0x53 ∷ drop 2 file_a) ≡ broken 2 0
  pub mark_third : file_verdict (0x4B ∷ 0x54 ∷ 0x51 ∷ drop 3 file_a) ≡ broken 2 0
  -- versions 0, 4 and 257
  pub version_none : file_verdict (0x4B ∷ 0x54 ∷ 0x52 ∷ 0x00 ∷ 0x00 ∷ drop 5 file_a) ≡ broken 3 0
  pub version_four : file_verdict (0x4B ∷ 0x54 ∷ 0x52 ∷ 0x00 ∷ 0x04 ∷ drop 5 file_a) ≡ broken 3 0
  pub version_high : file_verdict (0x4B ∷ 0x54 ∷ 0x52 ∷ 0x01 ∷ 0x01 ∷ drop 5 file_a) ≡ broken 3 0
  -- "n 0: 4; n 1,024 passes, 1,025: 4. k 33: 5": on nine bytes, where a file that passes 4 and 5 gets 6
  pub no_nodes : file_verdict (header 0x00 0x00 0x00 0x00) ≡ broken 4 0
  pub most_nodes_and_budget : file_verdict (header 0x04 0x00 0x00 0x20) ≡ broken 6 0
  pub nodes_over : file_verdict (header 0x04 0x01 0x00 0x00) ≡ broken 4 0
  pub budget_over : file_verdict (header 0x00 0x01 0x00 0x21) ≡ broken 5 0
  pub budget_high : file_verdict (header 0x00 0x01 0x01 0x00) ≡ broken 5 0
  -- "One byte too many: 6", and one byte too few
  pub byte_over : file_verdict (file_a ++ (0x00 ∷ [])) ≡ broken 6 0
  pub byte_under : file_verdict (take 58 file_a) ≡ broken 6 0
  -- "in this order": the first question that gets a "no"
  pub one_first : file_verdict (replicate 8 0x00) ≡ broken 1 0
  pub two_first : file_verdict (replicate 9 0x00) ≡ broken 2 0
  pub three_first : file_verdict (0x4B ∷ 0x54 ∷ 0x52 ∷ replicate 6 0x00) ≡ broken 3 0
  pub four_first : file_verdict (header 0x00 0x00 0x00 0x21) ≡ broken 4 0
  pub six_first : file_verdict (too_long ++ (0x00 ∷ [])) ≡ broken 6 0
  -- "Parent i at node i, i from 1 on: 7"; parent 256 at node 1; a parent that comes earlier, but is no ancestor of node i − 1
  pub own_parent : file_verdict (two_nodes (ten_bytes 0x00 0x01 0x00 0x00 0x00 0x00 0x00 0x00 0x00 0x00)) ≡ broken 7 1
  pub parent_high : file_verdict (two_nodes (ten_bytes 0x01 0x00 0x00 0x00 0x00 0x00 0x00 0x00 0x00 0x00)) ≡ broken 7 1
  pub no_ancestor : file_verdict (header 0x00 0x04 0x00 0x01 ++ replicate 30 0x00
      ++ ten_bytes 0x00 0x01 0x00 0x00 0x00 0x00 0x00 0x00 0x00 0x00) ≡ broken 7 3
  -- depth 32 passes; "Depth 33: 8", also where the length is bad
  pub deepest : file_verdict (header 0x00 0x21 0x00 0x01 ++ server_record ++ chained 32) ≡ passed
  pub too_deep : file_verdict (header 0x00 0x22 0x00 0x01 ++ server_record ++ chained 33) ≡ broken 8 33
  pub depth_before_length : file_verdict (header 0x00 0x22 0x00 0x01 ++ server_record ++ chained 32
      ++ ten_bytes 0x00 0x20 0x03 0xE9 0x00 0x00 0x00 0x00 0x00 0x00) ≡ broken 8 33
  pub parent_before_depth : file_verdict (header 0x00 0x22 0x00 0x01 ++ server_record ++ chained 32
      ++ ten_bytes 0x00 0x21 0x00 0x00 0x00 0x00 0x00 0x00 0x00 0x00) ≡ broken 7 33
  -- "Length 1,001: 9. Hit 1,001: 11", and flow 100,000,001: 10
  pub largest_pass : file_verdict largest ≡ passed
  pub length_over : file_verdict too_long ≡ broken 9 1
  pub flow_over : file_verdict (two_nodes (ten_bytes 0x00 0x00 0x03 0xE8 0x05 0xF5 0xE1 0x01 0x03 0xE8)) ≡ broken 10 1
  pub hit_over : file_verdict (two_nodes (ten_bytes 0x00 0x00 0x03 0xE8 0x05 0xF5 0xE1 0x00 0x03 0xE9)) ≡ broken 11 1
  -- "Bad length and bad hit in one record: 9", and the other questions of a record in their order
  pub length_before_hit : file_verdict (two_nodes (ten_bytes 0x00 0x00 0x03 0xE9 0x00 0x00 0x00 0x00 0x03 0xE9)) ≡ broken 9 1
  pub parent_before_length : file_verdict (two_nodes (ten_bytes 0x00 0x01 0x03 0xE9 0x00 0x00 0x00 0x00 0x00 0x00)) ≡ broken 7 1
  pub length_before_flow : file_verdict (two_nodes (ten_bytes 0x00 0x00 0x03 0xE9 0x05 0xF5 0xE1 0x01 0x00 0x00)) ≡ broken 9 1
  pub flow_before_hit : file_verdict (two_nodes (ten_bytes 0x00 0x00 0x00 0x00 0x05 0xF5 0xE1 0x01 0x03 0xE9)) ≡ broken 10 1
  -- "each through 7 to 11 before the next"
  pub node_by_node : file_verdict (header 0x00 0x03 0x00 0x01 ++ server_record
      ++ ten_bytes 0x00 0x00 0x00 0x00 0x00 0x00 0x00 0x00 0x03 0xE9
      ++ ten_bytes 0x00 0x02 0x00 0x00 0x00 0x00 0x00 0x00 0x00 0x00) ≡ broken 11 1
  -- node 0: parent and length are 0, flow and hit as anywhere
  pub server_parent : file_verdict (one_node (ten_bytes 0x00 0x01 0x00 0x00 0x00 0x00 0x00 0x00 0x00 0x00)) ≡ broken 7 0
  pub server_length : file_verdict (one_node (ten_bytes 0x00 0x00 0x00 0x01 0x00 0x00 0x00 0x00 0x00 0x00)) ≡ broken 9 0
  pub server_client : file_verdict (one_node (ten_bytes 0x00 0x00 0x00 0x00 0x05 0xF5 0xE1 0x00 0x03 0xE8)) ≡ passed
  pub server_flow : file_verdict (one_node (ten_bytes 0x00 0x00 0x00 0x00 0x05 0xF5 0xE1 0x01 0x00 0x00)) ≡ broken 10 0
  pub server_hit : file_verdict (one_node (ten_bytes 0x00 0x00 0x00 0x00 0x00 0x00 0x00 0x00 0x03 0xE9)) ≡ broken 11 0

-- ---- 02, item 4: the situation of each node's client, and its cost

abbrev pub situations_of : List ℕ → List ℕ → List Situation
situations_of s k = map (situation (tree_of s) (demand_of s) k) (nodes (tree_of s))

abbrev pub costs_of : List ℕ → List ℕ → List ℕ
costs_of s k = map (cost (tree_of s) (demand_of s) k) (nodes (tree_of s))

pub record SituationCases : Type 0 where
  pub each_kind_passes : file_verdict each_kind ≡ passed
  -- without a cache; with one at node 1, whose own client has flow 0; with caches at nodes 2 and 5 themselves
  pub of_none : situations_of each_kind [] ≡ replicate 8 no_cache
  pub of_one : situations_of each_kind (1 ∷ []) ≡ no_cache ∷ nothing ∷ nothing ∷ partly ∷ partly ∷ everything ∷ nothing ∷ no_cache ∷ []
  pub of_two : situations_of each_kind (2 ∷ 5 ∷ [])
      ≡ no_cache ∷ no_cache ∷ nothing ∷ no_cache ∷ no_cache ∷ everything ∷ no_cache ∷ no_cache ∷ []
  pub costs_of_none : costs_of each_kind [] ≡ 0 ∷ 0 ∷ 60000 ∷ 60000 ∷ 60000 ∷ 60000 ∷ 0 ∷ 20000 ∷ []
  pub costs_of_one : costs_of each_kind (1 ∷ []) ≡ 0 ∷ 0 ∷ 60000 ∷ 59960 ∷ 20040 ∷ 20000 ∷ 0 ∷ 20000 ∷ []
  pub costs_of_two : costs_of each_kind (2 ∷ 5 ∷ []) ≡ 0 ∷ 0 ∷ 60000 ∷ 60000 ∷ 60000 ∷ 0 ∷ 0 ∷ 20000 ∷ []
  -- in version 2
  pub second_passes : file_verdict second_each_kind ≡ passed
  pub second_of_none : situations_of second_each_kind [] ≡ replicate 8 no_cache
  pub second_of_one : situations_of second_each_kind (1 ∷ [])
      ≡ no_cache ∷ nothing ∷ nothing ∷ partly ∷ partly ∷ everything ∷ nothing ∷ no_cache ∷ []
  pub second_of_two : situations_of second_each_kind (2 ∷ 5 ∷ [])
      ≡ no_cache ∷ no_cache ∷ nothing ∷ no_cache ∷ no_cache ∷ everything ∷ no_cache ∷ no_cache ∷ []
  pub second_costs : costs_of second_each_kind (1 ∷ []) ≡ 0 ∷ 0 ∷ 60000 ∷ 58000 ∷ 22000 ∷ 20000 ∷ 0 ∷ 20000 ∷ []
  -- a cache on a link of length 0, at no distance from the server, is a cache
  pub length_zero : situations_of (two_nodes (ten_bytes 0x00 0x00 0x00 0x00 0x00 0x00 0x00 0x14 0x03 0xE8)) (1 ∷ []) ≡ no_cache ∷ everything ∷ []
  -- the first that holds, of any numbers: all is 7 or 0, the cachable part 0, 3, 7 or 8, the serving node 0 or 2
  pub first_none : first_situation 7 3 0 ≡ no_cache
  pub first_of_nothing : first_situation 7 0 2 ≡ nothing
  pub first_of_no_flow : first_situation 0 0 2 ≡ nothing
  pub first_of_everything : first_situation 7 7 2 ≡ everything
  pub first_of_part : first_situation 7 3 2 ≡ partly
  pub first_of_more : first_situation 7 8 2 ≡ partly
  -- what each costs: all is 7, the cachable part 3, the client at distance 5 and its serving node at 2
  pub no_cache_of : cost_in no_cache 7 3 5 2 ≡ 35
  pub nothing_of : cost_in nothing 7 3 5 2 ≡ 35
  pub everything_of : cost_in everything 7 3 5 2 ≡ 21
  pub partly_of : cost_in partly 7 3 5 2 ≡ 29
  pub paper_of : paper_cost 7 3 3 2 ≡ 29

-- ---- the calls

-- r(1), r(2), .. of a file's tree
abbrev pub nodes_of_rows : List ℕ → List ℕ
nodes_of_rows s = map (nodes_of_row (tree_of s)) (sites (tree_of s))

pub record CallCases : Type 0 where
  -- 100,000,000 × 1,000 × 1,000; all of it is saved by a cache with hit 1,000
  pub largest_total : total (tree_of largest) (demand_of largest) [] ≡ 100_000_000_000_000
  pub largest_saved : total (tree_of largest) (demand_of largest) (1 ∷ []) ≡ 0
  -- "below 2^62"
  pub totals_below : total_limit ≡ 4_611_686_018_427_387_904
  -- 12: a set is strictly ascending, each from 1 to n − 1
  pub set_passes : bill_verdict file_a (1 ∷ 4 ∷ []) (bill_memory 5 5) ≡ passed
  pub set_over : bill_verdict file_a (5 ∷ []) (bill_memory 5 5) ≡ broken 12 0
  pub set_of_server : bill_verdict file_a (0 ∷ []) (bill_memory 5 5) ≡ broken 12 0
  pub set_twice : bill_verdict file_a (1 ∷ 1 ∷ []) (bill_memory 5 5) ≡ broken 12 0
  pub set_descends : bill_verdict file_a (2 ∷ 1 ∷ []) (bill_memory 5 5) ≡ broken 12 0
  -- 14: n entries each; the order of 1 to 11, 12 and 14
  pub servings_short : bill_verdict file_a (1 ∷ []) (bill_memory 4 5) ≡ broken 14 0
  pub loads_short : bill_verdict file_a (1 ∷ []) (bill_memory 5 4) ≡ broken 14 0
  pub set_before_buffers : bill_verdict file_a (5 ∷ []) (bill_memory 0 0) ≡ broken 12 0
  pub file_before_set : bill_verdict too_long (5 ∷ []) (bill_memory 0 0) ≡ broken 9 1
  -- what the bill of {1} and of {2, 4} writes
  pub servings_of_one : serving_nodes file_a (1 ∷ []) ≡ 0 ∷ 1 ∷ 1 ∷ 1 ∷ 0 ∷ []
  pub servings_of_two : serving_nodes file_a (2 ∷ 4 ∷ []) ≡ 0 ∷ 0 ∷ 2 ∷ 0 ∷ 4 ∷ []
  pub loads_of_two : link_loads file_a (2 ∷ 4 ∷ []) ≡ 0 ∷ 20000 ∷ 0 ∷ 20000 ∷ 1000 ∷ []
  -- a link of length 0 has its load too
  pub load_on_length_zero : link_loads (two_nodes (ten_bytes 0x00 0x00 0x00 0x00 0x00 0x00 0x00 0x04 0x03 0xE8)) [] ≡ 0 ∷ 4000 ∷ []
  -- "Entries beyond those written stay"; a refusal writes nothing
  pub entries_stay : after passed (1 ∷ 2 ∷ []) (7 ∷ 8 ∷ 9 ∷ []) ≡ 1 ∷ 2 ∷ 9 ∷ []
  pub refusal_keeps : after (broken 14 0) (1 ∷ 2 ∷ []) (7 ∷ []) ≡ 7 ∷ []
  -- two sets ranked: by total, then order of ties; equal sets: first
  pub less_is_first : ranking file_a (2 ∷ 3 ∷ []) (1 ∷ 2 ∷ []) ≡ answered first
  pub less_is_second : ranking file_a (1 ∷ 2 ∷ []) (2 ∷ 3 ∷ []) ≡ answered second
  pub tie_is_first : ranking file_a (2 ∷ []) (3 ∷ []) ≡ answered first
  pub tie_is_second : ranking file_a (3 ∷ []) (2 ∷ []) ≡ answered second
  pub equal_is_first : ranking file_a (2 ∷ []) (2 ∷ []) ≡ answered first
  pub first_set_over : ranking file_a (5 ∷ []) (1 ∷ []) ≡ refused 12 0
  pub second_set_over : ranking file_a (1 ∷ []) (5 ∷ []) ≡ refused 12 0
  pub ranked_file_refused : ranking too_long (5 ∷ []) [] ≡ refused 9 1
  -- 02, item 6: of two sites the lower, though not before fewest nodes; "Greedy keeps the smallest number"
  pub lower_is_first : ranking chain (2 ∷ []) (1 ∷ []) ≡ answered first
  pub lower_is_second : ranking chain (1 ∷ []) (2 ∷ []) ≡ answered second
  pub fewest_is_first : ranking chain (1 ∷ []) (1 ∷ 2 ∷ []) ≡ answered first
  pub winner_is_lower : winner chain (1 ∷ []) (2 ∷ []) ≡ 2 ∷ []
  pub lower_planned : plan_rows chain ≡ 0 ∷ 2 ∷ []
  pub upper_taken : greedy_row chain ≡ 1 ∷ []
  -- {2, 4} lacks node 1, and {1, 3} has it; by the members at or below each node alone {1, 3} would come first, at node 3
  pub unit_passes : file_verdict unit_tree ≡ passed
  pub lacking_is_first : ranking unit_tree (2 ∷ 4 ∷ []) (1 ∷ 3 ∷ []) ≡ answered first
  pub lacking_is_second : ranking unit_tree (1 ∷ 3 ∷ []) (2 ∷ 4 ∷ []) ≡ answered second
  pub lower_of_two : ranking unit_tree (1 ∷ 2 ∷ []) (1 ∷ 3 ∷ []) ≡ answered second
  pub totals_of_unit : plan_totals unit_tree ≡ 8000 ∷ 4000 ∷ 2000 ∷ []
  pub lower_two_planned : plan_rows unit_tree ≡ 0 ∷ 0 ∷ 2 ∷ 0 ∷ 2 ∷ 4 ∷ []
  pub upper_two_taken : greedy_row unit_tree ≡ 1 ∷ 2 ∷ []
  -- a deeper node on another route is not the lower of two sites
  pub deeper_not_first : ranking two_families (1 ∷ []) (4 ∷ []) ≡ answered first
  pub winner_is_first : winner file_a (2 ∷ 3 ∷ []) (1 ∷ 2 ∷ []) ≡ 2 ∷ 3 ∷ []
  pub winner_is_second : winner file_a (1 ∷ 2 ∷ []) (2 ∷ 3 ∷ []) ≡ 2 ∷ 3 ∷ []
  pub no_winner : winner file_a (1 ∷ []) (5 ∷ []) ≡ []
  -- the record of a node: "ten bytes", "empty if the file is refused or the node is not below n"
  pub last_record : record_bytes file_a 4 ≡ 0x00 ∷ 0x00 ∷ 0x00 ∷ 0x04 ∷ 0x00 ∷ 0x00 ∷ 0x00 ∷ 0x05 ∷ 0x03 ∷ 0x20 ∷ []
  pub record_past : record_bytes file_a 5 ≡ []
  pub record_refused : record_bytes too_long 0 ≡ []
  -- where a host finds it, after 9 bytes of header and ten for each node before it; 0 for none
  pub place_of_server : record_place file_a 0 ≡ 9
  pub place_of_two : record_place file_a 2 ≡ 29
  pub last_place : record_place file_a 4 ≡ 49
  pub place_past : record_place file_a 5 ≡ 0
  pub place_refused : record_place too_long 0 ≡ 0
  -- what the plan and the greedy rule write: row b of a table of rows is the set of budget b
  pub totals_of_plan : plan_totals file_a ≡ 140000 ∷ 60000 ∷ 20000 ∷ []
  pub rows_of_plan : plan_rows file_a ≡ 0 ∷ 0 ∷ 1 ∷ 0 ∷ 2 ∷ 3 ∷ []
  pub totals_of_greedy : greedy_totals file_a ≡ 140000 ∷ 60000 ∷ 40000 ∷ []
  pub row_of_greedy : greedy_row file_a ≡ 1 ∷ 2 ∷ []
  -- "k nodes in order taken": nodes 1 and 2 under the server at length 3, with flow 4 and flow 5
  pub order_taken : greedy_row (header 0x00 0x03 0x00 0x02 ++ server_record
      ++ ten_bytes 0x00 0x00 0x00 0x03 0x00 0x00 0x00 0x04 0x03 0xE8
      ++ ten_bytes 0x00 0x00 0x00 0x03 0x00 0x00 0x00 0x05 0x03 0xE8) ≡ 2 ∷ 1 ∷ []
  pub set_of_row_one : set_of_row 2 (0 ∷ 0 ∷ 1 ∷ 0 ∷ 2 ∷ 3 ∷ []) 1 ≡ 1 ∷ []
  pub set_of_row_two : set_of_row 2 (0 ∷ 0 ∷ 1 ∷ 0 ∷ 2 ∷ 3 ∷ []) 2 ≡ 2 ∷ 3 ∷ []
  -- 02, item 3: how many nodes are at or below each node and its later siblings
  pub nodes_of_rows_of_a : nodes_of_rows file_a ≡ 4 ∷ 2 ∷ 1 ∷ 1 ∷ []
  pub nodes_of_rows_of_each_kind : nodes_of_rows each_kind ≡ 7 ∷ 5 ∷ 4 ∷ 3 ∷ 2 ∷ 1 ∷ 1 ∷ []
  -- what is below a later sibling counts, a cousin does not
  pub nodes_of_two_families : nodes_of_rows two_families ≡ 4 ∷ 1 ∷ 2 ∷ 1 ∷ []
  -- tree A with another k: with k 0 each line has one entry, and from k 4 on no line grows
  pub scratch_of_none : scratch_words (take 8 file_a ++ (0x00 ∷ drop 9 file_a)) ≡ 26
  pub scratch_of_three : scratch_words (take 8 file_a ++ (0x03 ∷ drop 9 file_a)) ≡ 36
  pub scratch_of_four : scratch_words (take 8 file_a ++ (0x04 ∷ drop 9 file_a)) ≡ 37
  pub scratch_of_most : scratch_words (take 8 file_a ++ (0x20 ∷ drop 9 file_a)) ≡ 37
  -- the server alone; siblings; 9 nodes, each below the one before it, with k 1: 2 × (1 + .. + 8) + 4 × 9, and with k 32:
  -- 1 × 9 + 2 × 8 + .. + 8 × 2 + 4 × 9
  pub scratch_of_server : scratch_words (one_node server_record) ≡ 4
  pub scratch_of_siblings : scratch_words (header 0x00 0x04 0x00 0x03 ++ replicate 40 0x00) ≡ 25
  pub scratch_of_chain : scratch_words (header 0x00 0x09 0x00 0x01 ++ server_record ++ chained 8) ≡ 108
  pub scratch_of_deep_chain : scratch_words (header 0x00 0x09 0x00 0x20 ++ server_record ++ chained 8) ≡ 192
  -- "For tree A 35 words now pass and 34 give 13": depths 1, 2, 2 and 1, k 2, so 1 × 3 + 2 × 3 + 2 × 2 + 1 × 2 + 4 × 5
  pub plan_passes : plan_verdict file_a (plan_memory 35 3 6) ≡ passed
  pub plan_scratch_short : plan_verdict file_a (plan_memory 34 0 0) ≡ broken 13 0
  pub plan_totals_short : plan_verdict file_a (plan_memory 35 2 6) ≡ broken 14 0
  pub plan_rows_short : plan_verdict file_a (plan_memory 35 3 5) ≡ broken 14 0
  pub plan_file_first : plan_verdict too_long (plan_memory 0 0 0) ≡ broken 9 1
  pub greedy_passes : greedy_verdict file_a (greedy_memory 35 3 2) ≡ passed
  pub greedy_scratch_short : greedy_verdict file_a (greedy_memory 34 0 0) ≡ broken 13 0
  pub greedy_totals_short : greedy_verdict file_a (greedy_memory 35 2 2) ≡ broken 14 0
  pub greedy_nodes_short : greedy_verdict file_a (greedy_memory 35 3 1) ≡ broken 14 0
  pub greedy_file_first : greedy_verdict too_long (greedy_memory 0 0 0) ≡ broken 9 1
  pub report_passes : report_verdict file_a (report_memory 35 3 6 3 2) ≡ passed
  pub report_scratch_short : report_verdict file_a (report_memory 34 0 0 0 0) ≡ broken 13 0
  pub report_totals_short : report_verdict file_a (report_memory 35 2 6 3 2) ≡ broken 14 0
  pub report_greedy_totals_short : report_verdict file_a (report_memory 35 3 6 2 2) ≡ broken 14 0
  pub report_plan_short : report_verdict file_a (report_memory 35 3 5 3 2) ≡ broken 14 0
  pub report_greedy_short : report_verdict file_a (report_memory 35 3 6 3 1) ≡ broken 14 0
  pub report_file_first : report_verdict too_long (report_memory 0 0 0 0 0) ≡ broken 9 1
  -- "A C host passes a file's bytes and gets 0 or the number"; a code is record × 256 + number
  pub check_of_accepted : check_number file_a ≡ 0
  pub check_of_refused : check_number too_long ≡ 9
  pub code_of_none : code_of (file_verdict file_a) ≡ 0
  pub code_of_nine : code_of (file_verdict too_long) ≡ 265
  -- which of two sets ranks first, as one number: by total, equal sets, by the order of ties; a refusal's is its code
  pub code_of_first : rank_code (ranking file_a (2 ∷ 3 ∷ []) (1 ∷ 2 ∷ [])) ≡ 253
  pub code_of_second : rank_code (ranking file_a (1 ∷ 2 ∷ []) (2 ∷ 3 ∷ [])) ≡ 254
  pub code_of_equal : rank_code (ranking file_a (2 ∷ []) (2 ∷ [])) ≡ 253
  pub code_of_lower : rank_code (ranking chain (2 ∷ []) (1 ∷ [])) ≡ 253
  pub code_of_upper : rank_code (ranking chain (1 ∷ []) (2 ∷ [])) ≡ 254
  pub code_of_empty : rank_code (ranking two_families [] (1 ∷ [])) ≡ 253
  pub code_of_no_cache : rank_code (ranking file_a [] (4 ∷ [])) ≡ 254
  pub code_of_first_over : rank_code (ranking file_a (5 ∷ []) (1 ∷ [])) ≡ 12
  pub code_of_second_over : rank_code (ranking file_a (1 ∷ []) (5 ∷ [])) ≡ 12
  pub code_of_file_first : rank_code (ranking too_long (5 ∷ []) []) ≡ 265
  pub words_of_a : words_asked file_a ≡ 35
  pub words_of_refused : words_asked too_long ≡ 0
  -- a host's bill: the buffer of the total has one entry
  pub host_bill_passes : host_bill_verdict file_a (1 ∷ []) (host_bill_memory 1 5 5) ≡ passed
  pub host_total_short : host_bill_verdict file_a (1 ∷ []) (host_bill_memory 0 5 5) ≡ broken 14 0
  pub host_servings_short : host_bill_verdict file_a (1 ∷ []) (host_bill_memory 1 4 5) ≡ broken 14 0
  pub host_loads_short : host_bill_verdict file_a (1 ∷ []) (host_bill_memory 1 5 4) ≡ broken 14 0
  pub host_set_first : host_bill_verdict file_a (5 ∷ []) (host_bill_memory 0 0 0) ≡ broken 12 0
  pub host_file_first : host_bill_verdict too_long (5 ∷ []) (host_bill_memory 0 0 0) ≡ broken 9 1

-- what a call that keeps its statement hands back, however it works: the 7s beyond what it writes stay, a refusal keeps all
pub record StatementCases : Type 0 where
  pub bill_settled : {a : Answer ℕ} {memory' : BillMemory} → BillCall file_a (1 ∷ []) (bill_memory 6 6) a memory'
      → (a ≡ answered 60000)
      × (memory'.servings ≡ 0 ∷ 1 ∷ 1 ∷ 1 ∷ 0 ∷ 7 ∷ [])
      × (memory'.loads ≡ 0 ∷ 0 ∷ 20000 ∷ 20000 ∷ 5000 ∷ 7 ∷ [])
  -- the same calls on a file of version 2
  pub bill_of_second : {a : Answer ℕ} {memory' : BillMemory} → BillCall three_sevenths (1 ∷ []) (bill_memory 3 3) a memory'
      → (a ≡ answered 12000) × (memory'.servings ≡ 0 ∷ 1 ∷ 7 ∷ []) × (memory'.loads ≡ 0 ∷ 4000 ∷ 7 ∷ [])
  pub host_bill_of_second : {v : Verdict} {memory' : HostBillMemory} → HostBillCall three_sevenths (1 ∷ []) (host_bill_memory 2 3 3) v memory'
      → (v ≡ passed)
      × (memory'.totals ≡ 12000 ∷ 7 ∷ []) × (memory'.servings ≡ 0 ∷ 1 ∷ 7 ∷ []) × (memory'.loads ≡ 0 ∷ 4000 ∷ 7 ∷ [])
  pub plan_of_second : {v : Verdict} {memory' : PlanMemory} → PlanCall three_sevenths (plan_memory 11 3 3) v memory'
      → (v ≡ passed)
      × (length memory'.scratch ≡ 11) × (drop 10 memory'.scratch ≡ 7 ∷ [])
      × (memory'.totals ≡ 21000 ∷ 12000 ∷ 7 ∷ [])
      × (memory'.rows ≡ 0 ∷ 1 ∷ 7 ∷ [])
  pub greedy_of_second : {v : Verdict} {memory' : GreedyMemory} → GreedyCall three_sevenths (greedy_memory 11 3 2) v memory'
      → (v ≡ passed)
      × (length memory'.scratch ≡ 11) × (drop 10 memory'.scratch ≡ 7 ∷ [])
      × (memory'.totals ≡ 21000 ∷ 12000 ∷ 7 ∷ [])
      × (memory'.nodes ≡ 1 ∷ 7 ∷ [])
  pub report_of_second : {v : Verdict} {memory' : ReportMemory} → ReportCall three_sevenths (report_memory 11 3 3 3 2) v memory'
      → (v ≡ passed)
      × (length memory'.scratch ≡ 11) × (drop 10 memory'.scratch ≡ 7 ∷ [])
      × (memory'.plan_totals ≡ 21000 ∷ 12000 ∷ 7 ∷ [])
      × (memory'.plan_rows ≡ 0 ∷ 1 ∷ 7 ∷ [])
      × (memory'.greedy_totals ≡ 21000 ∷ 12000 ∷ 7 ∷ [])
      × (memory'.greedy_nodes ≡ 1 ∷ 7 ∷ [])
      × DemandThree three_sevenths memory'
  -- and on one of version 3, whose node 1 is closed
  pub bill_of_closed : {a : Answer ℕ} {memory memory' : BillMemory} → BillCall third_a (1 ∷ []) memory a memory'
      → (a ≡ refused 12 0) × (memory'.servings ≡ memory.servings) × (memory'.loads ≡ memory.loads)
  pub host_bill_of_closed : {v : Verdict} {memory memory' : HostBillMemory} → HostBillCall third_a (1 ∷ 2 ∷ []) memory v memory'
      → (v ≡ broken 12 0)
      × (memory'.totals ≡ memory.totals) × (memory'.servings ≡ memory.servings) × (memory'.loads ≡ memory.loads)
  pub plan_of_third : {v : Verdict} {memory' : PlanMemory} → PlanCall third_a (plan_memory 36 4 7) v memory'
      → (v ≡ passed)
      × (length memory'.scratch ≡ 36) × (drop 35 memory'.scratch ≡ 7 ∷ [])
      × (memory'.totals ≡ 140000 ∷ 80000 ∷ 20000 ∷ 7 ∷ [])
      × (memory'.rows ≡ 0 ∷ 0 ∷ 2 ∷ 0 ∷ 2 ∷ 3 ∷ 7 ∷ [])
  pub greedy_of_third : {v : Verdict} {memory' : GreedyMemory} → GreedyCall third_a (greedy_memory 36 4 3) v memory'
      → (v ≡ passed)
      × (length memory'.scratch ≡ 36) × (drop 35 memory'.scratch ≡ 7 ∷ [])
      × (memory'.totals ≡ 140000 ∷ 80000 ∷ 20000 ∷ 7 ∷ [])
      × (memory'.nodes ≡ 2 ∷ 3 ∷ 7 ∷ [])
  pub report_of_third : {v : Verdict} {memory' : ReportMemory} → ReportCall third_a (report_memory 36 4 7 4 3) v memory'
      → (v ≡ passed)
      × (length memory'.scratch ≡ 36) × (drop 35 memory'.scratch ≡ 7 ∷ [])
      × (memory'.plan_totals ≡ 140000 ∷ 80000 ∷ 20000 ∷ 7 ∷ [])
      × (memory'.plan_rows ≡ 0 ∷ 0 ∷ 2 ∷ 0 ∷ 2 ∷ 3 ∷ 7 ∷ [])
      × (memory'.greedy_totals ≡ 140000 ∷ 80000 ∷ 20000 ∷ 7 ∷ [])
      × (memory'.greedy_nodes ≡ 2 ∷ 3 ∷ 7 ∷ [])
      × DemandThree third_a memory'
  pub bill_refused : {a : Answer ℕ} {memory memory' : BillMemory} → BillCall too_long [] memory a memory'
      → (a ≡ refused 9 1) × (memory'.servings ≡ memory.servings) × (memory'.loads ≡ memory.loads)
  pub host_bill_settled : {v : Verdict} {memory' : HostBillMemory} → HostBillCall file_a (1 ∷ []) (host_bill_memory 2 6 6) v memory'
      → (v ≡ passed)
      × (memory'.totals ≡ 60000 ∷ 7 ∷ [])
      × (memory'.servings ≡ 0 ∷ 1 ∷ 1 ∷ 1 ∷ 0 ∷ 7 ∷ [])
      × (memory'.loads ≡ 0 ∷ 0 ∷ 20000 ∷ 20000 ∷ 5000 ∷ 7 ∷ [])
  pub host_bill_refused : {v : Verdict} {memory memory' : HostBillMemory} → HostBillCall too_long [] memory v memory'
      → (v ≡ broken 9 1)
      × (memory'.totals ≡ memory.totals) × (memory'.servings ≡ memory.servings) × (memory'.loads ≡ memory.loads)
  pub plan_settled : {v : Verdict} {memory' : PlanMemory} → PlanCall file_a (plan_memory 36 4 7) v memory'
      → (v ≡ passed)
      × (length memory'.scratch ≡ 36) × (drop 35 memory'.scratch ≡ 7 ∷ [])
      × (memory'.totals ≡ 140000 ∷ 60000 ∷ 20000 ∷ 7 ∷ [])
      × (memory'.rows ≡ 0 ∷ 0 ∷ 1 ∷ 0 ∷ 2 ∷ 3 ∷ 7 ∷ [])
  pub plan_refused : {v : Verdict} {memory memory' : PlanMemory} → PlanCall too_long memory v memory'
      → (v ≡ broken 9 1)
      × (memory'.scratch ≡ memory.scratch) × (memory'.totals ≡ memory.totals) × (memory'.rows ≡ memory.rows)
  pub greedy_settled : {v : Verdict} {memory' : GreedyMemory} → GreedyCall file_a (greedy_memory 36 4 3) v memory'
      → (v ≡ passed)
      × (length memory'.scratch ≡ 36) × (drop 35 memory'.scratch ≡ 7 ∷ [])
      × (memory'.totals ≡ 140000 ∷ 60000 ∷ 40000 ∷ 7 ∷ [])
      × (memory'.nodes ≡ 1 ∷ 2 ∷ 7 ∷ [])
  pub greedy_refused : {v : Verdict} {memory memory' : GreedyMemory} → GreedyCall too_long memory v memory'
      → (v ≡ broken 9 1)
      × (memory'.scratch ≡ memory.scratch) × (memory'.totals ≡ memory.totals) × (memory'.nodes ≡ memory.nodes)
  pub report_refused : {v : Verdict} {memory memory' : ReportMemory} → ReportCall too_long memory v memory'
      → (v ≡ broken 9 1)
      × (memory'.scratch ≡ memory.scratch)
      × (memory'.plan_totals ≡ memory.plan_totals) × (memory'.plan_rows ≡ memory.plan_rows)
      × (memory'.greedy_totals ≡ memory.greedy_totals) × (memory'.greedy_nodes ≡ memory.greedy_nodes)
  pub report_settled : {v : Verdict} {memory' : ReportMemory} → ReportCall file_a (report_memory 36 4 7 4 3) v memory'
      → (v ≡ passed)
      × (length memory'.scratch ≡ 36) × (drop 35 memory'.scratch ≡ 7 ∷ [])
      × (memory'.plan_totals ≡ 140000 ∷ 60000 ∷ 20000 ∷ 7 ∷ [])
      × (memory'.plan_rows ≡ 0 ∷ 0 ∷ 1 ∷ 0 ∷ 2 ∷ 3 ∷ 7 ∷ [])
      × (memory'.greedy_totals ≡ 140000 ∷ 60000 ∷ 40000 ∷ 7 ∷ [])
      × (memory'.greedy_nodes ≡ 1 ∷ 2 ∷ 7 ∷ [])
      × DemandThree file_a memory'

-- ---- the report program

pub record ProgramCases : Type 0 where
  -- A's whole report
  pub report_of_a : program_text file_a
      ≡ (0x30 ∷ 0x20 ∷ 0x31 ∷ 0x34 ∷ 0x30 ∷ 0x30 ∷ 0x30 ∷ 0x30 ∷ 0x20 ∷ 0x31 ∷ 0x34 ∷ 0x30 ∷ 0x30 ∷ 0x30 ∷ 0x30 ∷ 0x0A ∷ [])
      ++ (0x31 ∷ 0x20 ∷ 0x36 ∷ 0x30 ∷ 0x30 ∷ 0x30 ∷ 0x30 ∷ 0x20 ∷ 0x36 ∷ 0x30 ∷ 0x30 ∷ 0x30 ∷ 0x30 ∷ 0x20 ∷ 0x31 ∷ 0x0A ∷ [])
      ++ (0x32 ∷ 0x20 ∷ 0x32 ∷ 0x30 ∷ 0x30 ∷ 0x30 ∷ 0x30 ∷ 0x20 ∷ 0x34 ∷ 0x30 ∷ 0x30 ∷ 0x30 ∷ 0x30 ∷ 0x20 ∷ 0x32 ∷ 0x20 ∷ 0x33 ∷ 0x0A ∷ [])
  -- `0 12000 12000`, `1 0 0 2`: the lower of two sites
  pub report_of_chain : program_text chain
      ≡ (0x30 ∷ 0x20 ∷ 0x31 ∷ 0x32 ∷ 0x30 ∷ 0x30 ∷ 0x30 ∷ 0x20 ∷ 0x31 ∷ 0x32 ∷ 0x30 ∷ 0x30 ∷ 0x30 ∷ 0x0A ∷ [])
      ++ (0x31 ∷ 0x20 ∷ 0x30 ∷ 0x20 ∷ 0x30 ∷ 0x20 ∷ 0x32 ∷ 0x0A ∷ [])
  -- `refused 9 1`
  pub refusal_of_length : program_text too_long ≡ 0x72 ∷ 0x65 ∷ 0x66 ∷ 0x75 ∷ 0x73 ∷ 0x65 ∷ 0x64 ∷ 0x20 ∷ 0x39 ∷ 0x20 ∷ 0x31 ∷ 0x0A ∷ []
  -- tree A in version 2, and `refused 17 1`
  pub report_of_second_a : program_text second_a ≡ program_text file_a
  pub refusal_of_cachable : program_text too_much ≡ 0x72 ∷ 0x65 ∷ 0x66 ∷ 0x75 ∷ 0x73 ∷ 0x65 ∷ 0x64 ∷ 0x20 ∷ 0x31 ∷ 0x37 ∷ 0x20 ∷ 0x31 ∷ 0x0A ∷ []
  -- tree A in version 3, with node 1 closed, and `refused 24 1`
  pub report_of_third_a : program_text third_a
      ≡ (0x30 ∷ 0x20 ∷ 0x31 ∷ 0x34 ∷ 0x30 ∷ 0x30 ∷ 0x30 ∷ 0x30 ∷ 0x20 ∷ 0x31 ∷ 0x34 ∷ 0x30 ∷ 0x30 ∷ 0x30 ∷ 0x30 ∷ 0x0A ∷ [])
      ++ (0x31 ∷ 0x20 ∷ 0x38 ∷ 0x30 ∷ 0x30 ∷ 0x30 ∷ 0x30 ∷ 0x20 ∷ 0x38 ∷ 0x30 ∷ 0x30 ∷ 0x30 ∷ 0x30 ∷ 0x20 ∷ 0x32 ∷ 0x0A ∷ [])
      ++ (0x32 ∷ 0x20 ∷ 0x32 ∷ 0x30 ∷ 0x30 ∷ 0x30 ∷ 0x30 ∷ 0x20 ∷ 0x32 ∷ 0x30 ∷ 0x30 ∷ 0x30 ∷ 0x30 ∷ 0x20 ∷ 0x32 ∷ 0x20 ∷ 0x33 ∷ 0x0A ∷ [])
  pub refusal_of_open : program_text (last_byte 0x02) ≡ 0x72 ∷ 0x65 ∷ 0x66 ∷ 0x75 ∷ 0x73 ∷ 0x65 ∷ 0x64 ∷ 0x20 ∷ 0x32 ∷ 0x34 ∷ 0x20 ∷ 0x31 ∷ 0x0A ∷ []
  -- the first look of 01 and of law first_text_kept, 650 bytes
  pub former_passes : verdict_within 650 file_a ≡ passed
  pub former_look_over : verdict_within 650 (replicate 650 0x00) ≡ broken 15 0
  pub former_look_within : verdict_within 650 (replicate 649 0x00) ≡ broken 2 0
  pub former_text_over : text_within 650 (file_a ++ replicate 591 0x00)
      ≡ 0x72 ∷ 0x65 ∷ 0x66 ∷ 0x75 ∷ 0x73 ∷ 0x65 ∷ 0x64 ∷ 0x20 ∷ 0x31 ∷ 0x35 ∷ 0x20 ∷ 0x30 ∷ 0x0A ∷ []
  pub former_text_within : text_within 650 (file_a ++ replicate 590 0x00)
      ≡ 0x72 ∷ 0x65 ∷ 0x66 ∷ 0x75 ∷ 0x73 ∷ 0x65 ∷ 0x64 ∷ 0x20 ∷ 0x36 ∷ 0x20 ∷ 0x30 ∷ 0x0A ∷ []
  -- that of 02, item 2, 778 bytes
  pub second_passes : verdict_within 778 second_a ≡ passed
  pub second_look_over : verdict_within 778 (replicate 778 0x00) ≡ broken 15 0
  pub second_look_within : verdict_within 778 (replicate 777 0x00) ≡ broken 2 0
  -- "the program's first look is 842 bytes", and if all 842 exist "it answers 15 before question 1"
  pub look_over : program_verdict (replicate 842 0x00) ≡ broken 15 0
  pub look_within : program_verdict (replicate 841 0x00) ≡ broken 2 0
  -- `refused 15 0`
  pub text_over : program_text (file_a ++ replicate 783 0x00)
      ≡ 0x72 ∷ 0x65 ∷ 0x66 ∷ 0x75 ∷ 0x73 ∷ 0x65 ∷ 0x64 ∷ 0x20 ∷ 0x31 ∷ 0x35 ∷ 0x20 ∷ 0x30 ∷ 0x0A ∷ []
  -- "n at most 64, h at most 8 and k at most 8", asked "right after 11"; 65 nodes of version 1 have 659 bytes,
  -- and 64 of version 3 have 841
  pub nodes_within : program_verdict (header 0x00 0x40 0x00 0x08 ++ replicate 640 0x00) ≡ passed
  pub nodes_within_in_second : program_verdict (second_header 0x00 0x40 0x00 0x08 ++ replicate 768 0x00) ≡ passed
  pub nodes_within_in_third : program_verdict (third_header 0x00 0x40 0x00 0x08 ++ replicate 832 0x00) ≡ passed
  pub nodes_beyond : program_verdict (header 0x00 0x41 0x00 0x08 ++ replicate 650 0x00) ≡ broken 15 0
  pub height_within : program_verdict (header 0x00 0x09 0x00 0x08 ++ server_record ++ chained 8) ≡ passed
  pub height_beyond : program_verdict (header 0x00 0x0A 0x00 0x08 ++ server_record ++ chained 9) ≡ broken 15 0
  pub budget_beyond : program_verdict (header 0x00 0x01 0x00 0x09 ++ server_record) ≡ broken 15 0
  pub eleven_before_nodes : program_verdict (header 0x00 0x41 0x00 0x08 ++ replicate 648 0x00 ++ (0x03 ∷ 0xE9 ∷ [])) ≡ broken 11 64
  -- the smallest files that the look does not hold, whose last record breaks a rule too: 84, 70 and 65 nodes
  pub eleven_beyond : program_verdict (header 0x00 0x54 0x00 0x08 ++ replicate 838 0x00 ++ (0x03 ∷ 0xE9 ∷ [])) ≡ broken 15 0
  pub seventeen_beyond : program_verdict (second_header 0x00 0x46 0x00 0x08 ++ replicate 839 0x00 ++ (0x01 ∷ [])) ≡ broken 15 0
  pub twenty_four_beyond : program_verdict (third_header 0x00 0x41 0x00 0x08 ++ replicate 844 0x00 ++ (0x02 ∷ [])) ≡ broken 15 0
  pub height_within_in_second : program_verdict (second_header 0x00 0x09 0x00 0x08 ++ replicate 12 0x00 ++ second_chained 8) ≡ passed
  pub height_beyond_in_second : program_verdict (second_header 0x00 0x0A 0x00 0x08 ++ replicate 12 0x00 ++ second_chained 9) ≡ broken 15 0
  pub budget_beyond_in_second : program_verdict (second_header 0x00 0x01 0x00 0x09 ++ replicate 12 0x00) ≡ broken 15 0
  pub budget_beyond_in_third : program_verdict (third_header 0x00 0x01 0x00 0x09 ++ replicate 13 0x00) ≡ broken 15 0
  pub twenty_four_before_fifteen : program_verdict (third_header 0x00 0x01 0x00 0x09 ++ replicate 12 0x00 ++ (0x02 ∷ [])) ≡ broken 24 0
  pub seventeen_before_fifteen : program_verdict (second_header 0x00 0x01 0x00 0x09 ++ replicate 11 0x00 ++ (0x01 ∷ [])) ≡ broken 17 0
  pub eleven_first : program_verdict (header 0x00 0x01 0x00 0x09 ++ ten_bytes 0x00 0x00 0x00 0x00 0x00 0x00 0x00 0x00 0x03 0xE9) ≡ broken 11 0

-- all of them
pub record Worked : Type 0 where
  pub files : FileCases
  pub second : SecondCases
  pub third : ThirdCases
  pub situations : SituationCases
  pub calls : CallCases
  pub statements : StatementCases
  pub program : ProgramCases
