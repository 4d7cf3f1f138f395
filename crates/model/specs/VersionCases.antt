-- Worked cases of the files that 02 brought: version 2, with cachable bytes, and version 3, with open and closed nodes; each on a file
-- written out byte by byte (`Samples`), with the answer that the documents give.
use Rattle.std.specs.Prelude.{◌≡◌, [], ◌∷◌, ◌++◌, take, drop, replicate}
use Rattle.model.specs.File.{open_field, field_of, tree_of, demand_of}
use Rattle.model.specs.Tree.{open_sites}
use Rattle.model.specs.Rules.{passed, broken, file_verdict}
use Rattle.model.specs.Bill.{total}
use Rattle.model.specs.Plan.{plan}
use Rattle.model.specs.Calls.{answered, refused, check_number, record_bytes, bill_verdict, link_loads, first, second, ranking, winner, plan_totals, plan_rows, plan_verdict, greedy_totals, greedy_row}
use Rattle.model.specs.Hosts.{words_asked, record_place, rank_code, host_bill_verdict}
use Rattle.model.specs.Versions.{BothVersions, AddsOpenBytes}
use Rattle.model.specs.Samples.{file_a, second_a, second_header, twelve_bytes, second_one_node, second_two_nodes, second_largest, three_sevenths, too_much, third_a, closed_last, third_header, thirteen_bytes, third_one_node, third_two_nodes, third_chained, last_byte, third_chain, visited, bill_memory, host_bill_memory, plan_memory}

-- ---- 02, item 2: questions 1 to 10 and 17 of a file with cachable bytes, and its bill and plan

pub record SecondCases : Type 0 where
  pub second_a_passes : file_verdict second_a ≡ passed
  -- 6 by the longer record: a byte too many, too few; version 2 over the length of version 1, and the other way round
  pub byte_over : file_verdict (second_a ++ (0x00 ∷ [])) ≡ broken 6 0
  pub byte_under : file_verdict (take 68 second_a) ≡ broken 6 0
  pub short_records : file_verdict (0x4B ∷ 0x54 ∷ 0x52 ∷ 0x00 ∷ 0x02 ∷ drop 5 file_a) ≡ broken 6 0
  pub long_records : file_verdict (0x4B ∷ 0x54 ∷ 0x52 ∷ 0x00 ∷ 0x01 ∷ drop 5 second_a) ≡ broken 6 0
  -- version 258
  pub version_high : file_verdict (0x4B ∷ 0x54 ∷ 0x52 ∷ 0x01 ∷ 0x02 ∷ drop 5 second_a) ≡ broken 3 0
  -- 4 and 5 as in version 1
  pub no_nodes : file_verdict (second_header 0x00 0x00 0x00 0x21) ≡ broken 4 0
  pub most_nodes_and_budget : file_verdict (second_header 0x04 0x00 0x00 0x20) ≡ broken 6 0
  pub nodes_over : file_verdict (second_header 0x04 0x01 0x00 0x00) ≡ broken 4 0
  pub budget_over : file_verdict (second_header 0x00 0x01 0x00 0x21) ≡ broken 5 0
  -- "cachable bytes exceed the flow": all of the flow passes, one more does not, and each of the four bytes counts
  pub largest_pass : file_verdict second_largest ≡ passed
  pub one_more : file_verdict too_much ≡ broken 17 1
  pub second_byte : file_verdict (second_two_nodes (twelve_bytes 0x00 0x00 0x00 0x00 0x00 0x00 0x00 0x07 0x00 0x00 0x01 0x00)) ≡ broken 17 1
  pub third_byte : file_verdict (second_two_nodes (twelve_bytes 0x00 0x00 0x00 0x00 0x00 0x00 0x00 0x07 0x00 0x01 0x00 0x00)) ≡ broken 17 1
  pub fourth_byte : file_verdict (second_two_nodes (twelve_bytes 0x00 0x00 0x00 0x00 0x00 0x00 0x00 0x07 0x01 0x00 0x00 0x00)) ≡ broken 17 1
  -- 17 stands in the place of 11: cachable bytes above 1,000 pass, and 7 to 10 come first
  pub eleven_not_asked : file_verdict (second_two_nodes (twelve_bytes 0x00 0x00 0x00 0x00 0x00 0x00 0x03 0xE9 0x00 0x00 0x03 0xE9)) ≡ passed
  pub parent_first : file_verdict (second_two_nodes (twelve_bytes 0x00 0x01 0x00 0x00 0x00 0x00 0x00 0x00 0x00 0x00 0x00 0x01)) ≡ broken 7 1
  pub length_first : file_verdict (second_two_nodes (twelve_bytes 0x00 0x00 0x03 0xE9 0x00 0x00 0x00 0x00 0x00 0x00 0x00 0x01)) ≡ broken 9 1
  pub flow_first : file_verdict (second_two_nodes (twelve_bytes 0x00 0x00 0x00 0x00 0x05 0xF5 0xE1 0x01 0x05 0xF5 0xE1 0x02)) ≡ broken 10 1
  -- and before the next record
  pub node_by_node : file_verdict (second_header 0x00 0x03 0x00 0x01 ++ replicate 12 0x00
      ++ twelve_bytes 0x00 0x00 0x00 0x00 0x00 0x00 0x00 0x00 0x00 0x00 0x00 0x01
      ++ twelve_bytes 0x00 0x02 0x00 0x00 0x00 0x00 0x00 0x00 0x00 0x00 0x00 0x00) ≡ broken 17 1
  pub later_record : file_verdict (take 68 second_a ++ (0x06 ∷ [])) ≡ broken 17 4
  -- node 0 too
  pub server_client : file_verdict (second_one_node (twelve_bytes 0x00 0x00 0x00 0x00 0x05 0xF5 0xE1 0x00 0x05 0xF5 0xE1 0x00)) ≡ passed
  pub server_cachable : file_verdict (second_one_node (twelve_bytes 0x00 0x00 0x00 0x00 0x00 0x00 0x00 0x00 0x00 0x00 0x00 0x01)) ≡ broken 17 0
  -- "for the C host too"
  pub check_of_accepted : check_number second_a ≡ 0
  pub check_of_refused : check_number too_much ≡ 17
  -- "the service hands back 12 bytes"
  pub last_record : record_bytes second_a 4 ≡ 0x00 ∷ 0x00 ∷ 0x00 ∷ 0x04 ∷ 0x00 ∷ 0x00 ∷ 0x00 ∷ 0x05 ∷ 0x00 ∷ 0x00 ∷ 0x00 ∷ 0x04 ∷ []
  pub record_past : record_bytes second_a 5 ≡ []
  -- found after 9 + 12 × 4 bytes; a refused file has none, and no rank
  pub last_place : record_place second_a 4 ≡ 57
  pub place_past : record_place second_a 5 ≡ 0
  pub place_refused : record_place too_much 0 ≡ 0
  pub code_of_rank : rank_code (ranking too_much [] []) ≡ 273
  -- 1,000 × (7 × 3 − 3 × 3), and 1,000 × (7 − 3) on the link
  pub sevenths : total (tree_of three_sevenths) (demand_of three_sevenths) [] ≡ 21000
  pub sevenths_served : total (tree_of three_sevenths) (demand_of three_sevenths) (1 ∷ []) ≡ 12000
  pub loads_of_none : link_loads three_sevenths [] ≡ 0 ∷ 7000 ∷ []
  pub loads_of_one : link_loads three_sevenths (1 ∷ []) ≡ 0 ∷ 4000 ∷ []
  pub largest_total : total (tree_of second_largest) (demand_of second_largest) [] ≡ 100_000_000_000_000
  pub largest_saved : total (tree_of second_largest) (demand_of second_largest) (1 ∷ []) ≡ 0
  -- 12, 13 and 14 after 17
  pub seventeen_first : bill_verdict too_much (5 ∷ []) (bill_memory 0 0) ≡ broken 17 1
  pub set_over : bill_verdict second_a (5 ∷ []) (bill_memory 0 0) ≡ broken 12 0
  pub loads_short : bill_verdict second_a (4 ∷ []) (bill_memory 5 4) ≡ broken 14 0
  pub plan_passes : plan_verdict second_a (plan_memory 35 3 6) ≡ passed
  pub plan_scratch_short : plan_verdict second_a (plan_memory 34 0 0) ≡ broken 13 0
  pub plan_rows_short : plan_verdict second_a (plan_memory 35 3 5) ≡ broken 14 0
  -- what the plan and the greedy rule write
  pub totals_of_plan : plan_totals second_a ≡ 140000 ∷ 60000 ∷ 20000 ∷ []
  pub rows_of_plan : plan_rows second_a ≡ 0 ∷ 0 ∷ 1 ∷ 0 ∷ 2 ∷ 3 ∷ []
  pub totals_of_greedy : greedy_totals second_a ≡ 140000 ∷ 60000 ∷ 40000 ∷ []
  pub words_of_second_a : words_asked second_a ≡ 35
  -- 12,297 bytes pass 6, where node 0 has parent 1; one byte less does not
  pub longest_file : file_verdict (second_header 0x04 0x00 0x00 0x20 ++ (0x00 ∷ 0x01 ∷ replicate 12286 0x00)) ≡ broken 7 0
  pub longest_short : file_verdict (second_header 0x04 0x00 0x00 0x20 ++ replicate 12287 0x00) ≡ broken 6 0
  -- tree A in versions 1 and 2: the laws of a file in both have a case
  pub both_versions : BothVersions file_a second_a

-- ---- 02, item 9: questions 1 to 10, 17 and 24 of a file with open and closed nodes, its sets, bill, plan and greedy rule

pub record ThirdCases : Type 0 where
  pub third_a_passes : file_verdict third_a ≡ passed
  -- 6 "counts 13-byte records": a byte too many, too few; version 3 over the length of version 2, and the other way round
  pub byte_over : file_verdict (third_a ++ (0x00 ∷ [])) ≡ broken 6 0
  pub byte_under : file_verdict (take 73 third_a) ≡ broken 6 0
  pub short_records : file_verdict (0x4B ∷ 0x54 ∷ 0x52 ∷ 0x00 ∷ 0x03 ∷ drop 5 second_a) ≡ broken 6 0
  pub long_records : file_verdict (0x4B ∷ 0x54 ∷ 0x52 ∷ 0x00 ∷ 0x02 ∷ drop 5 third_a) ≡ broken 6 0
  -- versions 4 and 259
  pub version_four : file_verdict (0x4B ∷ 0x54 ∷ 0x52 ∷ 0x00 ∷ 0x04 ∷ drop 5 third_a) ≡ broken 3 0
  pub version_high : file_verdict (0x4B ∷ 0x54 ∷ 0x52 ∷ 0x01 ∷ 0x03 ∷ drop 5 third_a) ≡ broken 3 0
  -- 4 and 5 as in version 1
  pub no_nodes : file_verdict (third_header 0x00 0x00 0x00 0x21) ≡ broken 4 0
  pub most_nodes_and_budget : file_verdict (third_header 0x04 0x00 0x00 0x20) ≡ broken 6 0
  pub nodes_over : file_verdict (third_header 0x04 0x01 0x00 0x00) ≡ broken 4 0
  pub budget_over : file_verdict (third_header 0x00 0x01 0x00 0x21) ≡ broken 5 0
  -- "the byte is neither 0 nor 1"
  pub byte_zero : file_verdict (last_byte 0x00) ≡ passed
  pub byte_one : file_verdict (last_byte 0x01) ≡ passed
  pub byte_two : file_verdict (last_byte 0x02) ≡ broken 24 1
  pub byte_most : file_verdict (last_byte 0xFF) ≡ broken 24 1
  -- "last in the record": after 7 to 10 and 17, and before the next record
  pub parent_first : file_verdict (third_two_nodes (thirteen_bytes 0x00 0x01 0x00 0x00 0x00 0x00 0x00 0x00 0x00 0x00 0x00 0x00 0x02)) ≡ broken 7 1
  pub depth_first : file_verdict (third_header 0x00 0x22 0x00 0x01 ++ replicate 13 0x00 ++ third_chained 32
      ++ thirteen_bytes 0x00 0x20 0x00 0x00 0x00 0x00 0x00 0x00 0x00 0x00 0x00 0x00 0x02) ≡ broken 8 33
  pub length_first : file_verdict (third_two_nodes (thirteen_bytes 0x00 0x00 0x03 0xE9 0x00 0x00 0x00 0x00 0x00 0x00 0x00 0x00 0x02)) ≡ broken 9 1
  pub flow_first : file_verdict (third_two_nodes (thirteen_bytes 0x00 0x00 0x00 0x00 0x05 0xF5 0xE1 0x01 0x00 0x00 0x00 0x00 0x02)) ≡ broken 10 1
  pub cachable_first : file_verdict (third_two_nodes (thirteen_bytes 0x00 0x00 0x00 0x03 0x00 0x00 0x00 0x07 0x00 0x00 0x00 0x08 0x02)) ≡ broken 17 1
  pub node_by_node : file_verdict (third_header 0x00 0x03 0x00 0x01 ++ replicate 13 0x00
      ++ thirteen_bytes 0x00 0x00 0x00 0x00 0x00 0x00 0x00 0x00 0x00 0x00 0x00 0x00 0x02
      ++ thirteen_bytes 0x00 0x02 0x00 0x00 0x00 0x00 0x00 0x00 0x00 0x00 0x00 0x00 0x00) ≡ broken 24 1
  pub later_record : file_verdict (take 73 third_a ++ (0x02 ∷ [])) ≡ broken 24 4
  -- node 0 too
  pub server_open : file_verdict (third_one_node (replicate 12 0x00 ++ (0x01 ∷ []))) ≡ passed
  pub server_closed : file_verdict (third_one_node (replicate 13 0x00)) ≡ passed
  pub server_byte : file_verdict (third_one_node (replicate 12 0x00 ++ (0x02 ∷ []))) ≡ broken 24 0
  -- "for the C host too"
  pub check_of_accepted : check_number third_a ≡ 0
  pub check_of_refused : check_number (last_byte 0x02) ≡ 24
  pub check_of_server : check_number (third_one_node (replicate 12 0x00 ++ (0x02 ∷ []))) ≡ 24
  -- "the service hands back 13 bytes"
  pub last_record : record_bytes third_a 4 ≡ 0x00 ∷ 0x00 ∷ 0x00 ∷ 0x04 ∷ 0x00 ∷ 0x00 ∷ 0x00 ∷ 0x05 ∷ 0x00 ∷ 0x00 ∷ 0x00 ∷ 0x04 ∷ 0x01 ∷ []
  pub record_past : record_bytes third_a 5 ≡ []
  -- found after 9 + 13 × 4 bytes
  pub last_place : record_place third_a 4 ≡ 61
  pub place_past : record_place third_a 5 ≡ 0
  pub place_refused : record_place (last_byte 0x02) 1 ≡ 0
  pub code_of_rank : rank_code (ranking (last_byte 0x02) [] []) ≡ 280
  -- 13,321 bytes pass 6, where node 0 has parent 1; one byte less does not
  pub longest_file : file_verdict (third_header 0x04 0x00 0x00 0x20 ++ (0x00 ∷ 0x01 ∷ replicate 13310 0x00)) ≡ broken 7 0
  pub longest_short : file_verdict (third_header 0x04 0x00 0x00 0x20 ++ replicate 13311 0x00) ≡ broken 6 0
  -- "1 where a cache may stand and 0 where not"; "Versions 1 and 2 count as open throughout"
  pub open_sites_of_third_a : open_sites (tree_of third_a) ≡ 2 ∷ 3 ∷ 4 ∷ []
  pub open_sites_of_second_a : open_sites (tree_of second_a) ≡ 1 ∷ 2 ∷ 3 ∷ 4 ∷ []
  pub open_sites_of_a : open_sites (tree_of file_a) ≡ 1 ∷ 2 ∷ 3 ∷ 4 ∷ []
  -- "Question 12 also refuses a set with a closed node": after 24 and before 14
  pub open_set : bill_verdict third_a (2 ∷ 3 ∷ 4 ∷ []) (bill_memory 5 5) ≡ passed
  pub closed_set : bill_verdict third_a (1 ∷ []) (bill_memory 5 5) ≡ broken 12 0
  pub closed_among_open : bill_verdict third_a (1 ∷ 2 ∷ []) (bill_memory 0 0) ≡ broken 12 0
  -- also where open ones come first in it
  pub closed_after_open : bill_verdict closed_last (2 ∷ 4 ∷ []) (bill_memory 5 5) ≡ broken 12 0
  pub host_closed_after_open : host_bill_verdict closed_last (2 ∷ 4 ∷ []) (host_bill_memory 1 5 5) ≡ broken 12 0
  pub first_closed_after_open : ranking closed_last (2 ∷ 4 ∷ []) (2 ∷ []) ≡ refused 12 0
  pub second_closed_after_open : ranking closed_last (2 ∷ []) (2 ∷ 4 ∷ []) ≡ refused 12 0
  pub twenty_four_first : bill_verdict (last_byte 0x02) (1 ∷ []) (bill_memory 0 0) ≡ broken 24 1
  pub loads_short : bill_verdict third_a (2 ∷ []) (bill_memory 5 4) ≡ broken 14 0
  pub first_closed : ranking third_a (1 ∷ []) (2 ∷ []) ≡ refused 12 0
  pub second_closed : ranking third_a (2 ∷ []) (1 ∷ []) ≡ refused 12 0
  pub code_of_closed : rank_code (ranking third_a (2 ∷ []) (1 ∷ [])) ≡ 12
  pub no_winner : winner third_a (2 ∷ []) (1 ∷ []) ≡ []
  -- a set costs and loads what it does in version 2
  pub total_of_two : total (tree_of third_a) (demand_of third_a) (2 ∷ []) ≡ 80000
  pub loads_of_two : link_loads third_a (2 ∷ 4 ∷ []) ≡ 0 ∷ 20000 ∷ 0 ∷ 20000 ∷ 1000 ∷ []
  -- "range over open nodes only": in version 2 node 1 is planned, and taken first
  pub plan_passes : plan_verdict third_a (plan_memory 35 3 6) ≡ passed
  pub plan_scratch_short : plan_verdict third_a (plan_memory 34 0 0) ≡ broken 13 0
  pub plan_rows_short : plan_verdict third_a (plan_memory 35 3 5) ≡ broken 14 0
  pub totals_of_plan : plan_totals third_a ≡ 140000 ∷ 80000 ∷ 20000 ∷ []
  pub rows_of_plan : plan_rows third_a ≡ 0 ∷ 0 ∷ 2 ∷ 0 ∷ 2 ∷ 3 ∷ []
  pub totals_of_greedy : greedy_totals third_a ≡ 140000 ∷ 80000 ∷ 20000 ∷ []
  pub row_of_greedy : greedy_row third_a ≡ 2 ∷ 3 ∷ []
  -- closed nodes count in n and r too: 1 × (1 + 1) + 4 × 2
  pub words_of_third_a : words_asked third_a ≡ 35
  pub words_of_closed : words_asked (last_byte 0x00) ≡ 10
  -- the only site closed, and open: a cache there would save 9,000
  pub totals_of_closed : plan_totals (last_byte 0x00) ≡ 21000 ∷ 21000 ∷ []
  pub greedy_of_closed : greedy_totals (last_byte 0x00) ≡ 21000 ∷ 21000 ∷ []
  pub row_of_closed : greedy_row (last_byte 0x00) ≡ 0 ∷ []
  pub totals_of_open : plan_totals (last_byte 0x01) ≡ 21000 ∷ 12000 ∷ []
  pub greedy_of_open : greedy_totals (last_byte 0x01) ≡ 21000 ∷ 12000 ∷ []
  pub row_of_open : greedy_row (last_byte 0x01) ≡ 1 ∷ []
  -- the lower of two sites that cost the same, if it is open
  pub lower_open_passes : file_verdict (third_chain 0x01) ≡ passed
  pub lower_closed_passes : file_verdict (third_chain 0x00) ≡ passed
  pub lower_open : plan_rows (third_chain 0x01) ≡ 0 ∷ 2 ∷ []
  pub lower_closed : plan_rows (third_chain 0x00) ≡ 0 ∷ 1 ∷ []
  -- the order of ties visits closed nodes too: {4, 5, 6} has three nodes at or below node 1, {2, 3, 7} has two. A visit of open nodes
  -- only would begin at node 2, which only the second has
  pub visited_passes : file_verdict visited ≡ passed
  pub visited_plan : plan (tree_of visited) (demand_of visited) 3 ≡ 4 ∷ 5 ∷ 6 ∷ []
  pub visited_total : total (tree_of visited) (demand_of visited) (4 ∷ 5 ∷ 6 ∷ []) ≡ 12000
  pub visited_rival : total (tree_of visited) (demand_of visited) (2 ∷ 3 ∷ 7 ∷ []) ≡ 12000
  pub visited_first : ranking visited (4 ∷ 5 ∷ 6 ∷ []) (2 ∷ 3 ∷ 7 ∷ []) ≡ answered first
  pub visited_second : ranking visited (2 ∷ 3 ∷ 7 ∷ []) (4 ∷ 5 ∷ 6 ∷ []) ≡ answered second
  -- tree A in versions 2 and 3: the laws of a file with last bytes have a case
  pub adds_open_bytes : AddsOpenBytes second_a third_a
  -- and one whose only site is open
  pub adds_open_only : AddsOpenBytes three_sevenths (last_byte 0x01)
  pub open_only : field_of (last_byte 0x01) open_field 1 ≡ 1
