-- The definitions agree with the twelve worked cases that document 01 marks.
use lib.Dec.{T}
use mathlib.Core.List.{flat_map}
use Rattle.laws.specs.Lists.{range, sum, least, greatest, has, any_of, those, how_many, same}
use Rattle.model.specs.File.{number, has_ratios, has_open_bytes, record_length, field_of, open_of, share_of}
use Rattle.model.specs.Bytes.{bytes_of, header_bytes, record_of}
use Rattle.model.specs.Tree.{climb, route, at_or_below, depth, height, distance}
use Rattle.model.specs.Rules.{parent_holds, length_holds, record_verdict, records_verdict, marked, file_verdict, accepted}
use Rattle.model.specs.Bill.{price, cost, total, up_to, client_load, link_load}
use Rattle.model.specs.Ties.{smaller_first, members, visits, ties_before, ranks_before}
use Rattle.model.specs.Plan.{sets_of, first_of, plan}
use Rattle.model.specs.Greedy.{with_nodes, step_over, taken_from}
use Rattle.model.specs.Report.{digits, decimal, line, report_text, verdict_within, text_within}
use Rattle.model.specs.Cases.{tree_a, siblings, chain, server_alone, two_lines, case_holds, every, cases}

pub cases_hold : T (every cases)
unfolding every case_holds cases bytes_of header_bytes record_of tree_a siblings chain server_alone two_lines range sum least greatest has any_of those how_many same flat_map number has_ratios has_open_bytes record_length field_of open_of share_of climb route at_or_below depth height distance parent_holds length_holds record_verdict records_verdict marked file_verdict accepted price cost total up_to client_load link_load smaller_first members visits ties_before ranks_before sets_of first_of plan with_nodes step_over taken_from digits decimal line report_text verdict_within text_within
cases_hold = tt
