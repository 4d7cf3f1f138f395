-- The program's own memory: its scratch, and the report as it holds it.
use Rattle.std.specs.Prelude.{List, ℕ, suc, ◌+◌, ◌*◌, replicate}
use Rattle.model.specs.Rules.{passed}
use Rattle.model.specs.Calls.{after, plan_totals, plan_rows, greedy_totals}
use Rattle.model.specs.Report.{program_nodes, program_height, program_budget}
use Rattle.program_report.specs.declared.Report.{Report}

-- the words of its scratch: n × (h + 1) × (k + 1) + 4 × n at the limits of rule 15, which is more than rule 13 asks for there
abbrev pub program_scratch : ℕ
program_scratch = program_nodes * (program_height + 1) * (program_budget + 1) + 4 * program_nodes

-- the answers of the report call, in memory that held zeros
abbrev pub report_of : List ℕ → Report
report_of file =
    record {
      totals = after passed (plan_totals file) (replicate (suc program_budget) 0);
      rows = after passed (plan_rows file) (replicate (suc program_budget * program_budget) 0);
      greedy_totals = after passed (greedy_totals file) (replicate (suc program_budget) 0);
    }
