-- What a report is made in, and what it leaves.
use Rattle.std.specs.Prelude.{◌≡◌, List, ℕ}
use Rattle.laws.specs.Fronts.{FrontOnly}
use Rattle.model.specs.Rules.{passed, scratch_words}
use Rattle.model.specs.Calls.{after, plan_totals, plan_rows, greedy_totals, greedy_row}
use Rattle.model.specs.Report.{ReportMemory}
use Rattle.fields.specs.declared.Tree as code
use Rattle.lent.specs.Lent.{LentRoom}
use Rattle.optimum.specs.Budgets.{Buffers}
use Rattle.greedy.specs.Run.{GreedyRoom}

-- an accepted file with its sizes, and room for both answers
pub record ReportRoom (file : List ℕ) (sizes : code.Tree) (memory : ReportMemory) : Type 0 where
  pub for_plan : LentRoom file sizes memory.scratch
  pub plan_long : Buffers file memory.plan_totals memory.plan_rows
  pub for_greedy : GreedyRoom file sizes.nodes sizes.budget memory.scratch memory.greedy_totals memory.greedy_nodes

-- both answers stand in their buffers, and of the scratch only the words that rule 13 asks for were used
pub record ReportWritten (file : List ℕ) (memory memory' : ReportMemory) : Type 0 where
  pub front : FrontOnly (scratch_words file) memory.scratch memory'.scratch
  pub plan_totals_after : memory'.plan_totals ≡ after passed (plan_totals file) memory.plan_totals
  pub plan_rows_after : memory'.plan_rows ≡ after passed (plan_rows file) memory.plan_rows
  pub greedy_totals_after : memory'.greedy_totals ≡ after passed (greedy_totals file) memory.greedy_totals
  pub greedy_nodes_after : memory'.greedy_nodes ≡ after passed (greedy_row file) memory.greedy_nodes
