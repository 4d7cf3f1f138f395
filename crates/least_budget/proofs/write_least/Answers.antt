-- `write_least`: finds the least budget in the table and writes its row.
use Prim.Native.Nat.{◌≤◌}
use native.Mathlib.Omega.{arith}
use lib.ListN.{length}
use Rattle.model.specs.File.{most_budget}
use Rattle.model.proofs.Accepted.{accepted_header}
use Rattle.table.proofs.Server.{server_there}
use Rattle.lines.specs.Line.{entry_of}
use Rattle.least_budget.specs.Entries.{FirstAt}
use Rattle.least_budget.proofs.Least.{none_told_lem, row_to_write, budget_told}
use Rattle.least_budget.proofs.write_least.Goals as goal

pub server_line-requires : goal.server_line-requires
server_line-requires c = server_there c.requires.table

pub returns-in_err-b : goal.returns-in_err-b
returns-in_err-b c =
    let whole = none_told_lem c.requires.k_value c.requires.table c.server_line.ensures _ c.in_err-b.ensures in
    rw c.from_residual.ensures (record { result_value = whole.0; row_after = whole.1 })

pub write_row-requires : goal.write_row-requires
write_row-requires c =
    let long : c.args.k ≤ length c.args.row.now = omega (arith, c.requires.k_value, c.requires.file_in_bounds) in
    let room = row_to_write c.requires.k_value c.requires.table c.server_line.ensures c.in_ok-b.ensures long in
    record { k_value = c.requires.k_value; row_to_walk = room.0; k_in_bounds = room.1 }

pub overflow_cast-result : goal.overflow_cast-result
overflow_cast-result c =
    let few : c.args.k ≤ most_budget = omega (arith, c.requires.k_value, (accepted_header c.args.file.now c.requires.table.stored.room.accepted).budget) in
    let first : FirstAt (entry_of c.server_line.result.now) c.args.k c.args.target.0 c.in_ok-b.b = c.in_ok-b.ensures in
    omega (arith, first.bound, few)

pub returns : goal.returns
returns c =
    let long : c.args.k ≤ length c.args.row.now = omega (arith, c.requires.k_value, c.requires.file_in_bounds) in
    let whole = budget_told c.requires.k_value c.requires.table c.server_line.ensures c.in_ok-b.ensures c.args.row.now long c.write_row.ensures in
    record { result_value = whole.0; row_after = whole.1 }
