-- `record_of`: the record of node v inside the caller's file, empty if the file is refused or v is not below n.
use mathlib.Core.Path.{◌≡◌, sym}
use native.Mathlib.Omega.{arith}
use borrow.Author.Rules.{rules}
use Rattle.model.specs.File.{count_of}
use Rattle.tree_file.proofs.Accepted.{accepted_long, accepted_in_file}
use Rattle.tree_file.proofs.Services.{record_here, record_beyond, record_refused_lem}
use Rattle.tree_file.proofs.record_of.Goals as goal

pub of-requires : goal.of-requires
of-requires c = accepted_long _ (sym c.in-Ok.ensures)

pub returns-then-count-v : goal.returns-then-count-v
returns-then-count-v c =
    let count : c.count.result ≡ count_of c.args.file.now = rw c.of.ensures at c.count.ensures in
    let whole = record_beyond _ _ c.in-Ok.ensures (omega arith) (search rules) in
    record { result_value = whole.0; record_handed_back = whole.1 }

pub record_part-requires : goal.record_part-requires
record_part-requires c =
    let count : c.count.result ≡ count_of c.args.file.now = rw c.of.ensures at c.count.ensures in
    accepted_in_file _ (sym c.in-Ok.ensures) _ (omega arith)

pub returns-else-count-v : goal.returns-else-count-v
returns-else-count-v c =
    let count : c.count.result ≡ count_of c.args.file.now = rw c.of.ensures at c.count.ensures in
    let whole = record_here _ _ c.in-Ok.ensures (omega arith) c.record_part.ensures in
    record { result_value = whole.0; record_handed_back = whole.1 }

pub returns-in-Err : goal.returns-in-Err
returns-in-Err c = let whole = record_refused_lem _ _ _ _ c.in-Err.ensures (search rules) in
    record { result_value = whole.0; record_handed_back = whole.1 }
