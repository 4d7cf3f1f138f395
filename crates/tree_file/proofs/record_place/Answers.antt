-- `record_place`: the place of node v's record in the file, 0 for none.
use mathlib.Core.Path.{◌≡◌, sym, ap, ◌∙◌}
use native.Mathlib.Omega.{arith}
use Rattle.model.specs.File.{count_of, record_at}
use Rattle.model.proofs.Accepted.{accepted_header}
use Rattle.model.proofs.Told.{place_refused_lem, place_beyond, place_here}
use Rattle.tree_file.proofs.Accepted.{accepted_long}
use Rattle.tree_file.proofs.record_place.Goals as goal

pub of-file-requires : goal.of-file-requires
of-file-requires c = accepted_long _ (sym c.in-Ok.ensures)

pub returns-then-count-v : goal.returns-then-count-v
returns-then-count-v c =
    let count : c.count.result ≡ count_of c.args.file.now = rw c.of-file.ensures at c.count.ensures in
    sym (place_beyond _ _ (sym c.in-Ok.ensures) (omega arith))

pub record_at-requires : goal.record_at-requires
record_at-requires c =
    let count : c.count.result ≡ count_of c.args.file.now = rw c.of-file.ensures at c.count.ensures in
    omega (arith, (accepted_header _ (sym c.in-Ok.ensures)).few)

pub returns-else-count-v : goal.returns-else-count-v
returns-else-count-v c =
    let count : c.count.result ≡ count_of c.args.file.now = rw c.of-file.ensures at c.count.ensures in
    c.record_at.ensures ∙ ap (λ s. record_at s c.args.v) c.of-file.ensures ∙ sym (place_here _ _ (sym c.in-Ok.ensures) (omega arith))

pub returns-in-Err : goal.returns-in-Err
returns-in-Err c = sym (place_refused_lem _ _ (sym c.in-Err.ensures))
