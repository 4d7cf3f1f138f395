-- `greedy`: a refusal changes nothing, and an accepted call leaves the totals and nodes of the greedy rule.
use mathlib.Core.Path.{refl}
use Rattle.tree_file.proofs.Accepted.{accepted_long}
use Rattle.tree_file.proofs.Rulings.{asked, refused_as}
use Rattle.lent.proofs.Asked.{lent_told, lent_sizes}
use Rattle.greedy.proofs.Answers.{greedy_refused_lem, greedy_short, long_asked, greedy_room_lem, greedy_written}
use Rattle.greedy.proofs.greedy.Goals as goal

pub returns-in_err-tree : goal.returns-in_err-tree
returns-in_err-tree c = rw (refused_as _ _ c.from_residual.ensures.1 refl) (greedy_refused_lem _ _ c.in_err-tree.ensures)

pub buffers_long-requires : goal.buffers_long-requires
buffers_long-requires c = (lent_sizes _ _ c.in_ok-tree.ensures).budget

pub returns-in_err-ask : goal.returns-in_err-ask
returns-in_err-ask c =
    rw (refused_as _ _ c.from_residual-in_err-ask.ensures.1 refl)
    (greedy_short _ _ c.in_ok-tree.ensures (asked _ _ c.in_err-ask.ensures c.buffers_long.ensures))

pub of-requires : goal.of-requires
of-requires c = accepted_long _ (lent_told _ c.in_ok-tree.ensures).0

pub run-requires : goal.run-requires
run-requires c =
    let told = c.in_ok-tree.ensures in
    rw c.of.ensures (greedy_room_lem _ _ told (long_asked _ _ told (asked _ _ c.in_ok-ask.ensures c.buffers_long.ensures)))

pub returns : goal.returns
returns c =
    let told = c.in_ok-tree.ensures in
    greedy_written _ _ told (long_asked _ _ told (asked _ _ c.in_ok-ask.ensures c.buffers_long.ensures)) (rw c.of.ensures at c.run.ensures)
