-- `search`: of the open sites before v, the first that saves most is held.
use native.Mathlib.Omega.{arith}
use borrow.Author.Rules.{rules}
use Rattle.model.specs.File.{tree_of}
use Rattle.node_words.proofs.Words.{room_record}
use Rattle.greedy.proofs.BestSite.{finds_more, finds_same}
use Rattle.greedy.proofs.search.Goals as goal

pub is_open-requires : goal.is_open-requires
is_open-requires c = room_record c.requires.node_room c.loop-v-test.true

pub loop-v-preserved : goal.loop-v-preserved
loop-v-preserved c =
    let more = finds_more (tree_of c.args.file.now) c.args.words.now (omega arith) c.loop-v.found {x = c.saving_of-saving.result} c.loop-v.invariant.0 in
    let same = finds_same (tree_of c.args.file.now) c.args.words.now (omega arith) c.loop-v.found c.loop-v.invariant.0 in
    search rules
