-- `relieve`: from v on what reaches each node is what reaches it with x taken too.
use mathlib.Core.Path.{◌≡◌, sym, ◌∙◌}
use Prim.Native.Nat.{◌<◌}
use native.Mathlib.Omega.{arith}
use Rattle.node_words.specs.Words.{word_of}
use Rattle.node_words.proofs.Words.{room_record, room_parent, room_above}
use Rattle.greedy.specs.Words.{mark_word}
use Rattle.greedy.proofs.TakeSite.{relieve_begins, relieve_site, relieve_stops, relieve_ends, relieve_fits, relieve_turns}
use Rattle.greedy.proofs.relieve.Goals as goal

pub loop-v-init : goal.loop-v-init
loop-v-init c = relieve_begins c.requires.0 c.requires.1 c.requires.2

pub returns-then-mark-eq1 : goal.returns-then-mark-eq1
returns-then-mark-eq1 c = relieve_stops c.loop-v.invariant (omega (arith, c.loop-v-test.true)) (sym c.word_of-mark.ensures ∙ c.if-mark-eq1.true)

pub parent-v-requires : goal.parent-v-requires
parent-v-requires c = let here = relieve_site c.loop-v.invariant (omega (arith, c.loop-v-test.true)) in
    room_record here.nodes here.below

pub word_of-requires-in-loop-v : goal.word_of-requires-in-loop-v
word_of-requires-in-loop-v c =
    let site : 0 < c.loop-v.v = omega (arith, c.loop-v-test.true) in
    room_above (relieve_site c.loop-v.invariant site) c.parent-v.ensures

pub sub-left-requires : goal.sub-left-requires
sub-left-requires c =
    let site : 0 < c.loop-v.v = omega (arith, c.loop-v-test.true) in
    let unmarked : word_of c.loop-v.words c.loop-v.v mark_word ≡ 1 → ⊥ = λ e. c.if-mark-eq1.false (c.word_of-mark.ensures ∙ e) in
    let fits = relieve_fits c.loop-v.invariant site unmarked c.parent-v.ensures c.word_of.ensures in
    omega (arith, fits, c.word_of-in-loop-v.ensures)

pub put-requires : goal.put-requires
put-requires c =
    let site : 0 < c.loop-v.v = omega (arith, c.loop-v-test.true) in
    room_above (relieve_site c.loop-v.invariant site) c.parent-v.ensures

pub loop-v-smaller : goal.loop-v-smaller
loop-v-smaller c =
    let site : 0 < c.loop-v.v = omega (arith, c.loop-v-test.true) in
    omega (arith, room_parent (relieve_site c.loop-v.invariant site), c.parent-v.ensures)

pub loop-v-preserved : goal.loop-v-preserved
loop-v-preserved c =
    let site : 0 < c.loop-v.v = omega (arith, c.loop-v-test.true) in
    let unmarked : word_of c.loop-v.words c.loop-v.v mark_word ≡ 1 → ⊥ = λ e. c.if-mark-eq1.false (c.word_of-mark.ensures ∙ e) in
    relieve_turns c.loop-v.invariant site unmarked c.parent-v.ensures c.word_of.ensures (rw c.word_of-in-loop-v.ensures at c.sub-left.ensures) c.put.ensures

pub returns : goal.returns
returns c = relieve_ends c.loop-v.invariant (omega (arith, c.loop-v-test.false))
