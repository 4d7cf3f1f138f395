-- `number_at`: the number in `width` bytes from `at` on, most significant byte first.
use mathlib.Core.Path.{◌≡◌, ◌∙◌}
use Prim.Native.Nat.{◌+◌, ◌-◌, ◌<◌}
use native.Mathlib.Omega.{arith}
use lib.ListN.{get_or, drop}
use Rattle.std.proofs.lemmas.List.{get_or-take, get_or-drop}
use borrow.Author.Rules.{rules}
use Rattle.fields.proofs.Reading.{read_none, read_next, read_all, power_small}
use Rattle.fields.proofs.number_at.Goals as goal

pub loop-byte-init : goal.loop-byte-init
loop-byte-init c = read_none _ _ _

pub overflow_mul-value : goal.overflow_mul-value
overflow_mul-value c = omega (arith, power_small c.loop-byte.byte-index (omega arith), c.loop-byte.invariant.small)

pub overflow_add-value : goal.overflow_add-value
overflow_add-value c = omega (arith, power_small c.loop-byte.byte-index (omega arith), c.loop-byte.invariant.small)

pub loop-byte-preserved : goal.loop-byte-preserved
loop-byte-preserved c =
    let inside : c.loop-byte.byte-index < c.args.width = search rules in
    let here : c.from.result ≡ get_or c.args.file.now (c.args.at + c.loop-byte.byte-index) 0 =
    c.from.ensures ∙ get_or-take (c.args.at + c.args.width - c.args.at) (drop c.args.at c.args.file.now) c.loop-byte.byte-index 0 (omega arith)
    ∙ get_or-drop c.args.at c.args.file.now c.loop-byte.byte-index 0 in
    read_next _ _ _ _ _ _ c.loop-byte.invariant inside here (search rules)

pub returns : goal.returns
returns c = let whole = read_all _ _ _ _ _ c.loop-byte.invariant (omega arith) in
    record { value = whole.0; upper_bound = whole.1 }
