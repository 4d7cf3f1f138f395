-- `count_rows`: stores for each node how many nodes the row has that begins with it.
use mathlib.Core.Path.{◌≡◌, ap, ◌∙◌}
use Prim.Native.Nat.{◌-◌}
use native.Mathlib.Omega.{arith}
use lib.ListN.{replicate, length-take}
use Rattle.places.specs.Places.{no_place}
use Rattle.places.proofs.Counting.{width_same, width_other, all_none, entries_fit, counted_last, counted_all}
use Rattle.places.proofs.count_rows.Goals as goal

pub slice_bounds-fill-end : goal.slice_bounds-fill-end
slice_bounds-fill-end c = (entries_fit c.requires).1

pub slice_bounds-fill-end-2 : goal.slice_bounds-fill-end-2
slice_bounds-fill-end-2 c = let fit = entries_fit c.requires in rw length-take (omega arith)

pub loop-v-init : goal.loop-v-init
loop-v-init c =
    let fit = entries_fit c.requires in
    counted_last c.requires (all_none c.args.n _ (c.fill.ensures.after (λ y e. e) ∙ ap (λ m. replicate m no_place) (simp length-take (omega arith))))

pub returns : goal.returns
returns c = let fit = entries_fit c.requires in
    let first : c.loop-v.v - 1 ≡ 0 = omega (arith, c.loop-v.auto.v) in
    counted_all c.requires (rw first at c.loop-v.invariant) (width_same c.loop-v.places 0 _ (omega (arith, c.loop-v.auto.places))) (width_other c.loop-v.places 0 _)
