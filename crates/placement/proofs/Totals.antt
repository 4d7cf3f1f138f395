-- Laws of the pass that adds up loads times lengths: no sum on the way is more than the whole, and the whole is the total.
use mathlib.Core.Path.{◌≡◌, refl, ap, ◌∙◌}
use mathlib.Core.List.{List, map}
use Prim.Native.Nat.{ℕ, ◌+◌, ◌*◌, ◌-◌, ◌≤◌, ◌<◌}
use native.Mathlib.Omega.{arith}
use lib.ListN.{length, get_or}
use lib.Seq.{sets}
use Rattle.laws.specs.Lists.{range, sum}
use Rattle.laws.proofs.Lists.{range_bounds}
use Rattle.laws.proofs.Sums.{sum_same}
use Rattle.laws.proofs.Sums.{sum_fewer}
use Rattle.laws.proofs.Ranges.{sum_next, entry_stored}
use Rattle.model.specs.File.{Tree, Demand}
use Rattle.model.specs.Tree.{nodes, sites}
use Rattle.model.specs.Bill.{total, link_load, link_total}
use Rattle.model.specs.Accepted.{Sound}
use Rattle.model.proofs.Loads.{links_total_lem}
use Rattle.placement.specs.Passes.{total_before}

module _ (t : Tree) (loads : List ℕ) where
  pub total_begins : total_before t loads 1 ≡ 0
  unfolding total_before sum range
  total_begins = refl

  next_total : (v : ℕ) → 1 ≤ v → total_before t loads (v + 1) ≡ total_before t loads v + get_or loads v 0 * t.link_length v
  unfolding total_before
  next_total v z = sum_next (λ u. get_or loads u 0 * t.link_length u) 1 v z

  -- a turn at v, whose link has length l: no sum is more than the whole
  module _ (v l so_far : ℕ) (z : 1 ≤ v) (is-length : l ≡ t.link_length v) (is : so_far ≡ total_before t loads v) where
    here : get_or loads v 0 * l ≡ get_or loads v 0 * t.link_length v
    here = ap (λ (x : ℕ). get_or loads v 0 * x) is-length

    pub total_fits : (n : ℕ) → v < n → so_far + get_or loads v 0 * l ≤ total_before t loads n
    unfolding total_before
    total_fits n h =
        omega (arith, here, next_total v z, sum_fewer (λ u. get_or loads u 0 * t.link_length u) 1 (v + 1 - 1) (n - 1) (omega arith))

    pub total_turns : (link next : ℕ) → link ≡ get_or loads v 0 * l → next ≡ so_far + link → next ≡ total_before t loads (v + 1)
    total_turns link next e f = omega (arith, here, next_total v z)

-- with the loads of a set written, the whole is its total
pub total_of_loads : (t : Tree) (d : Demand) (k loads loads' : List ℕ) → Sound t d → t.count ≤ length loads
    → loads' ≡ sets loads 0 (map (link_load t d k) (nodes t)) → total_before t loads' t.count ≡ total t d k
unfolding total_before link_total
total_of_loads t d k loads loads' ok room written =
    let entry : (v : ℕ) → v < t.count → get_or loads' v 0 ≡ link_load t d k v = λ v h. rw written (entry_stored loads (link_load t d k) t.count v room h) in
    sum_same (λ u. get_or loads' u 0 * t.link_length u) (λ u. link_load t d k u * t.link_length u) (sites t)
    (λ v m. let v_in = range_bounds 1 (t.count - 1) v m in ap (λ (x : ℕ). x * t.link_length v) (entry v (omega arith)))
    ∙ links_total_lem t d ok.preorder k ok.server ok.part
