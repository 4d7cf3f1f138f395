-- What the passes of the bill leave, one after the other: the serving nodes tell the set, the walk of the server's row writes
-- every load, and the links add up to the total.
use mathlib.Core.Path.{◌≡◌, sym, ap, ◌∙◌}
use mathlib.Core.List.{List}
use Prim.Native.Nat.{ℕ, ◌-◌, ◌≤◌, ◌<◌}
use native.Mathlib.Omega.{arith}
use lib.Dec.{eqb}
use lib.ListN.{length, get_or, set, length-set}
use lib.Seq.{sets}
use Rattle.laws.specs.Lists.{range}
use Rattle.laws.proofs.Ranges.{entry_stored}
use Rattle.model.specs.File.{Tree, Demand, tree_of, demand_of}
use Rattle.model.specs.Bill.{serving, total, total_limit}
use Rattle.model.specs.Calls.{serving_nodes, link_loads}
use Rattle.model.specs.Accepted.{Sound}
use Rattle.model.proofs.Ascending.{ascends_range, ascends_those, same_members, set_ascends}
use Rattle.model.proofs.Bounds.{total_bound}
use Rattle.placement.specs.Passes.{self_serving, total_before, Billable, Walkable}
use Rattle.placement.specs.Walks.{RowWalked}
use Rattle.placement.specs.Answers.{BillWritten}
use Rattle.placement.proofs.Servings.{member_by_serving}
use Rattle.placement.proofs.Walks.{all_walked}
use Rattle.placement.proofs.Turns.{self_serving_member}
use Rattle.placement.proofs.Totals.{total_of_loads}

module _ {file k servings loads : List ℕ} {n : ℕ} (given : Billable file n k) (room : Walkable file n servings loads) where
  abbrev t : Tree
  t = tree_of file

  abbrev d : Demand
  d = demand_of file

  sound : Sound t d
  sound = given.of_file.sound

  module _ {servings' : List ℕ} (servings-are : servings' ≡ sets servings 0 (serving_nodes file k)) where
    -- the nodes that serve themselves are the members
    servings_tell : self_serving n servings' ≡ k
    unfolding self_serving
    servings_tell =
        let all = given.of_file.nodes in
        let entry : (v : ℕ) → v < t.count → get_or servings' v 0 ≡ serving t k v =
        λ v h. rw servings-are (entry_stored servings (serving t k) t.count v (omega (arith, room.servings_long)) h) in
        same_members n 0 (self_serving n servings') k (ascends_those n _ 0 (range 1 (n - 1)) (ascends_range n 0 (n - 1) (omega arith))) (rw all (set_ascends t k given.of_nodes))
        (λ v z h. sym (self_serving_member n servings' v z h) ∙ ap (λ (x : ℕ). eqb x v) (entry v (omega arith)) ∙ member_by_serving t sound.preorder k v z)

    module _ {loads' : List ℕ} {e load relief : ℕ} (row : RowWalked t d (self_serving n servings') loads 0 1 e load relief loads') where
      loads_are_lem : set loads' 0 0 ≡ sets loads 0 (link_loads file k)
      loads_are_lem = rw servings_tell at (all_walked t d (self_serving n servings') sound.preorder row)

      links_are : total_before t (set loads' 0 0) n ≡ total t d k
      links_are = rw given.of_file.nodes (total_of_loads t d k loads (set loads' 0 0) sound (omega (arith, room.loads_long, given.of_file.nodes)) loads_are_lem)

      pub loads_long_lem : length loads' ≡ length loads → n ≤ length (set loads' 0 0)
      loads_long_lem kept = rw (length-set loads' 0 0) (omega (arith, room.loads_long))

      pub links_bounded : total_before t (set loads' 0 0) n < total_limit
      links_bounded = rw links_are (total_bound t d sound k)

      pub bill_written : {x : ℕ} → x ≡ total_before t (set loads' 0 0) n → BillWritten file k servings loads x servings' (set loads' 0 0)
      bill_written is = record { total_is = is ∙ links_are; servings_are = servings-are; loads_are = loads_are_lem }
