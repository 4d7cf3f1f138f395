-- The node function and the row function, as they call each other: what each call may assume, and what its result guarantees.
use mathlib.Core.Path.{◌≡◌, sym, ◌∙◌}
use mathlib.Core.Bool.{Bool, and-true}
use mathlib.Core.List.{List}
use Prim.Native.Nat.{ℕ, ◌+◌, ◌-◌, ◌≤◌, ◌<◌, ◌^◌}
use native.Mathlib.Omega.{arith}
use lib.Dec.{eqb}
use lib.ListN.{length, get_or, set}
use Rattle.laws.specs.Lists.{range, has}
use Rattle.laws.proofs.Lists.{has_those, in_range}
use Rattle.model.specs.File.{Tree, Demand, tree_of, demand_of}
use Rattle.placement.specs.Passes.{self_serving, Walkable}
use Rattle.placement.specs.declared.Served.{Served}
use Rattle.placement.specs.Walks.{Begins, NodeWalked, RowWalked, RowUpTo, Bounded, Raised}
use Rattle.placement.proofs.Walks.{walked_kept, row_begins, row_starts, row_at_end, row_stops, row_goes_on, node_walked}
use Rattle.placement.proofs.Sizes.{relief_bound, node_load_bound, row_load_bound}

-- what the walks may assume
pub walks_here : (s : Served) {loads : List ℕ} → s.n ≤ length loads → Walkable s.file.now s.n s.servings.now loads
walks_here s h = record { of_file = s.of_file; servings_long = s.servings_long; loads_long = h }

-- a site is a member just if it serves itself
pub self_serving_member : (n : ℕ) (servings : List ℕ) (v : ℕ) → 1 ≤ v → v < n → eqb (get_or servings v 0) v ≡ has (self_serving n servings) v
unfolding self_serving
self_serving_member n servings v z h =
    let p : ℕ → Bool = λ u. eqb (get_or servings u 0) u in
    sym (has_those p v (range 1 (n - 1)) ∙ rw (in_range 1 (n - 1) v z (omega arith)) (and-true (p v)))

module _ {file servings loads : List ℕ} {n : ℕ} (given : Walkable file n servings loads) where
  abbrev t : Tree
  t = tree_of file

  abbrev d : Demand
  d = demand_of file

  abbrev k : List ℕ
  k = self_serving n servings

  -- ---- node v

  pub children_begin : (v : ℕ) → v < n → Begins t v (v + 1)
  children_begin v h = row_begins t given.of_file.sound.preorder v (omega (arith, given.of_file.nodes))

  pub row_bounded : {loads₀ loads' : List ℕ} {v i e load relief : ℕ} → RowWalked t d k loads₀ v i e load relief loads' → Bounded load relief
  row_bounded {v = v} {i = i} {e = e} w = record {
    loads = row_load_bound t d given.of_file.sound k v i e w.ends.in_file w.loads_above;
    relieves = relief_bound t d given.of_file.sound w.ends.in_file w.walked;
  }

  pub node_raised : {loads' : List ℕ} {v e load relief : ℕ} → 1 ≤ v → v < n → RowWalked t d k loads v (v + 1) e load relief loads'
      → {end above whole : ℕ} → end ≡ e → Raised d (eqb (get_or servings v 0) v) v load relief above whole
      → NodeWalked t d k loads v end above whole (set loads' v above)
  node_raised {v = v} z h w e r =
      rw e
      (node_walked t d k given.of_file.sound.preorder z (omega (arith, given.of_file.nodes)) w (eqb (get_or servings v 0) v) _ _
      (self_serving_member n servings v z h) r.relieves r.load_above)

  -- ---- the row of v's children from node i on, walked up to node e

  pub row_opens : {v i : ℕ} → Begins t v i → RowUpTo t d k loads v i i 0 0 loads
  row_opens b = row_starts t d k given.of_file.sound.preorder loads b

  module _ {loads' : List ℕ} {v i e load relief : ℕ} (w : RowUpTo t d k loads v i e load relief loads') where
    -- no load comes or goes
    pub row_kept : n ≤ length loads'
    row_kept = omega (arith, walked_kept t d k w.walked, given.loads_long)

    -- the file ends
    pub row_over : n ≤ e → RowWalked t d k loads v i e load relief loads'
    row_over h = row_at_end t d k given.of_file.sound.preorder w (omega (arith, given.of_file.nodes))

    -- node e is not below v
    pub row_left : {p : ℕ} → p ≡ t.parent e → p < v → RowWalked t d k loads v i e load relief loads'
    row_left is-parent h = row_stops t d k given.of_file.sound.preorder w (omega arith)

    -- it is a child of v, and is walked
    module _ {loads'' : List ℕ} {e₂ load₂ relief₂ : ℕ} (next : NodeWalked t d k loads' e e₂ load₂ relief₂ loads'') where
      pub sums_fit : (load + load₂ < 2 ^ 64) × (relief + relief₂ < 2 ^ 64)
      sums_fit =
          let sound = given.of_file.sound in (
            omega (arith, row_load_bound t d sound k v i e w.goes_on.in_file w.loads_above, node_load_bound t d sound next),
            omega (arith, relief_bound t d sound w.goes_on.in_file w.walked, relief_bound t d sound next.ends.in_file next.walked),
          )

      pub row_joined : {p end above whole : ℕ} → p ≡ t.parent e → v ≤ p → (end ≡ e₂) × (above ≡ load + load₂) × (whole ≡ relief + relief₂)
          → RowUpTo t d k loads v i end above whole loads''
      row_joined is-parent child is =
          rw (is.0, is.1, is.2) (row_goes_on t d k given.of_file.sound.preorder w (omega arith) next)
