-- The empty set: the server serves every client, so the total is each client's whole flow over its distance.
use mathlib.Core.Path.{◌≡◌, refl, ap, ◌∙◌}
use mathlib.Core.List.{List, []}
use Prim.Native.Nat.{ℕ, suc, ◌+◌, ◌*◌, ◌≤◌, ◌<◌, ◌^◌}
use native.Mathlib.Nat.{zero-add}
use native.Mathlib.Numerals.{add-one}
use native.Mathlib.Omega.{arith}
use Rattle.laws.specs.Lists.{range, sum, has}
use Rattle.laws.proofs.Sums.{sum_snoc, sum_fewer}
use Rattle.model.specs.File.{Tree, Demand, tree_of, demand_of}
use Rattle.model.specs.Tree.{distance}
use Rattle.model.specs.Bill.{whole, cost, total, serving}
use Rattle.model.specs.Preorder.{Preorder}
use Rattle.model.specs.Accepted.{Sound}
use Rattle.model.proofs.Routes.{by_route, distance_server}
use Rattle.model.proofs.Amounts.{price_amounts}
use Rattle.model.proofs.Nearest.{serving_server, serving_up, cost_is}
use Rattle.model.proofs.Bounds.{total_bound}
use Rattle.node_words.specs.Words.{distance_word, word_of}
use Rattle.node_words.proofs.Words.{room_sound}
use Rattle.greedy.specs.Savings.{serving_distance}
use Rattle.greedy.specs.Words.{DistancesStored}

-- the server serves every client
serving_of_none : (t : Tree) → Preorder t → (v : ℕ) → serving t [] v ≡ 0
unfolding has
serving_of_none t pre =
    by_route t pre (λ v. serving t [] v ≡ 0) (serving_server t pre []) (λ i h. serving_up t pre [] i ∙ h)

pub serving_distance_none : (t : Tree) (d : Demand) → Sound t d → (v : ℕ) → serving_distance t [] v ≡ 0
unfolding serving_distance
serving_distance_none t d ok v = ap (distance t) (serving_of_none t ok.preorder v) ∙ distance_server t ok.server

cost_of_none : (t : Tree) (d : Demand) → Sound t d → (c : ℕ) → whole d c * distance t c ≡ cost t d [] c
cost_of_none t d ok c =
    rw (cost_is t ok.preorder [] d c, serving_of_none t ok.preorder c, price_amounts d c t 0, distance_server t ok.server) (omega arith)

module _ {file : List ℕ} {n : ℕ} {words : List ℕ} (stored : DistancesStored file n words) where
  abbrev costs : ℕ → ℕ
  costs = cost (tree_of file) (demand_of file) []

  -- the costs of the nodes before v
  abbrev pub Summed : ℕ → ℕ → Type 0
  Summed v held = (v ≤ n) × (held ≡ sum costs (range 0 v))

  pub summed_none : Summed 0 0
  unfolding sum range
  summed_none = (omega arith, refl)

  module _ {v held f x : ℕ} (s : Summed v held) (below : v < n) (ef : f ≡ whole (demand_of file) v) (ex : x ≡ word_of words v distance_word) where
    cost_here : f * x ≡ costs v
    cost_here = rw (ef, ex, stored.distances v below) (cost_of_none (tree_of file) (demand_of file) (room_sound stored.room) v)

    more : sum costs (range 0 (suc v)) ≡ held + f * x
    more = sum_snoc costs 0 v ∙ (rw (zero-add v, cost_here, s.1))

    -- no sum on the way exceeds the total
    pub summed_small : held + f * x < 2 ^ 62
    unfolding total
    summed_small =
        let ok = room_sound stored.room in
        omega (
          arith,
          more,
          sum_fewer costs 0 (suc v) (tree_of file).count (omega (arith, stored.room.count)),
          total_bound (tree_of file) (demand_of file) ok [],
        )

    pub summed_next : {y : ℕ} → y ≡ held + f * x → Summed (v + 1) y
    summed_next e = (omega arith, rw (add-one v) (omega (arith, more)))

  pub summed_all : {v held : ℕ} → Summed v held → n ≤ v → held ≡ total (tree_of file) (demand_of file) []
  unfolding total
  summed_all {v} s h =
      let all : v ≡ (tree_of file).count = omega (arith, stored.room.count) in
      s.1 ∙ ap (λ (m : ℕ). sum costs (range 0 m)) all
