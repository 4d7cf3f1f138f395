-- Laws of what a node pays, as the code works it out: by the situation of its client.
use mathlib.Core.Path.{◌≡◌, ◌∙◌}
use mathlib.Core.List.{List}
use Prim.Native.Nat.{ℕ, ◌*◌, ◌≤◌, ◌<◌, ◌^◌}
use native.Mathlib.Omega.{arith}
use Rattle.model.specs.File.{Tree, Demand, tree_of, demand_of}
use Rattle.model.specs.Tree.{distance}
use Rattle.model.specs.Bill.{whole, cachable, price}
use Rattle.model.specs.Accepted.{Sound}
use Rattle.model.specs.Situations.{Situation, first_situation, cost_in}
use Rattle.model.proofs.Bounds.{way_bound, price_bound}
use Rattle.model.proofs.Situations.{cost_in_price}
use Rattle.best_rows.specs.Best.{cap}
use Rattle.node_words.specs.Words.{word_of, distance_word}
use Rattle.node_words.proofs.Words.{room_sound}
use Rattle.table.specs.Table.{Client}

pub price_within_cap : (t : Tree) (d : Demand) → Sound t d → (v u : ℕ) → price t d v u ≤ cap
unfolding cap
price_within_cap t d ok v u = omega (arith, price_bound t d ok v u)

-- ---- the price, from what the code reads

module _ {file s : List ℕ} {v u all part far near : ℕ} (r : Client file s v u) (e : all ≡ whole (demand_of file) v) (g : part ≡ cachable (demand_of file) v)
    (x : far ≡ word_of s v distance_word) (y : near ≡ word_of s u distance_word) where
  ok : Sound (tree_of file) (demand_of file)
  ok = room_sound r.nodes

  away : far ≡ distance (tree_of file) v
  away = x ∙ r.words.distance v r.node

  served : near ≡ distance (tree_of file) u
  served = y ∙ r.words.distance u r.serving

  -- no more is cachable than all, the serving node is no farther than the client, and all fits in 64 bits
  pub amounts_read : (part ≤ all) × (near ≤ far) × (all * far < 2 ^ 64)
  amounts_read = rw (e, g, away, served) (ok.part v, r.nearer, omega (arith, way_bound (tree_of file) (demand_of file) ok v))

  -- what the first situation that holds costs is the price
  pub paid : {found : Situation} {cost : ℕ} → found ≡ first_situation all part u → cost ≡ cost_in found all part far near → cost ≡ price (tree_of file) (demand_of file) v u
  paid first costs = costs ∙ rw (first, e, g, away, served) (cost_in_price (tree_of file) (demand_of file) v ok.server u)
