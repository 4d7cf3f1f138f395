-- The dynamic program for the costs of the model: the least cost of a row of a tree and its caches, by the row's first node, the
-- serving node above it and the number of caches.
use Rattle.std.specs.Prelude.{Bool, false, cond, List, ℕ}
use Rattle.model.specs.File.{Tree, Demand}
use Rattle.model.specs.Bill.{price}
use Rattle.best_rows.specs.Least.{first_least}
use Rattle.best_rows.specs.Rows.{Site, chosen}
use Rattle.best_rows.specs.Best.{cost_if, own_choice, node_best, later, best, choose}
use Rattle.best_rows.specs.Guarded.{guarded}
use Rattle.best_rows.specs.TreeRows.{first_child, next_sibling, row_at}

-- every member counts for one
abbrev pub one : ℕ → Bool → ℕ
one v u = cond u 1 0

-- of two choices that cost the same the node is no cache: "the set that lacks the node itself now comes first"
abbrev pub prefer : Bool
prefer = false

-- the context is the serving node above; a cache serves itself and what is below it
abbrev pub site : Tree → Demand → ℕ → Site ℕ
site t d v = record { pay = λ serving u. price t d v (cond u v serving); down = λ serving u. cond u v serving }

-- `allows v u` says whether v may be a cache (u is true), or may be none (u is false)
module _ (t : Tree) (d : Demand) (allows : ℕ → Bool → Bool) where
  -- the least cost of the row that begins with v, under a serving node, with exactly m caches
  unfoldable pub best_at : ℕ → ℕ → ℕ → ℕ
  best_at v serving m = best one prefer (guarded allows (site t d)) (row_at t v) serving m

  -- the caches chosen there, ascending
  unfoldable pub best_nodes : ℕ → ℕ → ℕ → List ℕ
  best_nodes v serving m = chosen (row_at t v) (choose one prefer (guarded allows (site t d)) (row_at t v) serving m)

  -- how many caches are placed at budget b: the smallest count at which the server's row costs least
  unfoldable pub least_count : ℕ → ℕ
  least_count b = first_least (best_at (first_child t 0) 0) b

  -- ---- one step, by node numbers: at v, under a serving node

  module _ (v serving : ℕ) where
    -- what v pays, by whether it is a cache
    abbrev pub pay_at : Bool → ℕ
    pay_at = (guarded allows (site t d) v).pay serving

    -- the least cost of the row of v's children, by whether v is a cache
    abbrev pub children_at : Bool → ℕ → ℕ
    children_at u = best_at (first_child t v) (cond u v serving)

    -- the least cost of the row of v's later siblings
    abbrev pub siblings_at : ℕ → ℕ
    siblings_at = best_at (next_sibling t v) serving

    -- the cost of v and its children with n caches, by whether v is one of them
    abbrev costs_at : ℕ → Bool → ℕ
    costs_at = cost_if (one v) pay_at children_at

    -- is v one of n caches at or below it?
    unfoldable pub takes_node : ℕ → Bool
    takes_node = own_choice prefer costs_at

    -- the least cost of v and its children with n caches
    unfoldable pub node_best_at : ℕ → ℕ
    node_best_at = node_best prefer costs_at

    -- how many of the m caches of the row that begins with v are among v's later siblings
    unfoldable pub later_at : ℕ → ℕ
    later_at = later node_best_at siblings_at
