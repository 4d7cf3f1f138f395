-- What a cache at a node would save, and how one pass over the nodes from the last down finds the flow that reaches each before a
-- site is taken.
use Rattle.std.specs.Prelude.{Bool, not, ◌||◌, List, [], ℕ, ◌+◌, ◌*◌, ◌-◌, eqb}
use Rattle.laws.specs.Lists.{range, sum, has, those}
use Rattle.model.specs.File.{Tree, Demand, most_nodes, most_flow}
use Rattle.model.specs.Tree.{nodes, distance}
use Rattle.model.specs.Bill.{thousandths, cachable, serving}
use Rattle.model.specs.Greedy.{with_node}

-- no more than this reaches a node, within the sizes of a tree file
abbrev pub most_reach : ℕ
most_reach = most_nodes * (most_flow * thousandths)

module _ (t : Tree) where
  -- may no cache stand at v?
  abbrev pub is_closed : ℕ → Bool
  is_closed v = not (t.is_open v)

  -- does a step from K pass over v, a member of K or closed?
  abbrev pub is_passed_over : List ℕ → ℕ → Bool
  is_passed_over k v = has k v || is_closed v

  -- would a cache at x serve the client at c? So c is at or below x and meets no member of K before x.
  unfoldable pub reaches : List ℕ → ℕ → ℕ → Bool
  reaches k x c = eqb x (serving t (with_node x k) c)

  -- how far the serving node of v is from the server
  unfoldable pub serving_distance : List ℕ → ℕ → ℕ
  serving_distance k v = distance t (serving t k v)

module _ (t : Tree) (d : Demand) where
  -- the cachable flow at or below x that meets no cache before x
  unfoldable pub reach : List ℕ → ℕ → ℕ
  reach k x = sum (cachable d) (those (reaches t k x) (nodes t))

  -- what a cache at x would save: the way from the serving node of x to x, for all that reaches x
  unfoldable pub saving : List ℕ → ℕ → ℕ
  saving k x = (distance t x - serving_distance t k x) * reach k x

  -- what the pass down has put at p once it has passed nodes i to n − 1: p's own cachable flow, and what reaches those of
  -- its children that were passed
  unfoldable pub gathered : ℕ → ℕ → ℕ
  gathered i p = cachable d p + sum (reach []) (those (λ u. eqb p (t.parent u)) (range i (t.count - i)))
