-- The ancestor of a node at a given depth. A line of the table is for one such ancestor as the serving node.
use Rattle.std.specs.Prelude.{ℕ, ◌-◌, get_or}
use Rattle.model.specs.File.{Tree}
use Rattle.model.specs.Tree.{route, depth}

-- the node at depth a on the route of v, for a up to the depth of v
unfoldable pub ancestor_at : Tree → ℕ → ℕ → ℕ
ancestor_at t v a = get_or (route t v) (depth t v - a) 0
