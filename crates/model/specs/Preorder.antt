-- Nodes in preorder: the parent of each is the node before it or an ancestor of that, as rule 7 asks.
use Rattle.std.specs.Prelude.{◌≡◌, true, ℕ, suc, ◌<◌}
use Rattle.laws.specs.Lists.{has}
use Rattle.model.specs.File.{Tree}
use Rattle.model.specs.Tree.{route}

-- the nodes below n are in preorder
abbrev pub PreorderTo : Tree → ℕ → Type 0
PreorderTo t n = (i : ℕ) → suc i < n → has (route t i) (t.parent (suc i)) ≡ true

-- all node numbers are. Past the last record of an accepted file a parent reads as 0, and 0 is on every route.
abbrev pub Preorder : Tree → Type 0
Preorder t = (i : ℕ) → has (route t i) (t.parent (suc i)) ≡ true
