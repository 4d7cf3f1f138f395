-- Document 01, "Tree file" and "Distances and the bill", with 02, item 3: routes, depths, distances and rows in a tree.
use Rattle.std.specs.Prelude.{Bool, List, [], ◌∷◌, ℕ, zero, suc, ◌-◌, eqb, length}
use Rattle.laws.specs.Lists.{range, sum, greatest, has, those, how_many}
use Rattle.model.specs.File.{Tree}

-- "Node 0 is the server"
abbrev pub server : ℕ
server = 0

-- from v up to the server; where k links do not reach it, the server follows at once
unfoldable pub climb : (ℕ → ℕ) → ℕ → ℕ → List ℕ
climb up zero v = 0 ∷ []
climb up (suc k) zero = 0 ∷ []
climb up (suc k) (suc v) = suc v ∷ climb up k (up (suc v))

module _ (t : Tree) where
  -- nodes 0 to n - 1
  abbrev pub nodes : List ℕ
  nodes = range 0 t.count

  -- nodes 1 to n - 1: the server is never a site
  abbrev pub sites : List ℕ
  sites = range 1 (t.count - 1)

  -- those where a cache may stand
  abbrev pub open_sites : List ℕ
  open_sites = those t.is_open sites

  -- v, its parent, .. and the server. Records stand in preorder, so a parent's number is smaller and v links are enough.
  unfoldable pub route : ℕ → List ℕ
  route v = climb t.parent v v

  -- is c at or below v?
  unfoldable pub at_or_below : ℕ → ℕ → Bool
  at_or_below v c = has (route c) v

  -- v, from 1 on, and "its later siblings": the nodes from v on that have v's parent
  abbrev pub siblings_from : ℕ → List ℕ
  siblings_from v = those (λ s. eqb (t.parent s) (t.parent v)) (range v (t.count - v))

  -- "r(v) counts the nodes at or below v and at or below its later siblings", closed ones too
  unfoldable pub nodes_of_row : ℕ → ℕ
  nodes_of_row v = sum (λ s. how_many (at_or_below s) nodes) (siblings_from v)

  -- "Depth counts links to the server"
  unfoldable pub depth : ℕ → ℕ
  depth v = length (route v) - 1

  -- h, the greatest depth
  unfoldable pub height : ℕ
  height = greatest depth nodes

  -- d(v), "the sum of lengths from v to the server". The server's own length is 0 by question 9.
  unfoldable pub distance : ℕ → ℕ
  distance v = sum t.link_length (route v)
