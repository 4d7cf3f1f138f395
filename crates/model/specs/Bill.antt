-- Document 01, "Distances and the bill", with 02, item 2: what a set costs, its serving nodes and its link loads.
use Rattle.std.specs.Prelude.{cond, List, [], ◌∷◌, ℕ, zero, suc, ◌*◌, ◌-◌, ◌^◌, eqb}
use Rattle.laws.specs.Lists.{sum, least, has, any_of, those, first_that}
use Rattle.model.specs.File.{Tree, Share, ratio, bytes, Demand}
use Rattle.model.specs.Tree.{server, nodes, sites, route, at_or_below, distance}

-- hits, loads and totals count in thousandths: the 1,000 of the formulas
abbrev pub thousandths : ℕ
thousandths = 1000

-- "below 2^62": what no total reaches
abbrev pub total_limit : ℕ
total_limit = 2 ^ 62

-- the part of a route up to v inclusive
unfoldable pub up_to : ℕ → List ℕ → List ℕ
up_to v [] = []
up_to v (u ∷ us) = let r = up_to v us in u ∷ cond (eqb u v) [] r

-- ---- one client of flow f, by what of it is cachable: amounts, costs and loads in thousandths

-- the part of it that a cache can serve: f × p, or 1,000 × cachable
abbrev pub cachable_amount : ℕ → Share → ℕ
cachable_amount f (ratio p) = f * p
cachable_amount f (bytes b) = thousandths * b

-- what it costs at distance x from the server if a node at distance y serves it: "f × (1,000 × d(c) − p × d(v))", and from
-- version 2 on "1,000 × (flow × d(c) − cachable × d(v))"
abbrev pub served_price : ℕ → Share → ℕ → ℕ → ℕ
served_price f (ratio p) x y = f * (thousandths * x - p * y)
served_price f (bytes b) x y = thousandths * (f * x - b * y)

-- what it puts on a link where a cache serves it: "f × (1,000 − p)", and from version 2 on "1,000 × (flow − cachable)"
abbrev pub served_load : ℕ → Share → ℕ
served_load f (ratio p) = f * (thousandths - p)
served_load f (bytes b) = thousandths * (f - b)

module _ (d : Demand) (c : ℕ) where
  -- all that the client at c asks for: f × 1,000
  unfoldable pub whole : ℕ
  whole = d.flow c * thousandths

  -- the part of it that is cachable
  unfoldable pub cachable : ℕ
  cachable = cachable_amount (d.flow c) (d.share c)

-- ---- what a set costs

module _ (t : Tree) (d : Demand) where
  -- what the client at c would cost if v served it. For v on the route of c and an accepted file no difference is cut off at 0
  -- (law m).
  unfoldable pub price : ℕ → ℕ → ℕ
  price c v = served_price (d.flow c) (d.share c) (distance t c) (distance t v)

  -- the least over its route: the server, and each member of K
  unfoldable pub cost : List ℕ → ℕ → ℕ
  cost k c = least (price c) server (those (has k) (route t c))

  -- "The total of K is the sum over all nodes"
  unfoldable pub total : List ℕ → ℕ
  total k = sum (cost k) (nodes t)

  -- what the client at c puts on the link above v, at or below which it is: the load where a cache serves it "if K has a node
  -- from c up to v inclusive", else f × 1,000. On an accepted file no difference is cut off at 0 (law m).
  unfoldable pub client_load : List ℕ → ℕ → ℕ → ℕ
  client_load k v c = cond (any_of (has k) (up_to v (route t c))) (served_load (d.flow c) (d.share c)) (d.flow c * thousandths)

  -- the load on the link above v; node 0 has load 0
  unfoldable pub link_load : List ℕ → ℕ → ℕ
  link_load k zero = 0
  link_load k (suc v) = sum (client_load k (suc v)) (those (at_or_below t (suc v)) (nodes t))

  -- "over the links above nodes 1 to n − 1, loads times lengths"
  unfoldable pub link_total : List ℕ → ℕ
  link_total k = sum (λ v. link_load k v * t.link_length v) (sites t)

-- the serving node: "the first member of K met going up from the node, itself included, else 0"
unfoldable pub serving : Tree → List ℕ → ℕ → ℕ
serving t k v = first_that (has k) server (route t v)
