-- The laws of the definitions, a to n, on one page. They are proved for every accepted file: `lawful` in proofs/Laws.
-- Numbers are written out here, so that a wrong constant breaks a law. Laws of calls are in `CallLaws`, of a file's version in
-- `Versions`, of a client's situation in `Situations`, of files that add in `Adds`, of the least totals with a node and without it
-- in `WithOrWithout`, and of the least budget for a target in `LeastBudget`.
use Rattle.std.specs.Prelude.{◌≡◌, true, false, ◌&&◌, ◌||◌, ◌↔◌, ◌⊎◌, ℕ, ◌*◌, ◌-◌, ◌≤◌, ◌<◌, eqb, length, take, get_or}
use mathlib.Core.List.{List, [], Memᴰ}
use Rattle.laws.specs.Lists.{range, sum, has, any_of, how_many}
use Rattle.model.specs.File.{Tree, ratio, bytes, Demand}
use Rattle.model.specs.Tree.{server, nodes, route, at_or_below, nodes_of_row, distance}
use Rattle.model.specs.Rules.{ascends, is_set}
use Rattle.model.specs.Bill.{total_limit, price, cost, total, link_load, link_total, serving}
use Rattle.model.specs.Ties.{ties_before, ranks_before}
use Rattle.model.specs.Plan.{all_sets, plan, plan_total}
use Rattle.model.specs.Greedy.{with_node, with_nodes, greedy_nodes, greedy_set, greedy_total}

-- ---- for law e: the first of all sets of at most b nodes

-- K is a set of at most b nodes, and ranks before every other one
pub record RanksFirst (t : Tree) (d : Demand) (b : ℕ) (k : List ℕ) : Type 0 where
  pub is_a_set : is_set t k ≡ true
  pub within : length k ≤ b
  pub first : (l : List ℕ) → is_set t l ≡ true → length l ≤ b → (l ≡ k → ⊥) → ranks_before t d k l ≡ true

-- ---- for law h: the order of ties, said without recursion

-- how many nodes of K have v on their route
abbrev pub under : Tree → List ℕ → ℕ → ℕ
under t k v = how_many (λ u. has (route t u) v) k

module _ (t : Tree) (k l : List ℕ) where
  -- K and L have equally many nodes at or below u, and both or neither have u
  abbrev pub Alike : ℕ → Type 0
  Alike u = (under t k u ≡ under t l u) × (has k u ≡ has l u)

  -- K has more nodes at or below v than L, or equally many and L has v and K has not
  abbrev pub Ahead : ℕ → Type 0
  Ahead v = (under t l v < under t k v) ⊎ ((under t k v ≡ under t l v) × (has k v ≡ false) × (has l v ≡ true))

  -- of the nodes from i on and below n, v is the first at which K and L are not alike, and K is ahead there
  pub record Decides (i n v : ℕ) : Type 0 where
    pub site : (i ≤ v) × (v < n)
    pub before : (u : ℕ) → i ≤ u → u < v → Alike u
    pub here : Ahead v

-- v is a site below u, and K has neither
pub record LowerSite (t : Tree) (k : List ℕ) (u v : ℕ) : Type 0 where
  pub site : (1 ≤ u) × (v < t.count)
  pub below : (has (route t v) u ≡ true) × (v ≡ u → ⊥)
  pub outside : (has k u ≡ false) × (has k v ≡ false)

-- ---- for law i: the greedy rule, said without recursion

-- v is the node that the greedy rule takes from K
pub record Takes (t : Tree) (d : Demand) (k : List ℕ) (v : ℕ) : Type 0 where
  pub site : (1 ≤ v) × (v < t.count)
  pub is_open : t.is_open v ≡ true
  pub outside : has k v ≡ false
  pub lowers : total t d (with_node v k) < total t d k
  -- no other open node outside K undercuts it
  pub least : (u : ℕ) → 1 ≤ u → u < t.count → t.is_open u ≡ true → has k u ≡ false
      → total t d (with_node v k) ≤ total t d (with_node u k)
  -- every smaller-numbered one exceeds it
  pub smallest : (u : ℕ) → 1 ≤ u → u < v → t.is_open u ≡ true → has k u ≡ false
      → total t d (with_node v k) < total t d (with_node u k)

-- no open node outside K lowers the total
pub record Rests (t : Tree) (d : Demand) (k : List ℕ) : Type 0 where
  pub none_lowers : (u : ℕ) → 1 ≤ u → u < t.count → t.is_open u ≡ true → has k u ≡ false → total t d k ≤ total t d (with_node u k)

-- g are the nodes that the greedy rule takes from K in at most b steps, in the order taken
pub record RunFrom (t : Tree) (d : Demand) (k : List ℕ) (b : ℕ) (g : List ℕ) : Type 0 where
  pub within : length g ≤ b
  pub steps : (j : ℕ) → j < length g → Takes t d (with_nodes k (take j g)) (get_or g j 0)
  -- fewer than b only where no open node outside lowers the total
  pub stop : length g < b → Rests t d (with_nodes k g)

-- those that it takes from the empty set
abbrev pub GreedyRun : Tree → Demand → ℕ → List ℕ → Type 0
GreedyRun t d b g = RunFrom t d [] b g

-- ---- for laws j and l: serving nodes and link loads, said without recursion over a route

-- s is "the first member of K met going up from the node, itself included, else 0"
pub record Serves (t : Tree) (k : List ℕ) (v s : ℕ) : Type 0 where
  pub on_route : at_or_below t s v ≡ true
  pub member : (has k s ≡ true) ⊎ (s ≡ server)
  -- every member on the way from v to the server is s or comes after it
  pub nearest : (u : ℕ) → has k u ≡ true → at_or_below t u v ≡ true → at_or_below t u s ≡ true

-- "K has a node from c up to v inclusive"
abbrev pub CacheBetween : Tree → List ℕ → ℕ → ℕ → Type 0
CacheBetween t k c v = (u : ℕ) × (has k u ≡ true) × (at_or_below t u c ≡ true) × (at_or_below t v u ≡ true)

-- x is what the client at c puts on the link above v
pub record PutsOn (t : Tree) (d : Demand) (k : List ℕ) (c v x : ℕ) : Type 0 where
  -- only "clients c at or below v"
  pub elsewhere : at_or_below t v c ≡ false → x ≡ 0
  -- "f × (1,000 − p) if K has a node from c up to v inclusive"
  pub relieved_ratio : (p : ℕ) → d.share c ≡ ratio p → CacheBetween t k c v → x ≡ d.flow c * (1000 - p)
  -- "A load counts 1,000 × (flow − cachable) where a cache serves"
  pub relieved_bytes : (b : ℕ) → d.share c ≡ bytes b → CacheBetween t k c v → x ≡ 1000 * (d.flow c - b)
  -- "else f × 1,000"
  pub whole : at_or_below t v c ≡ true → (CacheBetween t k c v → ⊥) → x ≡ d.flow c * 1000

-- ---- the laws

pub record Lawful (t : Tree) (d : Demand) : Type 0 where
  -- a. Distances grow along a route, so the least price over the route is the price at the serving node.
  pub distances_grow : (u v : ℕ) → has (route t v) u ≡ true → distance t u ≤ distance t v
  pub least_at_serving : (k : List ℕ) (c : ℕ) → cost t d k c ≡ price t d c (serving t k c)
  -- b. Over the links above nodes 1 to n − 1, loads times lengths add up to the total.
  pub loads_add_up : (k : List ℕ) → link_total t d k ≡ total t d k
  -- c. A set ascends strictly from 1 on, below n, and each of its nodes is open. The enumeration holds exactly the sets of at most
  -- b nodes.
  pub set_said : (k : List ℕ) → is_set t k ≡ true ↔ ((ascends 0 t.count k ≡ true) × ((v : ℕ) → has k v ≡ true → t.is_open v ≡ true))
  pub all_sets_exact : (b : ℕ) (k : List ℕ) → Memᴰ k (all_sets t b) ↔ ((is_set t k ≡ true) × (length k ≤ b))
  -- d. Rank is by total, then in the order of ties, and is a strict total order on sets.
  pub rank_said : (k l : List ℕ) → ranks_before t d k l ≡ true
      ↔ ((total t d k < total t d l) ⊎ ((total t d k ≡ total t d l) × (ties_before t k l ≡ true)))
  pub rank_irreflexive : (k : List ℕ) → ranks_before t d k k ≡ false
  pub rank_transitive : (k l m : List ℕ) → ranks_before t d k l ≡ true → ranks_before t d l m ≡ true → ranks_before t d k m ≡ true
  pub rank_total : (k l : List ℕ) → is_set t k ≡ true → is_set t l ≡ true → (k ≡ l → ⊥)
      → (ranks_before t d k l ≡ true) ⊎ (ranks_before t d l k ≡ true)
  -- e. The plan at b is a set of at most b nodes that ranks before every other, and is the only one that does.
  pub plan_first : (b : ℕ) → RanksFirst t d b (plan t d b)
  pub plan_only : (b : ℕ) (k : List ℕ) → RanksFirst t d b k → k ≡ plan t d b
  -- f. Every total is below 2^62.
  pub totals_small : (k : List ℕ) → total t d k < total_limit
  -- g. Greedy's total after at most b steps is the total of a set of at most b nodes, those taken, so it is never below the
  -- plan's.
  pub greedy_total_is : (b : ℕ) → greedy_total t d b ≡ total t d (greedy_set t d b)
  pub greedy_set_has : (b u : ℕ) → has (greedy_set t d b) u ≡ has (greedy_nodes t d b) u
  pub greedy_is_set : (b : ℕ) → is_set t (greedy_set t d b) ≡ true
  pub greedy_within : (b : ℕ) → length (greedy_set t d b) ≤ b
  pub greedy_no_less : (b : ℕ) → plan_total t d b ≤ greedy_total t d b
  -- h. The order of ties, said without recursion.
  pub ties_said : (k l : List ℕ) → ties_before t k l ≡ true
      ↔ ((length k < length l) ⊎ ((length k ≡ length l) × ((v : ℕ) × Decides t k l 1 t.count v)))
  -- "Operators prefer the lower of two equal sites": K with the lower one comes first, and the plan has no site in whose place an open
  -- one below it costs as little.
  pub lower_first : (k : List ℕ) (u v : ℕ) → LowerSite t k u v → ties_before t (with_node v k) (with_node u k) ≡ true
  pub plan_lowest : (b : ℕ) (k : List ℕ) (u v : ℕ) → LowerSite t k u v → t.is_open v ≡ true → plan t d b ≡ with_node u k
      → plan_total t d b < total t d (with_node v k)
  -- i. The greedy rule, said without recursion; only its nodes fit, and fewer steps take the first of them. A set with one
  -- node more has that node and its own.
  pub with_node_has : (v u : ℕ) (k : List ℕ) → has (with_node v k) u ≡ (eqb v u || has k u)
  pub greedy_said : (b : ℕ) → GreedyRun t d b (greedy_nodes t d b)
  pub greedy_prefix : (b j : ℕ) → j ≤ b → take j (greedy_nodes t d b) ≡ greedy_nodes t d j
  pub greedy_only : (b : ℕ) (g : List ℕ) → GreedyRun t d b g → g ≡ greedy_nodes t d b
  -- j. The serving node is the first member of K met going up, itself included, else the server, and no other node is.
  pub serving_said : (k : List ℕ) (v : ℕ) → Serves t k v (serving t k v)
  pub serving_only : (k : List ℕ) (v s : ℕ) → Serves t k v s → s ≡ serving t k v
  -- k. A client's cost is "the least over v on its route (c itself and the server included; v in K or the server)": none costs
  -- less, and one costs it.
  pub cost_least : (k : List ℕ) (c v : ℕ) → at_or_below t v c ≡ true → (has k v ≡ true) ⊎ (v ≡ server) → cost t d k c ≤ price t d c v
  pub cost_reached : (k : List ℕ) (c : ℕ)
      → (v : ℕ) × (at_or_below t v c ≡ true) × ((has k v ≡ true) ⊎ (v ≡ server)) × (cost t d k c ≡ price t d c v)
  -- l. The load above each single link, also one of length 0, is the sum of what each client puts there; node 0 has load 0.
  pub load_said : (k : List ℕ) (v : ℕ) → 1 ≤ v
      → (puts : ℕ → ℕ) × ((c : ℕ) → PutsOn t d k c v (puts c)) × (link_load t d k v ≡ sum puts (nodes t))
  pub server_load : (k : List ℕ) → link_load t d k server ≡ 0
  -- m. No difference in a price or a load is cut off at 0.
  pub ratio_price_exact : (c v p : ℕ) → d.share c ≡ ratio p → at_or_below t v c ≡ true → p * distance t v ≤ 1000 * distance t c
  pub bytes_price_exact : (c v b : ℕ) → d.share c ≡ bytes b → at_or_below t v c ≡ true → b * distance t v ≤ d.flow c * distance t c
  pub ratio_load_exact : (c p : ℕ) → d.share c ≡ ratio p → p ≤ 1000
  pub bytes_load_exact : (c b : ℕ) → d.share c ≡ bytes b → b ≤ d.flow c
  -- n. r(v) counts each node at or below v or one of its later siblings once.
  pub row_said : (v : ℕ) → 1 ≤ v
      → nodes_of_row t v ≡ how_many (λ c. any_of (λ s. eqb (t.parent s) (t.parent v) && at_or_below t s c) (range v (t.count - v))) (nodes t)
