-- The dynamic program: the least cost of a row of siblings with an exact number of caches, and the choice of caches that has it.
use Rattle.std.specs.Prelude.{Bool, cond, not, ℕ, zero, suc, ◌+◌, ◌-◌, min, ltb}
use Rattle.model.specs.Bill.{total_limit}
use Rattle.best_rows.specs.Least.{better, first_least}
use Rattle.best_rows.specs.Rows.{Row, empty, node, Choice, Site}

-- a number that no total reaches: it stands for "no choice has this count"
unfoldable pub cap : ℕ
cap = total_limit

-- ---- one step, at the first node of a row

-- what the node and the row of its children cost with count n, if the node's own choice u (cache or not) counts for w u and costs
-- `pay u`, and `children u n` is the least cost of its children with count n
unfoldable pub cost_if : (Bool → ℕ) → (Bool → ℕ) → (Bool → ℕ → ℕ) → ℕ → Bool → ℕ
cost_if w pay children n u = cond (ltb n (w u)) cap (pay u + children u (n - w u))

-- a node whose choice u costs `costs n u` with count n; of two choices that cost the same, p is preferred
module _ (p : Bool) (costs : ℕ → Bool → ℕ) where
  -- the node's own choice at count n: p, unless the other costs less
  unfoldable pub own_choice : ℕ → Bool
  own_choice n = better (costs n) p (not p)

  -- the least cost of the node and its children with count n
  unfoldable pub node_best : ℕ → ℕ
  node_best n = costs n (own_choice n)

-- a row: `first n` is the least cost of its first node and that node's children with count n, `siblings n` that of its later siblings
module _ (first siblings : ℕ → ℕ) where
  -- the cost of the row with count m, of which r are among the later siblings
  unfoldable pub split : ℕ → ℕ → ℕ
  split m r = first (m - r) + siblings r

  -- how much of count m is among the later siblings: the smallest number at which the split costs least
  abbrev pub later : ℕ → ℕ
  later m = first_least (split m) m

  -- the least cost of the row with count m
  unfoldable pub row_best : ℕ → ℕ
  row_best m = min cap (split m (later m))

-- ---- a row under a context (what it meets from above), where node v counts for w v, p is preferred, and s v has v's costs

-- what node v and its children cost, if `children e` has the least costs of their row under context e
abbrev pub costs_of : {C : Type 0} → (ℕ → Bool → ℕ) → (ℕ → Site C) → ℕ → C → (C → ℕ → ℕ) → ℕ → Bool → ℕ
costs_of w s v c children = cost_if (w v) ((s v).pay c) (λ u. children ((s v).down c u))

module _ {C : Type 0} (w : ℕ → Bool → ℕ) (p : Bool) (s : ℕ → Site C) where
  -- the least cost with count m
  unfoldable pub best : Row → C → ℕ → ℕ
  best empty c zero = 0
  best empty c (suc m) = cap
  best (node v a b) c m = row_best (node_best p (costs_of w s v c (best a))) (best b c) m

  -- the choice that costs the least, by these splits and own choices
  unfoldable pub choose : (r : Row) → C → ℕ → Choice r
  choose empty c m = tt
  choose (node v a b) c m =
      let costs = costs_of w s v c (best a) in
      let r = later (node_best p costs) (best b c) m in
      let u = own_choice p costs (m - r) in
      (u, choose a ((s v).down c u) (m - r - w v u), choose b c r)

  -- the choice where the count may be anything up to b: the smallest count that costs least
  abbrev pub choose_within : (r : Row) → C → ℕ → Choice r
  choose_within r c b = choose r c (first_least (best r c) b)
