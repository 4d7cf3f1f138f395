-- One line of the plan's table: entry n is the least cost of a row of siblings with n caches, from the lines of its parts.
use Rattle.std.specs.Prelude.{◌≡◌, Bool, true, false, cond, List, ◌⊎◌, ℕ, zero, suc, ◌+◌, ◌-◌, ◌≤◌, ◌<◌, min, length, get_or}
use Rattle.laws.specs.Lists.{bit}
use Rattle.model.specs.File.{most_budget}
use Rattle.best_rows.specs.Least.{running_min}
use Rattle.best_rows.specs.Best.{cap, cost_if, own_choice, node_best, split, later, row_best}
use Rattle.best_rows.specs.BestAt.{prefer}

-- the most entries that a line has: counts from 0 to the largest budget
abbrev pub most_width : ℕ
most_width = most_budget + 1

-- entry n of a line, and past its end the cap
abbrev pub entry_of : List ℕ → ℕ → ℕ
entry_of l n = get_or l n cap

-- a line has an entry for 0 caches, and none above the cap
pub record Line (l : List ℕ) : Type 0 where
  pub some : 0 < length l
  pub within : (n : ℕ) → entry_of l n ≤ cap

-- ---- a node that pays `member` if it is a cache, the line of its children then being `cached`; and `other` if it is none, the
-- line of its children, served from above, then being `uncached`

pub record NodeParts (cached uncached : List ℕ) (member other : ℕ) : Type 0 where
  pub cached_line : Line cached
  pub uncached_line : Line uncached
  pub alike : length uncached ≡ length cached
  pub pays : (member ≤ cap) × (other ≤ cap)

-- what the node pays, by whether it is a cache
abbrev pub pay : ℕ → ℕ → Bool → ℕ
pay member other u = cond u member other

-- the least cost of its children with n caches, by whether the node is a cache
abbrev pub children : List ℕ → List ℕ → Bool → ℕ → ℕ
children cached uncached u n = entry_of (cond u cached uncached) n

module _ (cached uncached : List ℕ) (member other : ℕ) where
  -- the cost of the node and its children with n caches, by whether the node is one of them
  abbrev pub line_cost_if : ℕ → Bool → ℕ
  line_cost_if = cost_if bit (pay member other) (children cached uncached)

  -- is the node one of these n caches?
  unfoldable pub line_takes : ℕ → Bool
  line_takes = own_choice prefer line_cost_if

  -- the least cost of the node and its children with n caches
  unfoldable pub line_node : ℕ → ℕ
  line_node = node_best prefer line_cost_if

  -- the same, as the node's own line holds it: at most the cap
  unfoldable pub line_own : ℕ → ℕ
  line_own n = min cap (line_node n)

-- ---- a row that begins with this node, `rest` being the line of its later siblings

pub record LineParts (cached uncached rest : List ℕ) (member other : ℕ) : Type 0 where
  pub node_parts : NodeParts cached uncached member other
  pub rest_line : Line rest

module _ (cached uncached rest : List ℕ) (member other : ℕ) where
  -- the cost of the row with m caches, of which r are among the later siblings
  abbrev pub line_split : ℕ → ℕ → ℕ
  line_split = split (line_node cached uncached member other) (entry_of rest)

  -- how many of the m caches are among the later siblings
  unfoldable pub line_later : ℕ → ℕ
  line_later = later (line_node cached uncached member other) (entry_of rest)

  -- the least cost of the row with m caches
  unfoldable pub line_best : ℕ → ℕ
  line_best = row_best (line_node cached uncached member other) (entry_of rest)

-- ---- the same row from the line of its first node

-- the lines of the two parts of a row, neither longer than the row's line
pub record RowParts (w : ℕ) (first second : List ℕ) : Type 0 where
  pub first_line : Line first
  pub second_line : Line second
  pub ends : (length first ≤ w) × (length second ≤ w)

-- the cost of the row with m caches, of which r are in the second part
abbrev pub joined_split : List ℕ → List ℕ → ℕ → ℕ → ℕ
joined_split first second m r = entry_of first (m - r) + entry_of second r

-- the least cost of the row with m caches
unfoldable pub joined_best : List ℕ → List ℕ → ℕ → ℕ
joined_best first second m = running_min cap (joined_split first second m) (m + 1)

-- for each entry of `other`, the same entry of l is other[n] + x, or the cap where that is not smaller
abbrev pub Begun : List ℕ → ℕ → List ℕ → Type 0
Begun other x l = (n : ℕ) → n < length other → get_or l n 0 ≡ min cap (get_or other n 0 + x)

-- `after` is `before`, but for each n < end entry r + n is other[n] + x where that is smaller
pub record Lowered (before other : List ℕ) (end r x : ℕ) (after : List ℕ) : Type 0 where
  pub inside : (n : ℕ) → n < end → get_or after (r + n) 0 ≡ min (get_or before (r + n) 0) (get_or other n 0 + x)
  pub outside : (m : ℕ) → (m < r) ⊎ (r + end ≤ m) → get_or after m 0 ≡ get_or before m 0

-- the least cost of the empty row with m caches
unfoldable pub empty_best : ℕ → ℕ
empty_best zero = 0
empty_best (suc m) = cap

-- ---- what the three lines of a node hold

-- a line holds f for the counts below w: past its end f is the cap
pub record HoldsBest (w : ℕ) (f : ℕ → ℕ) (l : List ℕ) : Type 0 where
  pub some : 0 < length l
  pub few : length l ≤ w
  pub is : (n : ℕ) → n < w → entry_of l n ≡ f n

-- for each number of caches below w the least cost of the node's children, by whether the node is a cache, and of its later
-- siblings
pub record LinesHoldBest (w : ℕ) (children : Bool → ℕ → ℕ) (siblings : ℕ → ℕ) (cached uncached rest : List ℕ) : Type 0 where
  pub cached_is : HoldsBest w (children true) cached
  pub uncached_is : HoldsBest w (children false) uncached
  pub alike : length uncached ≡ length cached
  pub rest_is : HoldsBest w siblings rest
