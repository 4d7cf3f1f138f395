-- Costs where not every choice is allowed at a node: a cache may be forbidden there, or required. What the nodes of a tree may be, and a wish
-- for one node.
use Rattle.std.specs.Prelude.{◌≡◌, Bool, true, cond, not, ◌&&◌, ◌||◌, List, ℕ, ◌≤◌, eqb, length}
use Rattle.std.specs.Bool.{beq}
use Rattle.laws.specs.Lists.{has}
use Rattle.model.specs.File.{Tree, Demand}
use Rattle.model.specs.Tree.{sites}
use Rattle.model.specs.Rules.{ascends}
use Rattle.model.specs.Ties.{ranks_before}
use Rattle.best_rows.specs.Rows.{Row, empty, node, Choice, Site}
use Rattle.best_rows.specs.Best.{cap}

module _ (allows : ℕ → Bool → Bool) where
  -- what is not allowed costs the cap
  abbrev pub guarded : {C : Type 0} → (ℕ → Site C) → ℕ → Site C
  guarded s v = record { pay = λ c u. cond (allows v u) ((s v).pay c u) cap; down = (s v).down }

  -- a choice that keeps to what is allowed
  abbrev pub Allowed : (r : Row) → Choice r → Type 0
  Allowed empty x = Unit {0}
  Allowed (node v a b) x = (allows v x.0 ≡ true) × Allowed a x.1 × Allowed b x.2

  -- K keeps to what is allowed at each node of a list
  abbrev pub KeepsTo : List ℕ → List ℕ → Type 0
  KeepsTo k l = (v : ℕ) → has l v ≡ true → allows v (has k v) ≡ true

-- may node v of the tree be a cache (u is true), or none (u is false)? None always, a cache where the node is open.
unfoldable pub may_be : Tree → ℕ → Bool → Bool
may_be t v u = not u || t.is_open v

-- a wish for one node: no wish, or that node x is a cache (m is true), or that it is not (m is false)
pub data Wish : Type 0 where
  no_wish : Wish
  wish : ℕ → Bool → Wish

-- does it let node v be a cache (u is true), or not be one (u is false)?
abbrev pub grants : Wish → ℕ → Bool → Bool
grants no_wish v u = true
grants (wish x m) v u = not (eqb v x) || beq u m

-- what a node of the tree may be under a wish
abbrev pub may_be_under : Tree → Wish → ℕ → Bool → Bool
may_be_under t w v u = grants w v u && may_be t v u

-- K is an ascending list of at most b nodes from 1 to n − 1 that keeps to what is allowed
pub record AllowedSet (t : Tree) (allows : ℕ → Bool → Bool) (b : ℕ) (k : List ℕ) : Type 0 where
  pub ascending : ascends 0 t.count k ≡ true
  pub within : length k ≤ b
  pub allowed : KeepsTo allows k (sites t)

-- K is such a list, and ranks before every other one
pub record RanksFirstAllowed (t : Tree) (d : Demand) (allows : ℕ → Bool → Bool) (b : ℕ) (k : List ℕ) : Type 0 where
  pub fits : AllowedSet t allows b k
  pub first : (l : List ℕ) → AllowedSet t allows b l → (l ≡ k → ⊥) → ranks_before t d k l ≡ true
