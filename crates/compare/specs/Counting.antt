-- What the count of members at or below each node keeps, while the code climbs from each member up to the server.
use Rattle.std.specs.Prelude.{◌≡◌, List, ℕ, ◌+◌, ◌-◌, ◌≤◌, ◌<◌, length, get_or, take}
use Rattle.laws.specs.Lists.{range, bit}
use Rattle.model.specs.File.{Tree, tree_of, count_of}
use Rattle.model.specs.Tree.{at_or_below}
use Rattle.model.specs.Ties.{members, visits}
use Rattle.placement.specs.Passes.{members_from, Billable}

module _ (t : Tree) (k counts : List ℕ) where
  -- at each site the number of members of K at or below it
  pub record Counted : Type 0 where
    pub entry : (v : ℕ) → 1 ≤ v → v < t.count → get_or counts v 0 ≡ members t k v

  -- and one more for node u, except at the nodes from w up, which are still to come
  pub record Climbing (u w : ℕ) : Type 0 where
    pub entry : (v : ℕ) → 1 ≤ v → v < t.count → get_or counts v 0 + bit (at_or_below t v w) ≡ members t k v + bit (at_or_below t v u)

-- what the count may assume: an accepted file, a set of its nodes, and an entry for each node
pub record Countable (file k counts : List ℕ) : Type 0 where
  pub given : Billable file (count_of file) k
  pub room : count_of file ≤ length counts

-- two sets of an accepted file, counted
pub record Comparable (file k l counts others : List ℕ) : Type 0 where
  pub countable : Countable file k counts
  pub countable_other : Countable file l others
  pub counted : Counted (tree_of file) k counts
  pub counted_other : Counted (tree_of file) l others

-- the climb from member j has come to node w
pub record ClimbedTo (file k before counts : List ℕ) (j w : ℕ) : Type 0 where
  pub in_file : w < count_of file
  pub kept : length counts ≡ length before
  pub climbing : Climbing (tree_of file) (take j k) counts (get_or k j 0) w

-- the nodes before v are visited: nothing has decided, and of each set the members from v on are left
pub record VisitedTo (file k l : List ℕ) (v : ℕ) (left other : List ℕ) : Type 0 where
  pub some : 1 ≤ v
  pub in_file : v ≤ count_of file
  pub still : left ≡ members_from k v
  pub still_other : other ≡ members_from l v
  pub undecided : visits (tree_of file) k l (range 1 (count_of file - 1)) ≡ visits (tree_of file) k l (range v (count_of file - v))
