-- What the passes over the nodes may assume, and what they keep: the members that are left, and the total so far.
use Rattle.std.specs.Prelude.{◌≡◌, true, List, map, ℕ, ◌*◌, ◌-◌, ◌≤◌, ◌<◌, leb, eqb, length, get_or}
use Rattle.std.proofs.lemmas.List.Edits.{sets}
use Rattle.laws.specs.Lists.{range, sum, those}
use Rattle.model.specs.File.{Tree, header_length, tree_of, demand_of, count_of}
use Rattle.model.specs.Rules.{is_set}
use Rattle.model.specs.Bill.{serving}
use Rattle.model.specs.Accepted.{Sound}
use Rattle.fields.specs.Table.{InFile}

-- what an accepted file of n nodes allows
pub record AcceptedFile (file : List ℕ) (n : ℕ) : Type 0 where
  pub sound : Sound (tree_of file) (demand_of file)
  pub nodes : n ≡ count_of file
  -- its header and each record can be read
  pub header : header_length ≤ length file
  pub records : (v : ℕ) → v < n → InFile file v

-- and a set of its nodes
pub record Billable (file : List ℕ) (n : ℕ) (set : List ℕ) : Type 0 where
  pub of_file : AcceptedFile file n
  pub of_nodes : is_set (tree_of file) set ≡ true

-- the members that are left at v: those from v on
unfoldable pub members_from : List ℕ → ℕ → List ℕ
members_from k v = those (λ u. leb v u) k

-- the pass of the serving nodes at v: those of the nodes before v are written
pub record Serving (file : List ℕ) (n : ℕ) (k before servings : List ℕ) (v : ℕ) (left : List ℕ) : Type 0 where
  pub some : 1 ≤ v
  pub in_file : v ≤ n
  pub kept : length servings ≡ length before
  pub room : n ≤ length servings
  pub still : left ≡ members_from k v
  pub written : servings ≡ sets before 0 (map (serving (tree_of file) k) (range 0 v))

-- the set, found from the serving nodes: the sites that serve themselves
unfoldable pub self_serving : ℕ → List ℕ → List ℕ
self_serving n servings = those (λ v. eqb (get_or servings v 0) v) (range 1 (n - 1))

-- what the links above nodes 1 to v − 1 add up to: loads times lengths
unfoldable pub total_before : Tree → List ℕ → ℕ → ℕ
total_before t loads v = sum (λ u. get_or loads u 0 * t.link_length u) (range 1 (v - 1))

-- what the walks may assume: an accepted file of n nodes, and buffers with an entry for each node
pub record Walkable (file : List ℕ) (n : ℕ) (servings loads : List ℕ) : Type 0 where
  pub of_file : AcceptedFile file n
  pub servings_long : n ≤ length servings
  pub loads_long : n ≤ length loads
