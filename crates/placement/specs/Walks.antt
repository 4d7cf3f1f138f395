-- What the walk of a node and the walk of a row of children guarantee: where they end, their loads, and what they have written.
use Rattle.std.specs.Prelude.{◌≡◌, Bool, true, false, cond, List, map, ℕ, ◌+◌, ◌*◌, ◌-◌, ◌≤◌, ◌<◌}
use Rattle.std.proofs.lemmas.List.Edits.{sets}
use Rattle.laws.specs.Lists.{range, sum, those}
use Rattle.model.specs.File.{Tree, Demand, most_nodes, most_flow}
use Rattle.model.specs.Tree.{at_or_below}
use Rattle.model.specs.Bill.{thousandths, whole, link_load}
use Rattle.model.specs.Children.{relieved, child_of}

-- what a client can send over a link, what a link can carry, and what the loads of a row can add up to
abbrev pub most_sent : ℕ
most_sent = most_flow * thousandths

abbrev pub most_load : ℕ
most_load = most_nodes * most_sent

abbrev pub most_of_row : ℕ
most_of_row = most_nodes * most_load

-- where a row of v's children can go on: after v, and the parent of node i is v or an ancestor of v
pub record Begins (t : Tree) (v i : ℕ) : Type 0 where
  pub after : v < i
  pub in_file : i ≤ t.count
  pub hangs : i < t.count → at_or_below t (t.parent i) v ≡ true

-- the nodes from i to e − 1 are at or below v, and node e is not, or the file ends
pub record Ends (t : Tree) (v i e : ℕ) : Type 0 where
  pub from : i ≤ e
  pub in_file : e ≤ t.count
  pub within : (c : ℕ) → i ≤ c → c < e → at_or_below t v c ≡ true
  pub beyond : e < t.count → at_or_below t v e ≡ false

module _ (t : Tree) (d : Demand) (k loads : List ℕ) where
  -- the nodes from i to e − 1 were walked: what their clients send once served, and the load above each written at its number
  pub record RangeWalked (i e relief : ℕ) (loads' : List ℕ) : Type 0 where
    pub relieves : relief ≡ sum (relieved d) (range i (e - i))
    pub writes : loads' ≡ sets loads i (map (link_load t d k) (range i (e - i)))

  -- node v and all below it, to e − 1
  pub record NodeWalked (v e load relief : ℕ) (loads' : List ℕ) : Type 0 where
    pub ends : Ends t v (v + 1) e
    pub load_above : load ≡ link_load t d k v
    pub walked : RangeWalked v e relief loads'

  -- the row of v's children from node i on, and all below them, to e − 1
  pub record RowWalked (v i e load relief : ℕ) (loads' : List ℕ) : Type 0 where
    pub ends : Ends t v i e
    pub loads_above : load ≡ sum (link_load t d k) (those (child_of t v) (range i (e - i)))
    pub walked : RangeWalked i e relief loads'

  -- the same row part way: the nodes from i to e − 1 are walked, and the row can go on with node e
  pub record RowUpTo (v i e load relief : ℕ) (loads' : List ℕ) : Type 0 where
    pub from : i ≤ e
    pub within : (c : ℕ) → i ≤ c → c < e → at_or_below t v c ≡ true
    pub goes_on : Begins t v e
    pub loads_above : load ≡ sum (link_load t d k) (those (child_of t v) (range i (e - i)))
    pub walked : RangeWalked i e relief loads'

-- what the row of a node's children can bring
pub record Bounded (load relief : ℕ) : Type 0 where
  pub loads : load ≤ most_of_row
  pub relieves : relief ≤ most_load

-- node v after the row of its children: what all clients at or below it send once served, which is the load above a member;
-- above another node, its own flow and the loads above its children
pub record Raised (d : Demand) (member : Bool) (v below relief above served : ℕ) : Type 0 where
  pub relieves : served ≡ relieved d v + relief
  pub load_above : above ≡ cond member served (whole d v + below)
