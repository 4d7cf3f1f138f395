-- Laws of the count of members at or below each node: how it begins, a climb from one member, and its end.
use mathlib.Core.Path.{◌≡◌, refl, sym, ◌∙◌}
use mathlib.Core.Bool.{true}
use mathlib.Core.List.{List}
use Prim.Native.Nat.{ℕ, ◌+◌, ◌≤◌, ◌<◌}
use native.Mathlib.Numerals.{add-one}
use native.Mathlib.Decide.{ℕ_discrete}
use native.Mathlib.Omega.{arith}
use lib.ListN.{length, get_or, set, take, replicate, get_or-replicate, length-set, length-take}
use lib.Seq.{take-suc, get_or-set_same, get_or-set_other}
use Rattle.laws.specs.Lists.{how_many}
use Rattle.laws.proofs.Counts.{bit_le, how_many_snoc, how_many_le}
use Rattle.model.specs.File.{Tree, tree_of, demand_of, most_nodes}
use Rattle.model.specs.Tree.{at_or_below}
use Rattle.model.specs.Rules.{ascends}
use Rattle.model.specs.Ties.{members}
use Rattle.model.specs.Preorder.{Preorder}
use Rattle.model.specs.Accepted.{Sound}
use Rattle.model.proofs.Ascending.{set_ascends}
use Rattle.model.proofs.Intervals.{below_self, before_not_below, parent_earlier, below_other}
use Rattle.placement.specs.Passes.{Billable}
use Rattle.placement.proofs.Members.{set_size, entry_in_set}
use Rattle.compare.specs.Counting.{Counted, Climbing, Countable, ClimbedTo}

module _ (t : Tree) where
  -- no member is counted yet
  count_begins : (k : List ℕ) (m : ℕ) → t.count ≤ m → Counted t (take 0 k) (replicate m 0)
  unfolding members how_many
  count_begins k m h = record { entry = λ v z l. get_or-replicate m v 0 0 (omega arith) }

  -- ---- the climb from member u

  climb_begins : (k counts : List ℕ) (u : ℕ) → Counted t k counts → Climbing t k counts u u
  climb_begins k counts u c = record { entry = λ v z l. omega (arith, c.entry v z l) }

  -- a count on the way
  climb_bound : (k counts : List ℕ) (u w v : ℕ) → Climbing t k counts u w → 1 ≤ v → v < t.count → get_or counts v 0 ≤ length k + 1
  unfolding members
  climb_bound k counts u w v c z l = omega (arith, c.entry v z l, how_many_le (at_or_below t v) k, bit_le (at_or_below t v u))

  -- one link up: node w is counted
  climb_turns : Preorder t → (k counts : List ℕ) (u w : ℕ) → 1 ≤ w → w < length counts → Climbing t k counts u w
      → Climbing t k (set counts w (get_or counts w 0 + 1)) u (t.parent w)
  climb_turns pre k counts u w z h c = record {
    entry = λ v a l. elim (ℕ_discrete w v) [
      | yes e ↦
          let here = rw (← e, below_self t pre w) at (c.entry v a l) in
          rw (← e, get_or-set_same counts w (get_or counts w 0 + 1) 0 h, before_not_below t pre w (t.parent w) (parent_earlier t pre w z)) (omega arith)
      | no e ↦ rw (get_or-set_other counts w v (get_or counts w 0 + 1) 0 (λ q. e (sym q)), ← below_other t pre v w z e) (c.entry v a l)
    ];
  }

  -- at the server the next member is counted
  climb_ends : Preorder t → (k counts : List ℕ) (j : ℕ) → j < length k → Climbing t (take j k) counts (get_or k j 0) 0
      → Counted t (take (j + 1) k) counts
  unfolding members
  climb_ends pre k counts j h c = record {
    entry = λ v z l.
        rw (add-one j, take-suc k j 0 h, how_many_snoc (at_or_below t v) (take j k) (get_or k j 0))
        (omega (arith, rw (before_not_below t pre v 0 z) at (c.entry v z l)));
  }

-- ---- the climb from member j, over a file

module _ {file k before : List ℕ} (given : Countable file k before) {j : ℕ} (h : j < length k) where
  abbrev t : Tree
  t = tree_of file

  sound : Sound t (demand_of file)
  sound = given.given.of_file.sound

  in_tree : ascends 0 t.count k ≡ true
  in_tree = set_ascends t k given.given.of_nodes

  few_members : length k < most_nodes
  few_members = omega (arith, set_size t.count 0 k sound.some in_tree, sound.few)

  pub member_begins : Counted t (take j k) before → ClimbedTo file k before before j (get_or k j 0)
  member_begins c = record {
    in_file = (entry_in_set t.count 0 k j h in_tree).1;
    kept = refl;
    climbing = climb_begins t (take j k) before (get_or k j 0) c;
  }

  module _ {counts : List ℕ} {w : ℕ} (so_far : ClimbedTo file k before counts j w) (z : w ≡ 0 → ⊥) where
    in_counts : w < length counts
    in_counts = omega (arith, so_far.in_file, so_far.kept, given.room)

    -- a count fits two bytes
    pub member_fits : get_or counts w 0 + 1 ≤ most_nodes + 1
    member_fits =
        omega (arith, z, few_members, climb_bound t (take j k) counts (get_or k j 0) w w so_far.climbing (omega (arith, z)) so_far.in_file, length-take j k)

    pub parent_nearer : {p : ℕ} → p ≡ t.parent w → p < w
    parent_nearer e = omega (arith, parent_earlier t sound.preorder w (omega (arith, z)))

    pub member_turns : {p : ℕ} → p ≡ t.parent w → ClimbedTo file k before (set counts w (get_or counts w 0 + 1)) j p
    member_turns e = record {
      in_file = omega (arith, parent_nearer e, so_far.in_file);
      kept = length-set counts w (get_or counts w 0 + 1) ∙ so_far.kept;
      climbing = rw e (climb_turns t sound.preorder (take j k) counts (get_or k j 0) w (omega (arith, z)) in_counts so_far.climbing);
    }

  pub member_ends : {counts : List ℕ} {w : ℕ} → ClimbedTo file k before counts j w → w ≡ 0 → Counted t (take (j + 1) k) counts
  member_ends {counts} so_far e = climb_ends t sound.preorder k counts j h (rw e at so_far.climbing)

-- ---- all members, over a file

pub still_countable : {file k before counts : List ℕ} → Countable file k before → length counts ≡ length before → Countable file k counts
still_countable given e = record { given = given.given; room = omega (arith, given.room) }

-- before the first member: an entry 0 for each node that a file can have
pub fresh_counted : {file k : List ℕ} {n : ℕ} → Billable file n k → Counted (tree_of file) (take 0 k) (replicate most_nodes 0)
fresh_counted {file} {k} given = count_begins (tree_of file) k most_nodes given.of_file.sound.few
