-- The laws of the two walks: where a row begins, goes on with its next child and ends, and a node after its row.
use mathlib.Core.Path.{◌≡◌, refl, sym, ap, ◌∙◌}
use mathlib.Core.Bool.{Bool, true, false, cond}
use mathlib.Core.List.{List, [], ◌∷◌, map}
use Prim.Native.Nat.{ℕ, suc, ◌+◌, ◌-◌, ◌≤◌, ◌<◌}
use native.Mathlib.Decide.{dec_lt, ℕ_discrete}
use native.Mathlib.Omega.{arith}
use lib.ListN.{length, set}
use lib.Seq.{sets, length-sets}
use borrow.Author.Tests.{eq-eqb, ne_eqb}
use Rattle.laws.specs.Lists.{range, sum, has, those}
use Rattle.laws.proofs.Bools.{by_test, not_both}
use Rattle.laws.proofs.Lists.{range_bounds}
use Rattle.laws.proofs.Ranges.{range_cut, range_first, range_none, those_append, those_none, sum_append, stores_join, stores_first}
use Rattle.model.specs.File.{Tree, Demand}
use Rattle.model.specs.Tree.{nodes, at_or_below}
use Rattle.model.specs.Bill.{whole, link_load}
use Rattle.model.specs.Preorder.{Preorder}
use Rattle.model.specs.Children.{relieved, child_of}
use Rattle.model.proofs.Routes.{route_ends}
use Rattle.model.proofs.Intervals.{below_self, before_not_below, below_after, below_parent, below_trans, end_parent, subtree_is_range}
use Rattle.model.proofs.Children.{children_in_subtree, load_above_member, load_above_other}
use Rattle.placement.specs.Walks.{Begins, Ends, RangeWalked, NodeWalked, RowWalked, RowUpTo}

module _ (t : Tree) (pre : Preorder t) where
  -- ---- where walks begin and end

  -- the row of v's children begins with the node after v
  pub row_begins : (v : ℕ) → v < t.count → Begins t v (v + 1)
  unfolding at_or_below
  row_begins v h =
      let next : v + 1 ≡ suc v = omega arith in
      record { after = omega arith; in_file = omega arith; hangs = λ _. rw next (pre v) }

  -- where the parent of node i comes before v, node i is not below v
  not_below : (v i : ℕ) → Begins t v i → t.parent i < v → at_or_below t v i ≡ false
  not_below v i b h = below_parent t pre v i b.after ∙ before_not_below t pre v (t.parent i) h

  module _ (v i : ℕ) (b : Begins t v i) (h : i < t.count) (l : v ≤ t.parent i) where
    -- else it is a child of v
    is_child : t.parent i ≡ v
    is_child = omega (arith, below_after t pre (t.parent i) v (b.hangs h))

    child_below : at_or_below t v i ≡ true
    child_below = below_parent t pre v i b.after ∙ rw is_child (below_self t pre v)

    module _ (e : ℕ) (x : Ends t i (i + 1) e) where
      in_child : (c : ℕ) → i ≤ c → c < e → at_or_below t i c ≡ true
      in_child c a g = elim (ℕ_discrete i c) [ yes q ↦ rw q (below_self t pre c) | no q ↦ x.within c (omega arith) g ]

      -- after the walk of a child the row goes on
      begins_again : Begins t v e
      begins_again =
          let after_child = x.from in
          let last = e - 1 in
          let next : suc last ≡ e = omega arith in
          record {
            after = omega (arith, b.after);
            in_file = x.in_file;
            hangs = λ g. let up = end_parent t pre i last (in_child last (omega arith) (omega arith)) (rw next (x.beyond g)) in rw (next, is_child) at up;
          }

      -- the nodes up to the end of the child's walk are at or below v if those before the child are
      within_again : (a : ℕ) → ((c : ℕ) → a ≤ c → c < i → at_or_below t v c ≡ true) → (c : ℕ) → a ≤ c → c < e → at_or_below t v c ≡ true
      within_again a before c from g = elim (dec_lt c i) [
        | yes q ↦ before c from q
        | no q ↦ below_trans t pre v i c child_below (in_child c (omega arith) g)
      ]

      -- of the nodes at or below a child of v, the child alone is one
      only_child : those (child_of t v) (range i (e - i)) ≡ i ∷ []
      unfolding those
      only_child =
          let rest = range (i + 1) (e - (i + 1)) in
          let deeper : (c : ℕ) → i < c → c < e → t.parent c ≡ v → ⊥ =
          λ c a g p. let up = sym (below_parent t pre i c a) ∙ in_child c (omega arith) g in omega (arith, b.after, below_after t pre i (t.parent c) up) in
          rw (
            range_first i e (omega (arith, x.from)),
            eq-eqb (t.parent i) v is_child,
            those_none (child_of t v) rest (λ c m. let c_in = range_bounds (i + 1) (e - (i + 1)) c m in ne_eqb (t.parent c) v (deeper c (omega arith) (omega (arith, x.from)))),
          )

-- ---- what walks write, one after the other

module _ (t : Tree) (d : Demand) (k : List ℕ) where
  walked_none : (loads : List ℕ) (i : ℕ) → RangeWalked t d k loads i i 0 loads
  unfolding sum
  walked_none loads i = record { relieves = rw (range_none i); writes = rw (range_none i) }

  walked_joined : {loads loads' loads'' : List ℕ} {i e e₂ r r₂ : ℕ} → i ≤ e → e ≤ e₂
      → RangeWalked t d k loads i e r loads' → RangeWalked t d k loads' e e₂ r₂ loads'' → RangeWalked t d k loads i e₂ (r + r₂) loads''
  walked_joined {loads} {i = i} {e = e} {e₂ = e₂} p q w w₂ = record {
    relieves = rw (range_cut i e e₂ p q) (omega (arith, w.relieves, w₂.relieves, sum_append (relieved d) (range i (e - i)) (range e (e₂ - e))));
    writes = w₂.writes ∙ ap (λ l. sets l e (map (link_load t d k) (range e (e₂ - e)))) w.writes ∙ stores_join loads (link_load t d k) i e e₂ p q;
  }

  -- no entry comes or goes
  pub walked_kept : {loads loads' : List ℕ} {i e r : ℕ} → RangeWalked t d k loads i e r loads' → length loads' ≡ length loads
  walked_kept w = ap length w.writes ∙ simp length-sets

  walked_first : {loads loads' : List ℕ} {v e r : ℕ} → v < e → RangeWalked t d k loads (v + 1) e r loads'
      → RangeWalked t d k loads v e (relieved d v + r) (set loads' v (link_load t d k v))
  unfolding sum
  walked_first {loads} {v = v} {e = e} h w = record {
    relieves = rw (range_first v e h) (omega (arith, w.relieves));
    writes = ap (λ l. set l v (link_load t d k v)) w.writes ∙ stores_first loads (link_load t d k) v e h;
  }

  module _ (pre : Preorder t) where
    -- ---- the row of v's children from node i on, walked up to node e

    pub row_starts : (loads : List ℕ) {v i : ℕ} → Begins t v i → RowUpTo t d k loads v i i 0 0 loads
    unfolding sum those
    row_starts loads {i = i} b = record {
      from = omega arith;
      within = λ c a l. absurd (omega arith);
      goes_on = b;
      loads_above = rw (range_none i);
      walked = walked_none loads i;
    }

    module _ {loads loads' : List ℕ} {v i e load relief : ℕ} (w : RowUpTo t d k loads v i e load relief loads') where
      row_done : (e < t.count → at_or_below t v e ≡ false) → RowWalked t d k loads v i e load relief loads'
      row_done beyond = record {
        ends = record { from = w.from; in_file = w.goes_on.in_file; within = w.within; beyond = beyond };
        loads_above = w.loads_above;
        walked = w.walked;
      }

      -- the file ends
      pub row_at_end : t.count ≤ e → RowWalked t d k loads v i e load relief loads'
      row_at_end h = row_done (λ l. absurd (omega arith))

      -- the parent of node e comes before v
      pub row_stops : t.parent e < v → RowWalked t d k loads v i e load relief loads'
      row_stops h = row_done (λ _. not_below t pre v e w.goes_on h)

      -- node e is a child of v, and is walked with all below it: the row is walked up to the node after them
      pub row_goes_on : {loads'' : List ℕ} {e₂ load₂ relief₂ : ℕ} → v ≤ t.parent e → NodeWalked t d k loads' e e₂ load₂ relief₂ loads''
          → RowUpTo t d k loads v i e₂ (load + load₂) (relief + relief₂) loads''
      unfolding sum
      row_goes_on {e₂ = e₂} l x =
          let far : e ≤ e₂ = omega (arith, x.ends.from) in
          let h : e < t.count = omega (arith, x.ends.from, x.ends.in_file) in
          record {
            from = omega (arith, w.from);
            within = within_again t pre v e w.goes_on h l e₂ x.ends i w.within;
            goes_on = begins_again t pre v e w.goes_on h l e₂ x.ends;
            loads_above =
                rw (range_cut i e e₂ w.from far, those_append (child_of t v) (range i (e - i)) (range e (e₂ - e)), only_child t pre v e w.goes_on h l e₂ x.ends)
                (omega (arith, w.loads_above, x.load_above, sum_append (link_load t d k) (those (child_of t v) (range i (e - i))) (e ∷ [])));
            walked = walked_joined w.from far w.walked x.walked;
          }

    -- ---- a node after the row of its children

    load_by_row : (v e load relief : ℕ) → 1 ≤ v → v < t.count → Ends t v (v + 1) e → load ≡ sum (link_load t d k) (those (child_of t v) (range (v + 1) (e - (v + 1))))
        → relief ≡ sum (relieved d) (range v (e - v)) → cond (has k v) relief (whole d v + load) ≡ link_load t d k v
    load_by_row v e load relief z h x below served =
        let far : v < e = omega (arith, x.from) in
        by_test (λ b. has k v ≡ b → cond b relief (whole d v + load) ≡ link_load t d k v) (has k v)
        (λ _ m. served ∙ sym (rw (← subtree_is_range t pre v e far x.in_file (λ c a. x.within c (omega arith)) x.beyond) (load_above_member t d k v z m)))
        (λ _ m. omega (arith, load_above_other t d k pre v z m h, ap (sum (link_load t d k)) (children_in_subtree t pre v e far x.in_file x.beyond)))
        refl

    -- the load above v by whether v is a member, stored at v
    pub node_walked : {loads loads' : List ℕ} {v e load relief : ℕ} → 1 ≤ v → v < t.count
        → RowWalked t d k loads v (v + 1) e load relief loads' → (member : Bool) (above served : ℕ) → member ≡ has k v
        → served ≡ relieved d v + relief → above ≡ cond member served (whole d v + load)
        → NodeWalked t d k loads v e above served (set loads' v above)
    node_walked {v = v} {e = e} {load = load} z h w member above served is_member q p =
        let first = walked_first (omega (arith, w.ends.from)) w.walked in
        let is : above ≡ link_load t d k v = rw is_member at p ∙ load_by_row v e load served z h w.ends w.loads_above (q ∙ first.relieves) in
        record { ends = w.ends; load_above = is; walked = rw (is, q) first }

    -- ---- all nodes: the row of the server's children, then load 0 stored at node 0

    pub all_walked : {loads loads' : List ℕ} {e load relief : ℕ} → RowWalked t d k loads 0 1 e load relief loads'
        → set loads' 0 0 ≡ sets loads 0 (map (link_load t d k) (nodes t))
    unfolding link_load at_or_below
    all_walked {e = e} w =
        let whole : e ≡ t.count = elim (dec_lt e t.count) [
          | yes l ↦ absurd (not_both (route_ends t e) (w.ends.beyond l))
          | no l ↦ omega (arith, w.ends.in_file)
        ] in
        let all : e - 0 ≡ t.count = omega arith in
        (walked_first (omega (arith, w.ends.from)) w.walked).writes ∙ rw all
