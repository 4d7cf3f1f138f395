-- Laws of the ranking as code asks it: the order of totals and sizes, then a loop over nodes 1, 2, .. that returns at the first difference.
use mathlib.Core.Path.{◌≡◌, refl, sym, ap, ◌∙◌}
use mathlib.Core.Bool.{Bool, true, false, not, beq}
use mathlib.Core.List.{List}
use Prim.Native.Nat.{ℕ, ◌+◌, ◌-◌, ◌≤◌, ◌<◌}
use native.Mathlib.Omega.{arith}
use native.Mathlib.Decide.{dec_lt}
use lib.Dec.{ltb}
use lib.ListN.{length, get_or}
use Rattle.std.specs.Ordering.{nat_cmp, ordering_then}
use Rattle.std.specs.declared.cmp.Ordering.{Ordering}
use Rattle.std.specs.declared.cmp.Ordering.TheVariants.{Less, Equal, Greater}
use Rattle.std.proofs.lemmas.Cmp.{ranked, by_ranked}
use borrow.Author.Tests.{lt-ltb, le-ltb, eq-eqb, ne_eqb}
use Rattle.laws.specs.Lists.{range, has}
use Rattle.laws.proofs.Bools.{differ, alike, by_test}
use Rattle.laws.proofs.Ranges.{range_first, range_none}
use Rattle.model.specs.File.{Tree, Demand, tree_of, demand_of, count_of}
use Rattle.model.specs.Rules.{ascends}
use Rattle.model.specs.Bill.{total}
use Rattle.model.specs.Ties.{smaller_first, lacking_first, members, visits, ties_before, ranks_before}
use Rattle.model.specs.Accepted.{Sound}
use Rattle.model.proofs.Ascending.{set_ascends}
use Rattle.placement.specs.Passes.{members_from}
use Rattle.placement.proofs.Members.{all_left}
use Rattle.compare.specs.Counting.{Comparable, VisitedTo}

-- ---- the smaller number first, and the set that lacks the node

smaller_less : (a b : ℕ) (rest : Bool) → a < b → smaller_first a b rest ≡ true
unfolding smaller_first
smaller_less a b rest h = rw (lt-ltb a b h)

smaller_more : (a b : ℕ) (rest : Bool) → b < a → smaller_first a b rest ≡ false
unfolding smaller_first
smaller_more a b rest h = rw (le-ltb a b (omega arith), ne_eqb a b (λ e. omega arith))

smaller_equal : (a b : ℕ) (rest : Bool) → a ≡ b → smaller_first a b rest ≡ rest
unfolding smaller_first
smaller_equal a b rest e = rw (le-ltb a b (omega arith), eq-eqb a b e)

lacking_differ : (x y rest : Bool) → (x ≡ y → ⊥) → lacking_first x y rest ≡ y
lacking_differ true true rest d = absurd (d refl)
lacking_differ true false rest d = refl
lacking_differ false true rest d = refl
lacking_differ false false rest d = absurd (d refl)

-- ---- totals and sizes

-- what an order says, and at equals the rest
abbrev by_order : Ordering → Bool → Bool
by_order Less rest = true
by_order Equal rest = rest
by_order Greater rest = false

by_order_then : (o p : Ordering) (rest : Bool) → by_order (ordering_then o p) rest ≡ by_order o (by_order p rest)
by_order_then Less p rest = refl
by_order_then Equal p rest = refl
by_order_then Greater p rest = refl

smaller_by_order : (a b : ℕ) (rest : Bool) → smaller_first a b rest ≡ by_order (nat_cmp a b) rest
smaller_by_order a b rest =
    by_ranked (a < b) (a ≡ b) (b < a) (nat_cmp a b) (ranked a b (nat_cmp a b) refl)
    (λ e h. smaller_less a b rest h ∙ rw e refl) (λ e h. smaller_equal a b rest h ∙ rw e refl) (λ e h. smaller_more a b rest h ∙ rw e refl)

-- the order of the totals, then of the sizes, and then the visit of the nodes from 1 on
pub rank_by_order : (t : Tree) (d : Demand) (k l : List ℕ) {x y : ℕ} → x ≡ total t d k → y ≡ total t d l
    → {o p q : Ordering} → p ≡ nat_cmp x y → q ≡ nat_cmp (length k) (length l) → o ≡ ordering_then p q
    → ranks_before t d k l ≡ by_order o (visits t k l (range 1 (t.count - 1)))
unfolding ranks_before ties_before
rank_by_order t d k l e f by_totals by_sizes is =
    let rest = visits t k l (range 1 (t.count - 1)) in
    rw (is, by_totals, by_sizes, e, f)
    (smaller_by_order (total t d k) (total t d l) (smaller_first (length k) (length l) rest)
    ∙ ap (by_order (nat_cmp (total t d k) (total t d l))) (smaller_by_order (length k) (length l) rest)
    ∙ sym (by_order_then (nat_cmp (total t d k) (total t d l)) (nat_cmp (length k) (length l)) rest))

-- ---- the visit of node v

module _ (t : Tree) (k l : List ℕ) (v n : ℕ) where
  -- no node is left: K does not come before L
  visits_end : v ≡ n → visits t k l (range v (n - v)) ≡ false
  unfolding visits
  visits_end e = rw (e, range_none n)

  module _ (h : v < n) where
    at_node : visits t k l (range v (n - v))
        ≡ smaller_first (members t l v) (members t k v) (lacking_first (has k v) (has l v) (visits t k l (range (v + 1) (n - (v + 1)))))
    unfolding visits
    at_node = rw (range_first v n h)

    visits_ahead : members t l v < members t k v → visits t k l (range v (n - v)) ≡ true
    visits_ahead more = at_node ∙ smaller_less _ _ _ more

    visits_behind : members t k v < members t l v → visits t k l (range v (n - v)) ≡ false
    visits_behind fewer = at_node ∙ smaller_more _ _ _ fewer

    module _ (e : members t l v ≡ members t k v) where
      -- one of K and L has v: K comes before L if L has it
      visits_differ : (has k v ≡ has l v → ⊥) → visits t k l (range v (n - v)) ≡ has l v
      visits_differ d = at_node ∙ smaller_equal _ _ _ e ∙ lacking_differ (has k v) (has l v) (visits t k l (range (v + 1) (n - (v + 1)))) d

      -- K and L are alike at v: the visit goes on
      visits_alike : has k v ≡ has l v → visits t k l (range v (n - v)) ≡ visits t k l (range (v + 1) (n - (v + 1)))
      visits_alike p =
          let rest = visits t k l (range (v + 1) (n - (v + 1))) in
          at_node ∙ smaller_equal _ _ _ e ∙ rw p (by_test (λ b. lacking_first b b rest ≡ rest) (has l v) (λ _. refl) (λ _. refl))

-- ---- the visit over a file, as a loop keeps it

module _ {file k l counts others : List ℕ} (given : Comparable file k l counts others) where
  abbrev t : Tree
  t = tree_of file

  abbrev n : ℕ
  n = count_of file

  sound : Sound t (demand_of file)
  sound = given.countable.given.of_file.sound

  pub in_tree : ascends 0 t.count k ≡ true
  in_tree = set_ascends t k given.countable.given.of_nodes

  pub in_tree_other : ascends 0 t.count l ≡ true
  in_tree_other = set_ascends t l given.countable_other.given.of_nodes

  pub visit_begins : VisitedTo file k l 1 k l
  visit_begins = record {
    some = omega arith;
    in_file = sound.some;
    still = sym (all_left n 0 1 k (omega arith) in_tree);
    still_other = sym (all_left n 0 1 l (omega arith) in_tree_other);
    undecided = refl;
  }

  module _ {v : ℕ} {left other : List ℕ} (so_far : VisitedTo file k l v left other) where
    pub visit_ends : n ≤ v → false ≡ visits t k l (range 1 (n - 1))
    visit_ends h = sym (so_far.undecided ∙ visits_end t k l v n (omega (arith, so_far.in_file)))

    module _ (more : v < n) where
      mine : get_or counts v 0 ≡ members t k v
      mine = given.counted.entry v so_far.some more

      theirs : get_or others v 0 ≡ members t l v
      theirs = given.counted_other.entry v so_far.some more

      -- the counts differ: more members at or below come first
      pub visit_uneven : (get_or counts v 0 ≡ get_or others v 0 → ⊥) → ltb (get_or others v 0) (get_or counts v 0) ≡ visits t k l (range 1 (n - 1))
      visit_uneven uneven = elim (dec_lt (get_or others v 0) (get_or counts v 0)) [
        | yes h ↦ lt-ltb _ _ h ∙ sym (so_far.undecided ∙ visits_ahead t k l v n more (omega (arith, mine, theirs)))
        | no h ↦ le-ltb (get_or others v 0) (get_or counts v 0) (omega arith) ∙ sym (so_far.undecided ∙ visits_behind t k l v n more (omega (arith, mine, theirs)))
      ]

      module _ (even : get_or counts v 0 ≡ get_or others v 0) {a b : Bool} {left' other' : List ℕ}
          (taken : (a ≡ has k v) × (left' ≡ members_from k (v + 1))) (other_taken : (b ≡ has l v) × (other' ≡ members_from l (v + 1))) where
        equal : members t l v ≡ members t k v
        equal = omega (arith, mine, theirs)

        pub visit_differs : not (beq a b) ≡ true → b ≡ visits t k l (range 1 (n - 1))
        visit_differs d = other_taken.0 ∙ sym (so_far.undecided ∙ visits_differ t k l v n more equal (λ e. differ a b d (taken.0 ∙ e ∙ sym other_taken.0)))

        pub visit_turns : not (beq a b) ≡ false → VisitedTo file k l (v + 1) left' other'
        visit_turns e = record {
          some = omega arith;
          in_file = omega arith;
          still = taken.1;
          still_other = other_taken.1;
          undecided = so_far.undecided ∙ visits_alike t k l v n more equal (sym taken.0 ∙ alike a b e ∙ other_taken.0);
        }
