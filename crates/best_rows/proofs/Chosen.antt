-- The members of a choice as a set: it ascends, has as many nodes as the choice has members, and its choice is that one.
use mathlib.Core.Path.{◌≡◌, refl, ap, ◌∙◌}
use mathlib.Core.Bool.{Bool, true, false}
use mathlib.Core.List.{List, [], ◌++◌, append_assoc, append-nil}
use Prim.Native.Nat.{ℕ, ◌<◌}
use native.Mathlib.Omega.{arith}
use lib.ListN.{length, length-append}
use Rattle.laws.specs.Lists.{has}
use Rattle.laws.proofs.Bools.{by_test}
use Rattle.laws.proofs.Lists.{has_head, has_other}
use Rattle.model.specs.Rules.{ascends}
use Rattle.model.proofs.Ascending.{ascends_cons, ascends_lower, ascends_bounds}
use Rattle.best_rows.specs.Rows.{Row, empty, node, Choice, row_nodes, choice_of, if_member, chosen, row_count}
use Rattle.best_rows.specs.BestAt.{one}

length_if_member : (u : Bool) (v : ℕ) → length (if_member u v) ≡ one v u
length_if_member true v = refl
length_if_member false v = refl

pub length_chosen : (r : Row) (x : Choice r) → length (chosen r x) ≡ row_count one r x
unfolding chosen row_count
length_chosen empty x = refl
length_chosen (node v a b) x =
    simp length-append (omega (arith, length_if_member x.0 v, length_chosen a x.1, length_chosen b x.2))

module _ (n : ℕ) where
  -- where the nodes of a row ascend in front of l, so do its members in front of what ascends wherever l does
  chosen_ascend : (r : Row) (x : Choice r) (l k : List ℕ) → ((a : ℕ) → ascends a n l ≡ true → ascends a n k ≡ true)
      → (a : ℕ) → ascends a n (row_nodes r l) ≡ true → ascends a n (chosen r x ++ k) ≡ true
  unfolding row_nodes chosen
  chosen_ascend empty x l k f a h = f a h
  chosen_ascend (node v a b) x l k f from h =
      let parts = (ascends_cons n from v (row_nodes a (row_nodes b l))).0 h in
      let rest = chosen_ascend a x.1 (row_nodes b l) (chosen b x.2 ++ k) (chosen_ascend b x.2 l k f) v parts.2 in
      by_test (λ u. ascends from n ((if_member u v ++ chosen a x.1 ++ chosen b x.2) ++ k) ≡ true) x.0
      (λ _. (ascends_cons n from v _).1 (parts.0, parts.1, rw (append_assoc (chosen a x.1) (chosen b x.2) k) rest))
      (λ _. ascends_lower n from v _ (omega arith) (rw (append_assoc (chosen a x.1) (chosen b x.2) k) rest))

  -- a list that ascends from above v lacks v
  lacks_bound : (v : ℕ) (l : List ℕ) → ascends v n l ≡ true → has l v ≡ false
  lacks_bound v l h = by_test (λ b. b ≡ false) (has l v) (λ e. absurd (omega (arith, ascends_bounds n v v l h e))) (λ _. refl)

  -- whether v is put in front is whether the list has it, and makes no other difference
  has_own : (u : Bool) (v : ℕ) (l : List ℕ) → has l v ≡ false → has (if_member u v ++ l) v ≡ u
  has_own true v l h = has_head v l
  has_own false v l h = h

  has_others : (u : Bool) (v w : ℕ) (l : List ℕ) → v < w → has (if_member u v ++ l) w ≡ has l w
  has_others true v w l h = has_other v w l (λ e. omega arith)
  has_others false v w l h = refl

  module _ (k : List ℕ) where
    -- from above a on, the set has the same nodes as a list
    abbrev SameFrom : ℕ → List ℕ → Type 0
    SameFrom a l = (w : ℕ) → a < w → has k w ≡ has l w

    -- the set's choice on a row is the one whose members it has; past the row, it has the same as what stands behind them
    choice_of_members : (r : Row) (x : Choice r) (l m : List ℕ) → ((a : ℕ) → ascends a n l ≡ true → ascends a n m ≡ true)
        → (a : ℕ) → ascends a n (row_nodes r l) ≡ true → SameFrom a (chosen r x ++ m)
        → (choice_of k r ≡ x) × ((e : ℕ) × (ascends e n l ≡ true) × SameFrom e m)
    unfolding row_nodes chosen choice_of
    choice_of_members empty x l m f from h s = (refl, (from, h, s))
    choice_of_members (node v a b) x l m f from h s =
        let parts = (ascends_cons n from v (row_nodes a (row_nodes b l))).0 h in
        let later = chosen b x.2 ++ m in
        let behind = chosen a x.1 ++ later in
        let ascend : ascends v n behind ≡ true =
        chosen_ascend a x.1 (row_nodes b l) later (chosen_ascend b x.2 l m f) v parts.2 in
        let flat : chosen (node v a b) x ++ m ≡ if_member x.0 v ++ behind =
        append_assoc (if_member x.0 v ++ chosen a x.1) (chosen b x.2) m ∙ append_assoc (if_member x.0 v) (chosen a x.1) later in
        let self : has k v ≡ x.0 = s v parts.0 ∙ ap (λ q. has q v) flat ∙ has_own x.0 v behind (lacks_bound v behind ascend) in
        let children = choice_of_members a x.1 (row_nodes b l) later (chosen_ascend b x.2 l m f) v parts.2
        (λ w i. s w (omega arith) ∙ ap (λ q. has q w) flat ∙ has_others x.0 v w behind i) in
        let siblings = choice_of_members b x.2 l m f children.1.0 children.1.1 children.1.2 in
        (λ i. (self i, children.0 i, siblings.0 i), siblings.1)

  -- where the nodes of a row ascend, the members of a choice on it ascend, and their choice is that one
  pub chosen_ascends : (r : Row) (x : Choice r) (a : ℕ) → ascends a n (row_nodes r []) ≡ true → ascends a n (chosen r x) ≡ true
  chosen_ascends r x a h = rw (append-nil (chosen r x)) at (chosen_ascend r x [] [] (λ _ e. e) a h)

  pub choice_of_chosen : (r : Row) (x : Choice r) (a : ℕ) → ascends a n (row_nodes r []) ≡ true → choice_of (chosen r x) r ≡ x
  choice_of_chosen r x a h =
      (choice_of_members (chosen r x) r x [] [] (λ _ e. e) a h (λ w _. rw (append-nil (chosen r x)))).0
