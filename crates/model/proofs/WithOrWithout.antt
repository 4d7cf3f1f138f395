-- With a node or without it: the two totals are the minima, and what they say of the plan.
use mathlib.Core.Path.{◌≡◌, refl, ap}
use mathlib.Core.Bool.{Bool, true, false, cond, not}
use mathlib.Core.List.Memᴰ
use mathlib.Core.List.{List, [], ◌∷◌, Memᴰ}
use mathlib.Core.Logic.{◌↔◌, ◌⊎◌, inl, inr, ⊎_elim, ⊎_map}
use Prim.Native.Nat.{ℕ, ◌≤◌, ◌<◌}
use native.Mathlib.Decide.{dec_le, ℕ_discrete}
use native.Mathlib.Omega.{arith}
use borrow.Author.Tests.{not-true}
use Rattle.laws.specs.Lists.{has}
use Rattle.laws.proofs.Bools.{by_test, not_both}
use Rattle.laws.proofs.Lists.{has_cases, has_none, has_head, none_of_length}
use Rattle.model.specs.File.{Tree, Demand}
use Rattle.model.specs.Rules.{ascends}
use Rattle.model.specs.Bill.{total}
use Rattle.model.specs.Plan.{all_sets, plan, plan_total}
use Rattle.model.specs.Calls.{Least, none, least_is}
use Rattle.model.specs.WithOrWithout.{lesser, least_of, with_it, without_it, SetWhere, LeastAmong, LeastWhere, WithOrWithoutSaid}
use Rattle.model.proofs.Ascending.{ascends_cons, set_said_lem, empty_is_set}
use Rattle.model.proofs.Sets.{all_sets_lem}
use Rattle.model.proofs.Plans.{plan_ranks_first, plan_least}

-- ---- those of a list of sets that pass a test

abbrev Passing : (List ℕ → Bool) → List (List ℕ) → List ℕ → Type 0
Passing p ls k = Memᴰ k ls × (p k ≡ true)

module _ (p : List ℕ → Bool) (l : List ℕ) (ls : List (List ℕ)) where
  -- the first, where it passes, and those of the later ones
  passing_first : p l ≡ true → (k : List ℕ) → ((k ≡ l) ⊎ Passing p ls k) ↔ Passing p (l ∷ ls) k
  passing_first e k = (
    ⊎_elim (λ s. (Memᴰ.head s, rw s e)) (λ m. (Memᴰ.tail m.0, m.1)),
    λ m. ⊎_map (λ s. s) (λ i. (i, m.1)) (Memᴰ.cases_cons m.0),
  )

  -- else only those of the later ones
  passing_later : p l ≡ false → (k : List ℕ) → Passing p ls k ↔ Passing p (l ∷ ls) k
  passing_later e k = (
    λ m. (Memᴰ.tail m.0, m.1),
    λ m. ⊎_elim (λ s. absurd (not_both m.1 (rw s e))) (λ i. (i, m.1)) (Memᴰ.cases_cons m.0),
  )

-- ---- the least total of the sets with a property

module _ (t : Tree) (d : Demand) where
  -- there is only one
  pub least_only : (P : List ℕ → Type 0) (m n : Least) → LeastAmong t d P m → LeastAmong t d P n → m ≡ n
  least_only P none none g h = refl
  least_only P none (least_is y) g h = absurd (g h.1.0 h.1.1)
  least_only P (least_is x) none g h = absurd (h g.1.0 g.1.1)
  least_only P (least_is x) (least_is y) g h =
      ap least_is (omega (arith, g.0 h.1.0 h.1.1, g.1.2, h.0 g.1.0 g.1.1, h.1.2))

  -- there is one where a set has the property
  some_least : (P : List ℕ → Type 0) (k : List ℕ) → P k → (m : Least) → LeastAmong t d P m → (x : ℕ) × (m ≡ least_is x)
  some_least P k p none h = absurd (h k p)
  some_least P k p (least_is x) h = (x, refl)

  -- properties of the same sets have the same least total
  least_same : (P Q : List ℕ → Type 0) → ((k : List ℕ) → P k ↔ Q k) → (m : Least) → LeastAmong t d P m → LeastAmong t d Q m
  least_same P Q s none h = λ k q. h k ((s k).1 q)
  least_same P Q s (least_is x) h = (λ k q. h.0 k ((s k).1 q), (h.1.0, (s h.1.0).0 h.1.1, h.1.2))

  -- the lesser of two is that of the sets with either property
  lesser_least : (P Q : List ℕ → Type 0) (m n : Least) → LeastAmong t d P m → LeastAmong t d Q n
      → LeastAmong t d (λ k. P k ⊎ Q k) (lesser m n)
  lesser_least P Q none none g h = λ k. ⊎_elim (g k) (h k)
  lesser_least P Q none (least_is y) g h = (λ k. ⊎_elim (λ p. absurd (g k p)) (h.0 k), (h.1.0, inr h.1.1, h.1.2))
  lesser_least P Q (least_is x) none g h = (λ k. ⊎_elim (g.0 k) (λ q. absurd (h k q)), (g.1.0, inl g.1.1, g.1.2))
  lesser_least P Q (least_is x) (least_is y) g h = (
    λ k. ⊎_elim (λ p. omega (arith, g.0 k p)) (λ q. omega (arith, h.0 k q)),
    elim (dec_le x y) [
      | yes l ↦ (g.1.0, inl g.1.1, omega (arith, g.1.2))
      | no l ↦ (h.1.0, inr h.1.1, omega (arith, h.1.2))
    ],
  )

  -- `least_of` is that of the sets of a list that pass a test
  least_of_said : (p : List ℕ → Bool) (ls : List (List ℕ)) → LeastAmong t d (Passing p ls) (least_of t d p ls)
  unfolding least_of
  least_of_said p [] = λ k h. Memᴰ.not-nil h.0
  least_of_said p (l ∷ ls) =
      let x = total t d l in
      let r = least_of t d p ls in
      let rest = least_of_said p ls in
      let here : LeastAmong t d (λ k. k ≡ l) (least_is x) = (λ k e. rw e (omega arith), (l, refl, refl)) in
      by_test (λ a. LeastAmong t d (Passing p (l ∷ ls)) (cond a (lesser (least_is x) r) r)) (p l)
      (λ e. least_same _ _ (passing_first p l ls e) (lesser (least_is x) r) (lesser_least (λ k. k ≡ l) (Passing p ls) (least_is x) r here rest))
      (λ e. least_same _ _ (passing_later p l ls e) r rest)

  -- and of all sets of at most b nodes that have v, or of those that don't, where the test says which
  least_where_lem : (b v : ℕ) (u : Bool) (p : List ℕ → Bool) → ((k : List ℕ) → p k ≡ true ↔ has k v ≡ u)
      → LeastWhere t d b v u (least_of t d p (all_sets t b))
  least_where_lem b v u p s =
      least_same (Passing p (all_sets t b)) (SetWhere t b v u)
      (λ k. (
        λ m. let fits = (all_sets_lem t b k).0 m.0 in record { is_a_set = fits.0; within = fits.1; contains = (s k).0 m.1 },
        λ w. ((all_sets_lem t b k).1 (w.is_a_set, w.within), (s k).1 w.contains),
      ))
      (least_of t d p (all_sets t b)) (least_of_said p (all_sets t b))

  pub with_least_lem : (b v : ℕ) → LeastWhere t d b v true (with_it t d b v)
  unfolding with_it
  with_least_lem b v = least_where_lem b v true (λ k. has k v) (λ k. (λ e. e, λ e. e))

  pub without_least_lem : (b v : ℕ) → LeastWhere t d b v false (without_it t d b v)
  unfolding without_it
  without_least_lem b v = least_where_lem b v false (λ k. not (has k v)) (λ k. (not-true (has k v), λ e. rw e))

-- ---- sets that have a node, and sets that don't

module _ (t : Tree) (b v : ℕ) where
  pub empty_where : SetWhere t b v false []
  unfolding has
  empty_where = record { is_a_set = empty_is_set t; within = omega arith; contains = refl }

  pub single_where : 1 ≤ v → v < t.count → 1 ≤ b → t.is_open v ≡ true → SetWhere t b v true (v ∷ [])
  unfolding ascends
  single_where low high budget is_open =
      record {
        is_a_set = (set_said_lem t (v ∷ [])).1 (
          (ascends_cons t.count 0 v []).1 (omega arith, high, refl),
          λ u. has_cases (t.is_open u ≡ true) v u [] (λ e. rw e at is_open) (λ m. absurd (has_none u m)),
        );
        within = omega arith;
        contains = has_head v [];
      }

  -- without a budget, or where it is closed, no set has it
  none_where : (b ≡ 0) ⊎ (t.is_open v ≡ false) → (k : List ℕ) → SetWhere t b v true k → ⊥
  none_where (inl e) k w =
      let z = none_of_length k (omega (arith, w.within)) in
      has_none v (rw z at w.contains)
  none_where (inr e) k w = not_both (((set_said_lem t k).0 w.is_a_set).1 v w.contains) e

-- ---- what holds of the two

module _ (t : Tree) (d : Demand) (b v : ℕ) where
  with_none_lem : 1 ≤ v → v < t.count → with_it t d b v ≡ none ↔ ((b ≡ 0) ⊎ (t.is_open v ≡ false))
  with_none_lem low high = (
    λ e.
        elim (ℕ_discrete b 0) [
          | yes z ↦ inl z
          | no n ↦
              let never = rw e at (with_least_lem t d b v) in
              by_test (λ x. (b ≡ 0) ⊎ (x ≡ false)) (t.is_open v) (λ o. absurd (never (v ∷ []) (single_where t b v low high (omega arith) o))) (λ _. inr refl)
        ],
    λ h. least_only t d (SetWhere t b v true) (with_it t d b v) none (with_least_lem t d b v) (none_where t b v h),
  )

  -- the empty set doesn't have v
  pub without_some_lem : (y : ℕ) × (without_it t d b v ≡ least_is y)
  without_some_lem = some_least t d (SetWhere t b v false) [] (empty_where t b v) (without_it t d b v) (without_least_lem t d b v)

  -- the plan is one of the sets, and none of them costs less
  plan_where : (u : Bool) → has (plan t d b) v ≡ u → SetWhere t b v u (plan t d b)
  plan_where u e = let held = plan_ranks_first t d b in record { is_a_set = held.is_a_set; within = held.within; contains = e }

  plan_least_where : (u : Bool) (k : List ℕ) → SetWhere t b v u k → plan_total t d b ≤ total t d k
  plan_least_where u k w = plan_least t d b k w.is_a_set w.within

  smaller_is_plan_lem : lesser (with_it t d b v) (without_it t d b v) ≡ least_is (plan_total t d b)
  smaller_is_plan_lem =
      let Either : List ℕ → Type 0 = λ k. SetWhere t b v true k ⊎ SetWhere t b v false k in
      let x = with_it t d b v in
      let y = without_it t d b v in
      let of_both = lesser_least t d (SetWhere t b v true) (SetWhere t b v false) x y (with_least_lem t d b v) (without_least_lem t d b v) in
      let one_of_both = by_test (λ _. Either (plan t d b)) (has (plan t d b) v) (λ e. inl (plan_where true e)) (λ e. inr (plan_where false e)) in
      least_only t d Either (lesser x y) (least_is (plan_total t d b)) of_both
      (λ k. ⊎_elim (plan_least_where true k) (plan_least_where false k), (plan t d b, one_of_both, refl))

  plan_has_lem : has (plan t d b) v ≡ true
      → (x : ℕ) × (y : ℕ) × (with_it t d b v ≡ least_is x) × (without_it t d b v ≡ least_is y) × (x ≤ y)
  plan_has_lem e =
      let here = plan_where true e in
      let x = some_least t d (SetWhere t b v true) (plan t d b) here (with_it t d b v) (with_least_lem t d b v) in
      let y = without_some_lem in
      let with_it = rw x.1 at (with_least_lem t d b v) in
      let without_it_lem = rw y.1 at (without_least_lem t d b v) in
      let other = without_it_lem.1 in
      (x.0, y.0, x.1, y.1, omega (arith, with_it.0 (plan t d b) here, plan_least_where false other.0 other.1, other.2))

  plan_must_have_lem : (x y : ℕ) → with_it t d b v ≡ least_is x → without_it t d b v ≡ least_is y → x < y → has (plan t d b) v ≡ true
  plan_must_have_lem x y e f l =
      let with_it = rw e at (with_least_lem t d b v) in
      let without_it_lem = rw f at (without_least_lem t d b v) in
      let other = with_it.1 in
      by_test (λ h. h ≡ true) (has (plan t d b) v) (λ _. refl)
      (λ h. absurd (omega (arith, without_it_lem.0 (plan t d b) (plan_where false h), plan_least_where true other.0 other.1, other.2)))

pub with_or_without_said : (t : Tree) (d : Demand) (b v : ℕ) → 1 ≤ v → v < t.count → WithOrWithoutSaid t d b v
with_or_without_said t d b v low high =
    record {
      with_least = with_least_lem t d b v;
      with_only = λ m h. least_only t d (SetWhere t b v true) m (with_it t d b v) h (with_least_lem t d b v);
      without_least = without_least_lem t d b v;
      without_only = λ m h. least_only t d (SetWhere t b v false) m (without_it t d b v) h (without_least_lem t d b v);
      with_none = with_none_lem t d b v low high;
      without_some = without_some_lem t d b v;
      smaller_is_plan = smaller_is_plan_lem t d b v;
      plan_has = plan_has_lem t d b v;
      plan_must_have = plan_must_have_lem t d b v;
    }
