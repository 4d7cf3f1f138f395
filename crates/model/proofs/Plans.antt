-- Laws of the plan: of all sets of at most so many nodes it is the one that ranks first.
use mathlib.Core.Path.{◌≡◌, refl, sym, ap}
use mathlib.Core.Bool.{true, cond}
use mathlib.Core.List.Memᴰ
use mathlib.Core.List.{List, [], ◌∷◌, List-discrete, Memᴰ}
use mathlib.Core.Logic.{◌⊎◌, inl, inr, ⊎_elim, ⊎_map}
use Prim.Native.Nat.{ℕ, ◌≤◌}
use native.Mathlib.Decide.{ℕ_discrete}
use native.Mathlib.Omega.{arith}
use lib.ListN.{length}
use Rattle.laws.proofs.Bools.{by_test, not_both}
use Rattle.model.specs.File.{Tree, Demand}
use Rattle.model.specs.Rules.{is_set}
use Rattle.model.specs.Bill.{total}
use Rattle.model.specs.Ties.{ties_before, ranks_before}
use Rattle.model.specs.Plan.{all_sets, first_of, plan, plan_total}
use Rattle.model.specs.Laws.{RanksFirst}
use Rattle.model.proofs.Order.{rank_said_lem, rank_transitive_lem, rank_one_way, rank_total_lem}
use Rattle.model.proofs.Ascending.{set_ascends, empty_is_set}
use Rattle.model.proofs.Sets.{all_sets_lem}

module _ (t : Tree) (d : Demand) where
  -- K is L or ranks before it
  abbrev NoLater : List ℕ → List ℕ → Type 0
  NoLater k l = (k ≡ l) ⊎ (ranks_before t d k l ≡ true)

  no_later_transitive : (k l m : List ℕ) → NoLater k l → NoLater l m → NoLater k m
  no_later_transitive k l m (inl e) q = rw e q
  no_later_transitive k l m (inr p) (inl e) = inr (rw e at p)
  no_later_transitive k l m (inr p) (inr q) = inr (rank_transitive_lem t d k l m p q)

  -- of K and L, the one that ranks first
  abbrev kept : List ℕ → List ℕ → List ℕ
  kept k l = cond (ranks_before t d l k) l k

  kept_holds : (P : List ℕ → Type 0) (k l : List ℕ) → P k → P l → P (kept k l)
  kept_holds P k l p q = by_test (λ x. P (cond x l k)) (ranks_before t d l k) (λ _. q) (λ _. p)

  kept_no_later : (k l : List ℕ) → is_set t k ≡ true → is_set t l ≡ true → NoLater (kept k l) k × NoLater (kept k l) l
  kept_no_later k l g h =
      by_test (λ x. NoLater (cond x l k) k × NoLater (cond x l k) l) (ranks_before t d l k) (λ p. (inr p, inl refl)) (λ p. (
        inl refl,
        elim (List-discrete ℕ_discrete k l) [
          | yes e ↦ inl e
          | no n ↦ ⊎_elim inr (λ q. absurd (not_both q p)) (rank_total_lem t d k l (set_ascends t k g) (set_ascends t l h) n)
        ],
      ))

  -- the first of K and a list comes no later than what K comes no later than, and each of the list
  first_no_later : (k : List ℕ) (ls : List (List ℕ)) → is_set t k ≡ true → ((l : List ℕ) → Memᴰ l ls → is_set t l ≡ true)
      → (m : List ℕ) → NoLater k m ⊎ Memᴰ m ls → NoLater (first_of t d k ls) m
  unfolding first_of
  first_no_later k [] g h m i = ⊎_elim (λ p. p) (λ j. absurd (Memᴰ.not-nil j)) i
  first_no_later k (l ∷ ls) g h m i =
      let s = h l (Memᴰ.head refl) in
      let both_ways = kept_no_later k l g s in
      first_no_later (kept k l) ls (kept_holds (λ x. is_set t x ≡ true) k l g s) (λ x j. h x (Memᴰ.tail j)) m
      (⊎_elim (λ p. inl (no_later_transitive (kept k l) k m both_ways.0 p))
      (λ j. ⊎_map (λ e. rw e both_ways.1) (λ x. x) (Memᴰ.cases_cons j)) i)

  -- what holds of K and of each of a list holds of the first of them
  first_holds : (P : List ℕ → Type 0) (k : List ℕ) (ls : List (List ℕ)) → P k → ((l : List ℕ) → Memᴰ l ls → P l)
      → P (first_of t d k ls)
  unfolding first_of
  first_holds P k [] p q = p
  first_holds P k (l ∷ ls) p q =
      first_holds P (kept k l) ls (kept_holds P k l p (q l (Memᴰ.head refl))) (λ m i. q m (Memᴰ.tail i))

module _ (t : Tree) (d : Demand) (b : ℕ) where
  -- the plan is a set of at most b nodes
  plan_fits_lem : (is_set t (plan t d b) ≡ true) × (length (plan t d b) ≤ b)
  unfolding plan
  plan_fits_lem =
      first_holds t d (λ l. (is_set t l ≡ true) × (length l ≤ b)) [] (all_sets t b) (empty_is_set t, omega arith) (λ l. (all_sets_lem t b l).0)

  -- and is each set of at most b nodes, or ranks before it
  plan_no_later : (l : List ℕ) → is_set t l ≡ true → length l ≤ b → NoLater t d (plan t d b) l
  unfolding plan
  plan_no_later l g h = first_no_later t d [] (all_sets t b) (empty_is_set t) (λ m i. ((all_sets_lem t b m).0 i).0) l (inr ((all_sets_lem t b l).1 (g, h)))

  pub plan_ranks_first : RanksFirst t d b (plan t d b)
  plan_ranks_first =
      record {
        is_a_set = plan_fits_lem.0;
        within = plan_fits_lem.1;
        first = λ l g h n. ⊎_elim (λ e. absurd (n (sym e))) (λ p. p) (plan_no_later l g h);
      }

  -- the plan is the only one that ranks first
  pub only_plan : (k : List ℕ) → RanksFirst t d b k → k ≡ plan t d b
  only_plan k r =
      let p = plan_ranks_first in
      elim (List-discrete ℕ_discrete k (plan t d b)) [
        | yes e ↦ e
        | no n ↦
            let before = r.first (plan t d b) p.is_a_set p.within (λ e. n (sym e)) in
            let after = p.first k r.is_a_set r.within n in
            absurd (rank_one_way t d k (plan t d b) before after)
      ]

  -- no set of at most b nodes costs less
  pub plan_least : (l : List ℕ) → is_set t l ≡ true → length l ≤ b → plan_total t d b ≤ total t d l
  plan_least l g h =
      ⊎_elim (λ e. omega (arith, ap (total t d) e)) (λ p. ⊎_elim (λ a. omega arith) (λ a. omega arith) ((rank_said_lem t d (plan t d b) l).0 p))
      (plan_no_later l g h)

  -- another that costs the same comes later in the order of ties
  pub plan_ties : (l : List ℕ) → is_set t l ≡ true → length l ≤ b → (l ≡ plan t d b → ⊥) → total t d l ≡ plan_total t d b
      → ties_before t (plan t d b) l ≡ true
  plan_ties l g h n e = ⊎_elim (λ a. absurd (omega arith)) (λ a. a.1) ((rank_said_lem t d (plan t d b) l).0 (plan_ranks_first.first l g h n))
