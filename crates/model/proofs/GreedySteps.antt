-- Laws of one step of the greedy rule: the node that it takes, or that no node lowers the total.
use mathlib.Core.Path.{◌≡◌, sym, ◌∙◌}
use mathlib.Core.Bool.{true, false, cond, not}
use mathlib.Core.List.{List, [], ◌∷◌}
use Prim.Native.Nat.{ℕ, ◌-◌, ◌≤◌, ◌<◌}
use native.Mathlib.Decide.{dec_lt}
use native.Mathlib.Omega.{arith}
use lib.Dec.{ltb}
use borrow.Author.Tests.{ltb-true, ltb-false, not-true}
use Rattle.laws.specs.Lists.{has}
use Rattle.laws.specs.FirstLeast.{FirstLeast}
use Rattle.laws.proofs.Bools.{by_test, both}
use Rattle.laws.proofs.Lists.{has_head, has_tail, has_none, in_range, has_those}
use Rattle.laws.proofs.FirstLeast.{no_later_self, no_later_smaller, first_least_one, first_least_two}
use Rattle.model.specs.File.{Tree, Demand}
use Rattle.model.specs.Tree.{sites, open_sites}
use Rattle.model.specs.Rules.{ascends}
use Rattle.model.specs.Bill.{total}
use Rattle.model.specs.Greedy.{Step, stops, takes, outside, total_with, least_node, step_over}
use Rattle.model.specs.Laws.{Takes, Rests}
use Rattle.model.proofs.Ascending.{ascends_cons, ascends_bounds, ascends_lower, ascends_range, ascends_those}

module _ (t : Tree) (d : Demand) where
  -- ---- the open nodes outside a set

  outside_ascends : (k : List ℕ) → ascends 0 t.count (outside t k) ≡ true
  outside_ascends k =
      ascends_those t.count _ 0 (open_sites t) (ascends_those t.count _ 0 (sites t) (ascends_range t.count 0 (t.count - 1) (omega arith)))

  has_outside : (k : List ℕ) (u : ℕ) → 1 ≤ u → u < t.count → t.is_open u ≡ true → has k u ≡ false → has (outside t k) u ≡ true
  has_outside k u above below here lacks =
      rw (has_those (λ v. not (has k v)) u (open_sites t), lacks, has_those t.is_open u (sites t), here)
      (in_range 1 (t.count - 1) u above (omega arith))

  outside_said : (k : List ℕ) (u : ℕ) → has (outside t k) u ≡ true → (t.is_open u ≡ true) × (has k u ≡ false)
  outside_said k u m =
      let parts = both (not (has k u)) (has (open_sites t) u) (sym (has_those (λ v. not (has k v)) u (open_sites t)) ∙ m) in
      ((both (t.is_open u) (has (sites t) u) (sym (has_those t.is_open u (sites t)) ∙ parts.1)).0, not-true (has k u) parts.0)

  -- ---- a step

  least_node_lem : (k : List ℕ) (u : ℕ) (us : List ℕ) → ascends u t.count us ≡ true
      → FirstLeast (total_with t d k) (u ∷ us) (least_node t d k u us)
  unfolding least_node
  least_node_lem k u [] h = first_least_one (total_with t d k) u
  least_node_lem k u (v ∷ vs) h =
      let f = total_with t d k in
      let parts = (ascends_cons t.count u v vs).0 h in
      let from_u = least_node_lem k u vs (ascends_lower t.count u v vs (omega arith) parts.2) in
      let from_v = least_node_lem k v vs parts.2 in
      by_test (λ b. FirstLeast f (u ∷ v ∷ vs) (least_node t d k (cond b v u) vs)) (ltb (f v) (f u))
      (λ e. first_least_two f u v v _ vs (has_tail u v (v ∷ vs) (has_head v vs)) (omega (arith, ltb-true)) (no_later_self f v) from_v)
      (λ e. first_least_two f u v u _ vs (has_head u (v ∷ vs)) (no_later_self f u) (omega (arith, ltb-false)) from_u)

  -- a fact of a step over an ascending list, by what it does
  step_over_lem {ℓ} : (P : Step → Type ℓ) (k l : List ℕ) → ascends 0 t.count l ≡ true
      → (((u : ℕ) → has l u ≡ true → total t d k ≤ total_with t d k u) → P stops)
      → ((v : ℕ) → FirstLeast (total_with t d k) l v → total_with t d k v < total t d k → P (takes v)) → P (step_over t d k l)
  unfolding step_over
  step_over_lem P k [] h resting taking = resting (λ u m. absurd (has_none u m))
  step_over_lem P k (u ∷ us) h resting taking =
      let v = least_node t d k u us in
      let first = least_node_lem k u us ((ascends_cons t.count 0 u us).0 h).2 in
      by_test (λ b. P (cond b (takes v) stops)) (ltb (total_with t d k v) (total t d k)) (λ e. taking v first (ltb-true _ _ e))
      (λ e. resting (λ w m. omega (arith, ltb-false, (first.no_later w m).0)))

  first_least_taken : (k : List ℕ) (v : ℕ) → FirstLeast (total_with t d k) (outside t k) v → total_with t d k v < total t d k → Takes t d k v
  first_least_taken k v first lowers =
      let bounds = ascends_bounds t.count 0 v (outside t k) (outside_ascends k) first.member in
      record {
        site = omega arith;
        is_open = (outside_said k v first.member).0;
        outside = (outside_said k v first.member).1;
        lowers = lowers;
        least = λ u above below here lacks. (first.no_later u (has_outside k u above below here lacks)).0;
        smallest = λ u above less here lacks.
            no_later_smaller (total_with t d k) v u (first.no_later u (has_outside k u above (omega arith) here lacks)) less;
      }

  -- a fact of the step from K, by what it does
  pub step_cases {ℓ} : (P : Step → Type ℓ) (k : List ℕ) → (Rests t d k → P stops) → ((v : ℕ) → Takes t d k v → P (takes v))
      → P (step_over t d k (outside t k))
  step_cases P k resting taking =
      step_over_lem P k (outside t k) (outside_ascends k)
      (λ none. resting record { none_lowers = λ u above below here lacks. none u (has_outside k u above below here lacks) })
      (λ v first lowers. taking v (first_least_taken k v first lowers))

  -- ---- it takes one node, or it rests

  takes_no_greater : {k : List ℕ} {v w : ℕ} → Takes t d k v → Takes t d k w → v ≤ w
  takes_no_greater {k} {v} {w} p q =
      elim (dec_lt w v) [
        | yes less ↦ absurd (omega (arith, p.smallest w q.site.0 less q.is_open q.outside, q.least v p.site.0 p.site.1 p.is_open p.outside))
        | no more ↦ omega arith
      ]

  pub only_takes : {k : List ℕ} {v w : ℕ} → Takes t d k v → Takes t d k w → v ≡ w
  only_takes p q = omega (arith, takes_no_greater p q, takes_no_greater q p)

  pub takes_not_rests : {k : List ℕ} {v : ℕ} → Takes t d k v → Rests t d k → ⊥
  takes_not_rests {k} {v} p q = omega (arith, p.lowers, q.none_lowers v p.site.0 p.site.1 p.is_open p.outside)
