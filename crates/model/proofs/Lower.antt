-- The lower of two equal sites: a set with it comes before the same set with the upper one, and the plan has the upper one only
-- where the lower one is closed or costs more.
use mathlib.Core.Path.{◌≡◌, refl, sym, ap, ◌∙◌}
use mathlib.Core.Bool.{true, false, and-true}
use mathlib.Core.List.{List}
use mathlib.Core.Logic.{inr, ⊎_elim}
use Prim.Native.Nat.{ℕ, ◌≤◌, ◌<◌}
use native.Mathlib.Omega.{arith}
use lib.ListN.{length}
use borrow.Author.Tests.{le-leb, eq-eqb, ne_eqb}
use Rattle.laws.specs.Lists.{has, bit}
use Rattle.laws.proofs.Bools.{not_both}
use Rattle.model.specs.File.{Tree, Demand}
use Rattle.model.specs.Tree.{route, at_or_below}
use Rattle.model.specs.Preorder.{Preorder}
use Rattle.model.specs.Rules.{is_set}
use Rattle.model.specs.Bill.{total}
use Rattle.model.specs.Ties.{ties_before}
use Rattle.model.specs.Plan.{plan, plan_total}
use Rattle.model.specs.Greedy.{with_node}
use Rattle.model.specs.Laws.{under, Alike, Decides, LowerSite}
use Rattle.model.proofs.Intervals.{below_after, rest_of_route}
use Rattle.model.proofs.WithNode.{has_with_node, with_node_is_set, without_node_is_set, length_with_node, how_many_with_node}
use Rattle.model.proofs.Order.{ties_said_lem, rank_said_lem, rank_one_way}
use Rattle.model.proofs.Plans.{plan_ranks_first}

module _ (t : Tree) (pre : Preorder t) (k : List ℕ) (u v : ℕ) (lower : LowerSite t k u v) where
  -- u has the smaller number
  upper_before : u < v
  unfolding at_or_below
  upper_before = omega (arith, below_after t pre u v lower.below.0, lower.below.1)

  -- up to u their routes are one
  routes_meet : (w : ℕ) → w ≤ u → has (route t v) w ≡ has (route t u) w
  unfolding at_or_below
  routes_meet w h = sym (rest_of_route t pre u w v lower.below.0 ∙ rw (le-leb w u h) (and-true _))

  -- so K with v has as many nodes at or below each of these as K with u
  equally_many : (w : ℕ) → w ≤ u → under t (with_node v k) w ≡ under t (with_node u k) w
  equally_many w h =
      omega (arith, how_many_with_node (λ x. has (route t x) w) v k, how_many_with_node (λ x. has (route t x) w) u k, ap bit (routes_meet w h))

  alike_before : (w : ℕ) → w < u → Alike t (with_node v k) (with_node u k) w
  alike_before w h = (
    equally_many w (omega arith),
    rw (has_with_node v w k, has_with_node u w k, ne_eqb v w (λ e. omega (arith, upper_before)), ne_eqb u w (λ e. omega arith)),
  )

  lacks_upper : has (with_node v k) u ≡ false
  lacks_upper = rw (has_with_node v u k, ne_eqb v u lower.below.1) lower.outside.0

  has_upper : has (with_node u k) u ≡ true
  has_upper = rw (has_with_node u u k, eq-eqb u u refl)

  as_long : length (with_node v k) ≡ length (with_node u k)
  as_long = omega (arith, length_with_node v k, length_with_node u k)

  upper_decides : Decides t (with_node v k) (with_node u k) 1 t.count u
  upper_decides = record {
    site = omega (arith, lower.site, upper_before);
    before = λ w _ h. alike_before w h;
    here = inr (equally_many u (omega arith), lacks_upper, has_upper);
  }

  pub lower_first_lem : ties_before t (with_node v k) (with_node u k) ≡ true
  lower_first_lem = (ties_said_lem t (with_node v k) (with_node u k)).1 (inr (as_long, (u, upper_decides)))

  -- where the plan is K with u, K with v costs more: if it cost the same it would rank first
  module _ (d : Demand) (b : ℕ) (free : t.is_open v ≡ true) (is : plan t d b ≡ with_node u k) where
    rival : is_set t (with_node v k) ≡ true
    rival =
        with_node_is_set t v k (omega (arith, lower.site, upper_before)) lower.site.1 free lower.outside.1
        (without_node_is_set t u k (rw is at (plan_ranks_first t d b).is_a_set))

    rival_within : length (with_node v k) ≤ b
    rival_within = omega (arith, as_long, ap length is, (plan_ranks_first t d b).within)

    other : with_node v k ≡ plan t d b → ⊥
    other e = not_both (rw (e, is) has_upper) lacks_upper

    pub plan_lowest_lem : plan_total t d b < total t d (with_node v k)
    plan_lowest_lem =
        let before = (plan_ranks_first t d b).first (with_node v k) rival rival_within other in
        ⊎_elim (λ less. less)
        (λ same.
        let after = (rank_said_lem t d (with_node v k) (plan t d b)).1 (inr (sym same.0, rw is lower_first_lem)) in
        absurd (rank_one_way t d (plan t d b) (with_node v k) before after))
        ((rank_said_lem t d (plan t d b) (with_node v k)).0 before)
