-- Three files of which the third has the sums of the other two's flows: totals and loads add, and plan totals add at least.
use mathlib.Core.Path.{◌≡◌, refl, ap, ◌∙◌}
use mathlib.Core.Bool.{true, false, cond}
use mathlib.Core.List.{List}
use mathlib.Core.Logic.{◌⊎◌, ⊎_elim}
use Prim.Native.Nat.{ℕ, zero, suc, ◌+◌, ◌-◌, ◌≤◌, ◌<◌}
use native.Mathlib.Decide.{dec_lt}
use native.Mathlib.Nat.{mul-le-mul}
use native.Mathlib.Omega.{arith}
use lib.Dec.{eqb}
use borrow.Author.Tests.{eqb-true}
use Rattle.laws.specs.Lists.{has, any_of, those}
use Rattle.laws.proofs.Bools.{by_test}
use Rattle.laws.proofs.Sums.{sum_add, sum_same}
use Rattle.model.specs.File.{Field, Tree, Demand, has_ratios, has_open_bytes, version_of, count_of, flow_field, hit_field, cachable_field, open_field, field_of, open_of, tree_of, demand_of}
use Rattle.model.specs.Tree.{nodes, route, at_or_below}
use Rattle.model.specs.Rules.{file_verdict, accepted, is_set}
use Rattle.model.specs.Bill.{whole, cachable, up_to, cost, total, client_load, link_load, serving}
use Rattle.model.specs.Plan.{plan, plan_total}
use Rattle.model.specs.Children.{relieved}
use Rattle.model.specs.Accepted.{Sound}
use Rattle.model.specs.Adds.{AlikeButFlows, Adds, AddsLawful}
use Rattle.model.proofs.Verdicts.{is_passed_lem}
use Rattle.model.proofs.Accepted.{accepted_sound, field_past}
use Rattle.model.proofs.Amounts.{price_amounts, load_amounts, cachable_ratio, cachable_bytes}
use Rattle.model.proofs.Nearest.{serving_near, cost_is}
use Rattle.model.proofs.Plans.{plan_ranks_first, plan_least}
use Rattle.model.proofs.Versions.{ratios, no_ratios, third_no_ratios, one_of_three_lem, exact_length, reopened, field_same, tree_same}

-- ---- one tree, and a demand whose amounts are the sums of two others'

module _ (t : Tree) (d d' s : Demand) (ok : Sound t d) (ok' : Sound t d')
    (wholes : (c : ℕ) → whole s c ≡ whole d c + whole d' c) (cachables : (c : ℕ) → cachable s c ≡ cachable d c + cachable d' c) where
  -- nothing is cut off, so the price at the serving node adds
  cost_adds : (k : List ℕ) (c : ℕ) → cost t s k c ≡ cost t d k c + cost t d' k c
  cost_adds k c =
      let pre = ok.preorder in
      let v = serving t k c in
      let near = serving_near t pre k c in
      rw (cost_is t pre k s c, cost_is t pre k d c, cost_is t pre k d' c, price_amounts s c t v, price_amounts d c t v, price_amounts d' c t v, wholes c, cachables c)
      (omega (arith, mul-le-mul (ok.part c) near, mul-le-mul (ok'.part c) near))

  client_load_adds : (k : List ℕ) (v c : ℕ) → client_load t s k v c ≡ client_load t d k v c + client_load t d' k v c
  client_load_adds k v c =
      rw (load_amounts s c t k v, load_amounts d c t k v, load_amounts d' c t k v, wholes c, cachables c)
      (by_test
      (λ b. cond b (whole d c + whole d' c - (cachable d c + cachable d' c)) (whole d c + whole d' c) ≡ cond b (relieved d c) (whole d c) + cond b (relieved d' c) (whole d' c))
      (any_of (has k) (up_to v (route t c)))
      (λ _. omega (arith, ok.part c, ok'.part c)) (λ _. omega arith))

  total_adds : (k : List ℕ) → total t s k ≡ total t d k + total t d' k
  unfolding total
  total_adds k = sum_same (cost t s k) _ (nodes t) (λ c _. cost_adds k c) ∙ sum_add (cost t d k) (cost t d' k) (nodes t)

  load_adds : (k : List ℕ) (v : ℕ) → link_load t s k v ≡ link_load t d k v + link_load t d' k v
  unfolding link_load
  load_adds k zero = omega arith
  load_adds k (suc v) =
      let below = those (at_or_below t (suc v)) (nodes t) in
      sum_same (client_load t s k (suc v)) _ below (λ c _. client_load_adds k (suc v) c) ∙ sum_add (client_load t d k (suc v)) (client_load t d' k (suc v)) below

-- ---- files alike in all but flows

-- versions 2 and 3 have cachable bytes
pub later_no_ratios : (s : List ℕ) → (version_of s ≡ 2) ⊎ (version_of s ≡ 3) → has_ratios s ≡ false
later_no_ratios s = ⊎_elim (no_ratios s) (third_no_ratios s)

-- two accepted ones have the same tree
module _ (f h : List ℕ) (first_fits : accepted f ≡ true) (fits : accepted h ≡ true) (alike : AlikeButFlows f h) where
  open_same : (v : ℕ) → open_of f v ≡ open_of h v
  unfolding open_of has_open_bytes
  open_same v =
      rw alike.version
      (by_test (λ b. cond b (eqb (field_of f open_field v) 1) true ≡ cond b (eqb (field_of h open_field v) 1) true) (eqb (version_of h) 3)
      (λ e. ap (λ (x : ℕ). eqb x 1) (field_same h f fits first_fits alike.count open_field (alike.open_bytes (eqb-true _ _ e)) v))
      (λ _. refl))

  tree_alike : tree_of f ≡ tree_of h
  tree_alike =
      tree_same h f fits first_fits alike.count alike.parents alike.lengths
      ∙ ap (reopened (tree_of h)) (λ i v. open_same v i)

  hit_alike : version_of h ≡ 1 → (v : ℕ) → field_of f hit_field v ≡ field_of h hit_field v
  hit_alike e = field_same h f fits first_fits alike.count hit_field (alike.hits e)

  sound_alike : Sound (tree_of h) (demand_of f)
  unfolding accepted
  sound_alike = rw tree_alike at (accepted_sound f (is_passed_lem (file_verdict f) first_fits))

  -- the plan of h costs f no less than its own
  own_plan_least : (b : ℕ) → plan_total (tree_of f) (demand_of f) b ≤ total (tree_of f) (demand_of f) (plan (tree_of h) (demand_of h) b)
  own_plan_least b =
      let held = plan_ranks_first (tree_of h) (demand_of h) b in
      plan_least (tree_of f) (demand_of f) b (plan (tree_of h) (demand_of h) b) (rw tree_alike held.is_a_set) held.within

-- ---- three files of which the third has the sums

module _ (f g h : List ℕ) (adds : Adds f g h) where
  -- past the last record every field is 0 in all three
  field_adds : (x : Field) → ((v : ℕ) → v < count_of h → field_of h x v ≡ field_of f x v + field_of g x v)
      → (v : ℕ) → field_of h x v ≡ field_of f x v + field_of g x v
  field_adds x sums v =
      elim (dec_lt v (count_of h)) [
        | yes l ↦ sums v l
        | no l ↦ omega (
          arith,
          field_past f x v (exact_length f adds.all_accepted.0) (omega (arith, adds.first_alike.count)),
          field_past g x v (exact_length g adds.all_accepted.1) (omega (arith, adds.second_alike.count)),
          field_past h x v (exact_length h adds.all_accepted.2) (omega arith),
        )
      ]

  flow_adds : (c : ℕ) → field_of h flow_field c ≡ field_of f flow_field c + field_of g flow_field c
  flow_adds = field_adds flow_field adds.flows

  whole_adds : (c : ℕ) → whole (demand_of h) c ≡ whole (demand_of f) c + whole (demand_of g) c
  unfolding whole
  whole_adds c = rw (flow_adds c) (omega arith)

  -- in version 1 flows add and hits are the same, in versions 2 and 3 the cachable bytes add
  ratio_adds : version_of h ≡ 1 → (c : ℕ) → cachable (demand_of h) c ≡ cachable (demand_of f) c + cachable (demand_of g) c
  ratio_adds e c =
      rw (
        cachable_ratio f c (ratios f (adds.first_alike.version ∙ e)),
        cachable_ratio g c (ratios g (adds.second_alike.version ∙ e)),
        cachable_ratio h c (ratios h e),
        hit_alike f h adds.all_accepted.0 adds.all_accepted.2 adds.first_alike e c,
        hit_alike g h adds.all_accepted.1 adds.all_accepted.2 adds.second_alike e c,
        flow_adds c,
      ) (omega arith)

  bytes_add_lem : (version_of h ≡ 2) ⊎ (version_of h ≡ 3) → (c : ℕ) → cachable (demand_of h) c ≡ cachable (demand_of f) c + cachable (demand_of g) c
  bytes_add_lem e c =
      rw (
        cachable_bytes f c (later_no_ratios f (rw adds.first_alike.version e)),
        cachable_bytes g c (later_no_ratios g (rw adds.second_alike.version e)),
        cachable_bytes h c (later_no_ratios h e),
        field_adds cachable_field (adds.cachables e) c,
      ) (omega arith)

  cachable_adds : (c : ℕ) → cachable (demand_of h) c ≡ cachable (demand_of f) c + cachable (demand_of g) c
  cachable_adds c = ⊎_elim (λ e. ratio_adds e c) (λ e. bytes_add_lem e c) (one_of_three_lem h adds.all_accepted.2)

  first_tree : tree_of f ≡ tree_of h
  first_tree = tree_alike f h adds.all_accepted.0 adds.all_accepted.2 adds.first_alike

  second_tree : tree_of g ≡ tree_of h
  second_tree = tree_alike g h adds.all_accepted.1 adds.all_accepted.2 adds.second_alike

  first_sound : Sound (tree_of h) (demand_of f)
  first_sound = sound_alike f h adds.all_accepted.0 adds.all_accepted.2 adds.first_alike

  second_sound : Sound (tree_of h) (demand_of g)
  second_sound = sound_alike g h adds.all_accepted.1 adds.all_accepted.2 adds.second_alike

  totals_add_lem : (k : List ℕ) → total (tree_of h) (demand_of h) k ≡ total (tree_of f) (demand_of f) k + total (tree_of g) (demand_of g) k
  totals_add_lem k =
      rw (first_tree, second_tree) (total_adds (tree_of h) (demand_of f) (demand_of g) (demand_of h) first_sound second_sound whole_adds cachable_adds k)

  loads_add_lem : (k : List ℕ) (v : ℕ) → link_load (tree_of h) (demand_of h) k v ≡ link_load (tree_of f) (demand_of f) k v + link_load (tree_of g) (demand_of g) k v
  loads_add_lem k v =
      rw (first_tree, second_tree) (load_adds (tree_of h) (demand_of f) (demand_of g) (demand_of h) first_sound second_sound whole_adds cachable_adds k v)

  -- the third's plan costs each of the two no less than its own
  at_plan : (b : ℕ) → let p = plan (tree_of h) (demand_of h) b in
      (plan_total (tree_of f) (demand_of f) b ≤ total (tree_of f) (demand_of f) p) × (plan_total (tree_of g) (demand_of g) b ≤ total (tree_of g) (demand_of g) p)
  at_plan b = (
    own_plan_least f h adds.all_accepted.0 adds.all_accepted.2 adds.first_alike b,
    own_plan_least g h adds.all_accepted.1 adds.all_accepted.2 adds.second_alike b,
  )

pub adds_lawful : AddsLawful
adds_lawful = record {
  same_sets = λ f g h adds k. (ap (λ t. is_set t k) (first_tree f g h adds), ap (λ t. is_set t k) (second_tree f g h adds));
  same_servings = λ f g h adds k v. (ap (λ t. serving t k v) (first_tree f g h adds), ap (λ t. serving t k v) (second_tree f g h adds));
  totals_add = totals_add_lem;
  loads_add = loads_add_lem;
  plan_totals_at_least = λ f g h adds b.
      let least = at_plan f g h adds b in
      omega (arith, totals_add_lem f g h adds (plan (tree_of h) (demand_of h) b), least.0, least.1);
  sum_reached = λ f g h adds b.
      let p = plan (tree_of h) (demand_of h) b in
      let held = plan_ranks_first (tree_of h) (demand_of h) b in
      let both = totals_add_lem f g h adds p in
      let least = at_plan f g h adds b in (
        λ e. (p, held.is_a_set, held.within, omega (arith, both, least.0, least.1), omega (arith, both, least.0, least.1)),
        λ k. omega (
          arith,
          both,
          least.0,
          least.1,
          plan_least (tree_of h) (demand_of h) b k.0 k.1 k.2,
          totals_add_lem f g h adds k.0,
          k.3,
          k.4,
        ),
      );
}
