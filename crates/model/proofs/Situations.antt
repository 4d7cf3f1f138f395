-- One client's cost in its four situations: which of them holds, and that each costs what is stated.
use mathlib.Core.Path.{◌≡◌, refl, sym, ◌∙◌}
use mathlib.Core.Bool.{true, cond}
use mathlib.Core.List.{List}
use mathlib.Core.Logic.{◌↔◌, ⊎_elim}
use Prim.Native.Nat.{ℕ, ◌+◌, ◌*◌, ◌-◌, ◌≤◌}
use native.Mathlib.Decide.{ℕ_discrete}
use native.Mathlib.Nat.{mul_comm, mul-sub, mul-le-mul_left, mul-le-mul_right}
use native.Mathlib.Omega.{arith}
use lib.Dec.{eqb}
use borrow.Author.Tests.{eqb-true, eqb-false, eq-eqb, ne_eqb}
use Rattle.laws.proofs.Bools.{by_test}
use Rattle.model.specs.File.{Tree, Demand, tree_of, demand_of}
use Rattle.model.specs.Tree.{at_or_below, distance}
use Rattle.model.specs.Rules.{file_verdict, accepted, is_set}
use Rattle.model.specs.Bill.{whole, cachable, price, cost, serving}
use Rattle.model.specs.Accepted.{Sound}
use Rattle.model.specs.Situations.{Situation, no_cache, nothing, everything, partly, first_situation, cost_in, paper_cost, situation, CacheOnRoute, Holds, SituationsLawful, LeftOut}
use Rattle.model.proofs.Verdicts.{is_passed_lem}
use Rattle.model.proofs.Accepted.{accepted_sound}
use Rattle.model.proofs.Amounts.{ratio_nothing_lem, ratio_everything_lem, bytes_nothing_lem, bytes_everything_lem, price_amounts}
use Rattle.model.proofs.Routes.{distance_server}
use Rattle.model.proofs.Intervals.{below_after}
use Rattle.model.proofs.Nearest.{distance_grows, cost_is}
use Rattle.model.proofs.BillLaws.{serving_serves}
use Rattle.model.proofs.Ascending.{ascends_bounds, set_ascends}

-- ---- one client that asks for `all`, of which `part` is cachable, served by v

module _ (all part v : ℕ) where
  -- what each situation says of the serving node and the amounts
  abbrev Says : Situation → Type 0
  Says no_cache = v ≡ 0
  Says nothing = (v ≡ 0 → ⊥) × (part ≡ 0)
  Says everything = (v ≡ 0 → ⊥) × (part ≡ 0 → ⊥) × (part ≡ all)
  Says partly = (v ≡ 0 → ⊥) × (part ≡ 0 → ⊥) × (part ≡ all → ⊥)

  says : Says (first_situation all part v)
  unfolding first_situation
  says =
      by_test (λ b. Says (cond b no_cache (cond (eqb part 0) nothing (cond (eqb part all) everything partly)))) (eqb v 0)
      (λ e. eqb-true v 0 e)
      (λ e. by_test (λ b. Says (cond b nothing (cond (eqb part all) everything partly))) (eqb part 0)
      (λ g. (eqb-false v 0 e, eqb-true part 0 g))
      (λ g. by_test (λ b. Says (cond b everything partly)) (eqb part all)
      (λ h. (eqb-false v 0 e, eqb-false part 0 g, eqb-true part all h))
      (λ h. (eqb-false v 0 e, eqb-false part 0 g, eqb-false part all h))))

  says_only : (x : Situation) → Says x → x ≡ first_situation all part v
  unfolding first_situation
  says_only no_cache e = simp (eq-eqb v 0 e)
  says_only nothing s = simp (ne_eqb v 0 s.0, eq-eqb part 0 s.1)
  says_only everything s = simp (ne_eqb v 0 s.0, ne_eqb part 0 s.1, eq-eqb part all s.2)
  says_only partly s = simp (ne_eqb v 0 s.0, ne_eqb part 0 s.1, ne_eqb part all s.2)

  -- all four cost what the last does
  cost_in_amounts : (x y : ℕ) → (v ≡ 0 → y ≡ 0) → cost_in (first_situation all part v) all part x y ≡ all * x - part * y
  unfolding first_situation cost_in
  cost_in_amounts x y near =
      by_test (λ b. cost_in (cond b no_cache (cond (eqb part 0) nothing (cond (eqb part all) everything partly))) all part x y ≡ all * x - part * y) (eqb v 0)
      (λ e. rw (near (eqb-true v 0 e)) (omega arith))
      (λ _. by_test (λ b. cost_in (cond b nothing (cond (eqb part all) everything partly)) all part x y ≡ all * x - part * y) (eqb part 0)
      (λ e. rw (eqb-true part 0 e) (omega arith))
      (λ _. by_test (λ b. cost_in (cond b everything partly) all part x y ≡ all * x - part * y) (eqb part all)
      (λ e. rw (eqb-true part all e) (mul-sub all x y))
      (λ _. refl)))

-- and so does the formula, at distance x and with the cache at distance y
paper_amounts : (all part x y : ℕ) → part ≤ all → y ≤ x → paper_cost all part (x - y) y ≡ all * x - part * y
unfolding paper_cost
paper_amounts all part x y few near =
    let way : (x - y) + y ≡ x = omega arith in
    rw way (omega (
      arith,
      mul-sub part x y,
      mul_comm (all - part) x ∙ mul-sub x all part,
      mul_comm x all,
      mul_comm x part,
      mul-le-mul_left part near,
      mul-le-mul_right x few,
    ))

-- ---- the client at c

module _ (t : Tree) (d : Demand) (c : ℕ) where
  -- served by v
  pub cost_in_price : t.link_length 0 ≡ 0 → (v : ℕ)
      → cost_in (first_situation (whole d c) (cachable d c) v) (whole d c) (cachable d c) (distance t c) (distance t v) ≡ price t d c v
  cost_in_price z v =
      cost_in_amounts (whole d c) (cachable d c) v (distance t c) (distance t v) (λ e. rw e (distance_server t z)) ∙ sym (price_amounts d c t v)

module _ (t : Tree) (d : Demand) (ok : Sound t d) (k : List ℕ) (c : ℕ) where
  -- a serving node that is not the server is a cache
  cached : (serving t k c ≡ 0 → ⊥) → CacheOnRoute t k c
  cached n = let s = serving_serves t ok.preorder k c in (serving t k c, ⊎_elim (λ h. h) (λ e. absurd (n e)) s.member, s.on_route)

  -- where the server serves, no member of a set is on the route
  uncached : is_set t k ≡ true → serving t k c ≡ 0 → CacheOnRoute t k c → ⊥
  uncached is e u =
      let site = ascends_bounds t.count 0 u.0 k (set_ascends t k is) u.1 in
      let above = (serving_serves t ok.preorder k c).nearest u.0 u.1 u.2 in
      absurd (omega (arith, site.0, below_after t ok.preorder u.0 (serving t k c) above, e))

  -- so a situation holds just where it says so of the serving node
  holds_says : is_set t k ≡ true → (x : Situation) → Says (whole d c) (cachable d c) (serving t k c) x ↔ Holds t d k c x
  holds_says is no_cache = (uncached is, λ n. elim (ℕ_discrete (serving t k c) 0) [ yes e ↦ e | no e ↦ absurd (n (cached e)) ])
  holds_says is nothing = (λ s. (cached s.0, s.1), λ h. (λ e. uncached is e h.0, h.1))
  holds_says is everything = (
    λ s. (cached s.0, omega (arith, s.1), s.2),
    λ h. (λ e. uncached is e h.0, λ e. absurd (omega (arith, h.1, e)), h.2),
  )
  holds_says is partly = (
    λ s. (cached s.0, omega (arith, s.1), omega (arith, ok.part c, s.2)),
    λ h. (λ e. uncached is e h.0, λ e. absurd (omega (arith, h.1, e)), λ e. absurd (omega (arith, h.2, e))),
  )

  situation_holds : is_set t k ≡ true → Holds t d k c (situation t d k c)
  unfolding situation
  situation_holds is = (holds_says is (situation t d k c)).0 (says (whole d c) (cachable d c) (serving t k c))

  only_situation : (x : Situation) → is_set t k ≡ true → Holds t d k c x → x ≡ situation t d k c
  unfolding situation
  only_situation x is h = says_only (whole d c) (cachable d c) (serving t k c) x ((holds_says is x).1 h)

  cost_in_is : cost_in (situation t d k c) (whole d c) (cachable d c) (distance t c) (distance t (serving t k c)) ≡ cost t d k c
  unfolding situation
  cost_in_is = cost_in_price t d c ok.server (serving t k c) ∙ sym (cost_is t ok.preorder k d c)

-- ---- the laws

pub situations_lawful : (file : List ℕ) → accepted file ≡ true → SituationsLawful (tree_of file) (demand_of file)
unfolding accepted at_or_below cost_in
situations_lawful file fits =
    let t = tree_of file in
    let d = demand_of file in
    let ok = accepted_sound file (is_passed_lem (file_verdict file) fits) in
    record {
      situation_said = situation_holds t d ok;
      situation_only = only_situation t d ok;
      ratio_nothing = λ c. ratio_nothing_lem d c;
      ratio_everything = λ c. ratio_everything_lem d c;
      bytes_nothing = λ c. bytes_nothing_lem d c;
      bytes_everything = λ c. bytes_everything_lem d c;
      no_cache_cost = λ k c e. sym (rw e at (cost_in_is t d ok k c));
      nothing_cost = λ k c e. sym (rw e at (cost_in_is t d ok k c));
      everything_cost = λ k c e. sym (rw e at (cost_in_is t d ok k c));
      partly_cost = λ k c e. sym (rw e at (cost_in_is t d ok k c));
      cost_said = cost_in_is t d ok;
      paper_said = λ c v on. paper_amounts _ _ _ _ (ok.part c) (distance_grows t ok.preorder v c on) ∙ sym (price_amounts d c t v);
    }

pub left_out : LeftOut
unfolding cost_in
left_out = record {
  first = λ all part other x y z. refl;
  second = λ all part other x y z. refl;
  third = λ all part other x y. refl;
}
