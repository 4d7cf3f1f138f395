-- Laws of the smallest number of a list at which a function is least.
use mathlib.Core.Path.{◌≡◌}
use mathlib.Core.Bool.{true}
use mathlib.Core.List.{List, [], ◌∷◌}
use Prim.Native.Nat.{ℕ, ◌<◌}
use native.Mathlib.Decide.{dec_lt}
use native.Mathlib.Omega.{arith}
use Rattle.laws.specs.Lists.{has}
use Rattle.laws.specs.FirstLeast.{NoLaterBy, FirstLeast}
use Rattle.laws.proofs.Lists.{has_head, has_tail, has_cases, has_none}

module _ (f : ℕ → ℕ) where
  pub no_later_self : (v : ℕ) → NoLaterBy f v v
  no_later_self v = omega arith

  no_later_trans : (w v u : ℕ) → NoLaterBy f w v → NoLaterBy f v u → NoLaterBy f w u
  no_later_trans w v u p q = (
    omega arith,
    λ e.
        let first : f w ≡ f v = omega arith in
        let last : f v ≡ f u = omega arith in
        omega (arith, p.1 first, q.1 last),
  )

  -- a smaller number has a greater value
  pub no_later_smaller : (v u : ℕ) → NoLaterBy f v u → u < v → f v < f u
  no_later_smaller v u p h =
      elim (dec_lt (f v) (f u)) [ yes less ↦ less | no more ↦ let same : f v ≡ f u = omega arith in absurd (omega (arith, p.1 same)) ]

  no_later_cons : (w v u : ℕ) (l : List ℕ) → NoLaterBy f w v → (has l u ≡ true → NoLaterBy f w u) → has (v ∷ l) u ≡ true → NoLaterBy f w u
  no_later_cons w v u l p = has_cases (NoLaterBy f w u) v u l (λ e. rw e at p)

  pub first_least_one : (v : ℕ) → FirstLeast f (v ∷ []) v
  first_least_one v =
      record { member = has_head v []; no_later = λ u. no_later_cons v v u [] (no_later_self v) (λ m. absurd (has_none u m)) }

  -- a member that comes no later than the first two stands for them
  pub first_least_two : (u v x w : ℕ) (l : List ℕ) → has (u ∷ v ∷ l) x ≡ true → NoLaterBy f x u → NoLaterBy f x v
      → FirstLeast f (x ∷ l) w → FirstLeast f (u ∷ v ∷ l) w
  first_least_two u v x w l m p q h =
      let over_x = h.no_later x (has_head x l) in
      let over_u = no_later_trans w x u over_x p in
      let over_v = no_later_trans w x v over_x q in
      record {
        member = has_cases (has (u ∷ v ∷ l) w ≡ true) x w l (λ e. rw e at m) (λ i. has_tail u w (v ∷ l) (has_tail v w l i)) h.member;
        no_later = λ y. no_later_cons w u y (v ∷ l) over_u (no_later_cons w v y l over_v (λ i. h.no_later y (has_tail x y l i)));
      }
