-- Laws of a search upward for the first number that has the greatest value: where it begins, and its turns.
use mathlib.Core.Path.{◌≡◌, refl, sym, subst, ◌∙◌}
use mathlib.Core.Bool.{Bool, true, false}
use Prim.Native.Nat.{ℕ, ◌+◌, ◌≤◌, ◌<◌}
use native.Mathlib.Decide.{dec_lt}
use native.Mathlib.Omega.{arith}
use Rattle.laws.specs.FirstGreatest.{FirstGreatest}
use Rattle.laws.proofs.Bools.{by_test}

module _ (skipped : ℕ → Bool) (f : ℕ → ℕ) where
  pub search_begins : FirstGreatest skipped f 1 0 0
  search_begins =
      record {
        below = omega arith;
        held = λ h. absurd (omega arith);
        idle = λ _. refl;
        none_more = λ u a b. absurd (omega arith);
        earlier_less = λ u a b. absurd (omega arith);
      }

  module _ (v best most : ℕ) (s : FirstGreatest skipped f v best most) where
    -- v has more than all before it
    pub search_finds : skipped v ≡ false → most < f v → FirstGreatest skipped f (v + 1) v (f v)
    search_finds kept more =
        record {
          below = omega arith;
          held = λ _. (omega arith, kept, refl);
          idle = λ e. absurd (omega arith);
          none_more = λ u a b lacks. elim (dec_lt u v) [
            | yes l ↦ omega (arith, s.none_more u a l lacks)
            | no l ↦ let e : v ≡ u = omega arith in subst (λ w. f w ≤ f v) e (omega arith)
          ];
          earlier_less = λ u a b lacks. omega (arith, s.none_more u a b lacks);
        }

    -- v is skipped, or has no more than an earlier one
    pub search_passes : (skipped v ≡ false → f v ≤ most) → FirstGreatest skipped f (v + 1) best most
    search_passes no_more =
        record {
          below = omega arith;
          held = s.held;
          idle = s.idle;
          none_more = λ u a b. elim (dec_lt u v) [
            | yes l ↦ s.none_more u a l
            | no l ↦ let e : v ≡ u = omega arith in subst (λ w. skipped w ≡ false → f w ≤ most) e no_more
          ];
          earlier_less = s.earlier_less;
        }

-- a search that skips fewer, where the others that are skipped have no value
pub search_skips : (fewer skipped : ℕ → Bool) (f g : ℕ → ℕ) (v best most : ℕ) → ((u : ℕ) → 1 ≤ u → u < v → f u ≡ g u)
    → ((u : ℕ) → skipped u ≡ false → fewer u ≡ false) → ((u : ℕ) → 1 ≤ u → u < v → fewer u ≡ false → skipped u ≡ true → g u ≡ 0)
    → FirstGreatest fewer f v best most → FirstGreatest skipped g v best most
search_skips fewer skipped f g v best most same kept none s =
    record {
      below = s.below;
      held = λ h. let b = s.held h in
          let e = same best b.0 s.below in (
            b.0,
            by_test (λ x. x ≡ false) (skipped best) (λ m. absurd (omega (arith, none best b.0 s.below b.1 m, e, b.2))) (λ _. refl),
            sym e ∙ b.2,
          );
      idle = s.idle;
      none_more = λ u a b l. omega (arith, same u a b, s.none_more u a b (kept u l));
      earlier_less = λ u a b l. omega (arith, same u a (omega (arith, s.below)), s.earlier_less u a b (kept u l));
    }
