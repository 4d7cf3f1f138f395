-- Laws of lists that differ at most in their fronts, and of lists whose fronts are the same.
use mathlib.Core.Path.{◌≡◌, refl, sym, ap, ◌∙◌}
use mathlib.Core.List.{List}
use Prim.Native.Nat.{ℕ, ◌+◌, ◌-◌, ◌≤◌, ◌<◌}
use native.Mathlib.Omega.{arith}
use lib.ListN.{take, drop, set, get_or, length-set}
use lib.Seq.{drop-drop, drop-set-lt, get_or-take}
use Rattle.laws.specs.Fronts.{FrontOnly}

module _ (m : ℕ) where
  pub front_only_none : (s : List ℕ) → FrontOnly m s s
  front_only_none s = record { long = refl; rest = refl }

  -- a store in the front
  pub front_only_set : {s r : List ℕ} (i x : ℕ) → i < m → FrontOnly m s r → FrontOnly m s (set r i x)
  front_only_set {r = r} i x h f = record { long = length-set r i x ∙ f.long; rest = drop-set-lt m r i x h ∙ f.rest }

  pub front_only_then : {s r l : List ℕ} → FrontOnly m s r → FrontOnly m r l → FrontOnly m s l
  front_only_then f g = record { long = g.long ∙ f.long; rest = g.rest ∙ f.rest }

  -- they are the same from any later index on
  pub front_only_past : {s r : List ℕ} (n : ℕ) → m ≤ n → FrontOnly m s r → drop n r ≡ drop n s
  front_only_past {s} {r} n h f =
      let e : m + (n - m) ≡ n = omega arith in
      rw (← e, ← drop-drop (n - m) m r, ← drop-drop (n - m) m s) (ap (drop (n - m)) f.rest)

  -- lists with the same front have its entries in common
  pub same_front_entry : (s r : List ℕ) (i : ℕ) → take m s ≡ take m r → i < m → get_or s i 0 ≡ get_or r i 0
  same_front_entry s r i e h = sym (get_or-take m s i 0 h) ∙ ap (λ l. get_or l i 0) e ∙ get_or-take m r i 0 h

-- a longer front
pub front_only_wider : {m n : ℕ} {s r : List ℕ} → m ≤ n → FrontOnly m s r → FrontOnly n s r
front_only_wider {m} {n} h f = record { long = f.long; rest = front_only_past m n h f }
