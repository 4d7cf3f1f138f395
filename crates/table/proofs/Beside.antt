-- A line that is read from the words before and behind another one.
use mathlib.Core.Path.{◌≡◌, refl, sym, ap, ◌∙◌}
use mathlib.Core.List.{List, ◌++◌}
use Prim.Native.Nat.{ℕ, ◌+◌, ◌-◌, ◌<◌}
use native.Mathlib.Nat.{add-sub_cancel_left}
use native.Mathlib.Omega.{arith}
use lib.ListN.{length, take, drop}
use lib.Seq.{take-append-le, drop_at, drop-drop}
use Rattle.places.specs.declared.Place.{Place}
use Rattle.places.specs.Places.{width_in}
use Rattle.table.specs.Table.{line_at, line_in, Beside}
use Rattle.table.proofs.Places.{line_none}

module _ {places : List Place} (before behind : List ℕ) {w x a : ℕ} (h : Beside places (length before) w (length behind) x a) where
  pub first_word : x ≡ 0 → (l : List ℕ) → take 1 before ≡ line_in places (before ++ (l ++ behind)) x a
  unfolding line_in
  first_word e l =
      let is = h.first e in
      rw (line_none places a e, is.1) (sym (take-append-le 1 before (l ++ behind) (omega (arith, is.0))))

  pub line_after : 0 < x → (l : List ℕ) → length l ≡ w → {at n : ℕ} → at ≡ line_at places x a → n ≡ width_in places x
      → take (at - (length before + w) + n - (at - (length before + w))) (drop (at - (length before + w)) behind) ≡ line_in places (before ++ (l ++ behind)) x a
  unfolding line_in
  line_after some l e {at} {n} f g =
      let from = at - (length before + w) in
      let there = h.behind some in
      let cut : at ≡ length before + (length l + from) = omega (arith, f, there.0, e) in
      let same : drop at (before ++ (l ++ behind)) ≡ drop from behind =
      ap (λ k. drop k (before ++ (l ++ behind))) cut
      ∙ sym (drop-drop (length l + from) (length before) (before ++ (l ++ behind)))
      ∙ ap (drop (length l + from)) (drop_at before (l ++ behind) (length before) refl)
      ∙ sym (drop-drop from (length l) (l ++ behind))
      ∙ ap (drop from) (drop_at l behind (length l) refl) in
      rw (add-sub_cancel_left from n, ← f, ← g, same)
