-- Loops that write rows of equally many entries one after the other, and zeros.
use mathlib.Core.Path.{◌≡◌, refl, sym, ap, ◌∙◌}
use mathlib.Core.List.{List, [], ◌∷◌, ◌++◌, append-nil, append_assoc, flat_map}
use Prim.Native.Nat.{ℕ, zero, suc, ◌+◌, ◌-◌, ◌*◌, ◌<◌, ◌≤◌}
use native.Mathlib.Nat.{zero-add}
use native.Mathlib.Numerals.{add-one}
use native.Mathlib.Omega.{arith}
use lib.ListN.{length, set, replicate, length-replicate, replicate-append-replicate}
use lib.Seq.{sets}
use Rattle.laws.specs.Lists.{range}
use Rattle.laws.proofs.Lists.{range_snoc}
use Rattle.laws.proofs.Stores.{sets_append, length_of_rows}

pub flat_append : (f : ℕ → List ℕ) (xs ys : List ℕ) → flat_map f (xs ++ ys) ≡ flat_map f xs ++ flat_map f ys
unfolding flat_map
flat_append f [] ys = refl
flat_append f (x ∷ xs) ys = ap (λ l. f x ++ l) (flat_append f xs ys) ∙ sym (append_assoc (f x) (flat_map f xs) (flat_map f ys))

pub flat_snoc : (f : ℕ → List ℕ) (n : ℕ) → flat_map f (range 0 (suc n)) ≡ flat_map f (range 0 n) ++ f n
unfolding flat_map
flat_snoc f n =
    ap (flat_map f) (range_snoc 0 n) ∙ flat_append f (range 0 n) _ ∙ rw (append-nil (f (0 + n)), zero-add n)

-- rows that are the same one by one
pub flat_same : (f g : ℕ → List ℕ) (i n : ℕ) → ((j : ℕ) → i ≤ j → j < i + n → f j ≡ g j) → flat_map f (range i n) ≡ flat_map g (range i n)
unfolding flat_map range
flat_same f g i zero h = refl
flat_same f g i (suc n) h =
    rw (h i (omega arith) (omega arith), flat_same f g (suc i) n (λ j p q. h j (omega arith) (omega arith)))

-- a loop that writes row after row from index 0 on: where it begins, and a turn
pub rows_begin : (f : ℕ → List ℕ) (l : List ℕ) → l ≡ sets l 0 (flat_map f (range 0 0))
unfolding range flat_map
rows_begin f l = refl

pub rows_turn : (f : ℕ → List ℕ) (k b : ℕ) (l : List ℕ) {s : List ℕ} → ((j : ℕ) → j < b → length (f j) ≡ k)
    → s ≡ sets l 0 (flat_map f (range 0 b)) → sets s (b * k) (f b) ≡ sets l 0 (flat_map f (range 0 (b + 1)))
rows_turn f k b l h e =
    let long : length (flat_map f (range 0 b)) ≡ b * k = length_of_rows f k 0 b (λ j _ q. h j (omega arith)) in
    rw (e, add-one b, flat_snoc f b, sets_append l 0 (flat_map f (range 0 b)) (f b), long, zero-add (b * k))

-- a loop that writes zeros from index a on: where it begins, and a turn
pub zeros_begin : (l : List ℕ) (a : ℕ) → l ≡ sets l a (replicate (a - a) 0)
zeros_begin l a = let none : a - a ≡ 0 = omega arith in rw none

pub zeros_turn : (l : List ℕ) (a i : ℕ) {s : List ℕ} → a ≤ i → s ≡ sets l a (replicate (i - a) 0)
    → set s i 0 ≡ sets l a (replicate (i + 1 - a) 0)
zeros_turn l a i h e =
    let zeros : List ℕ = replicate (i - a) 0 in
    let one : List ℕ = replicate 1 0 in
    let more : i + 1 - a ≡ (i - a) + 1 = omega arith in
    let here : a + (i - a) ≡ i = omega arith in
    rw (e, more, ← (replicate-append-replicate {A = ℕ} (i - a) 1 0), sets_append l a zeros one, length-replicate {A = ℕ} (i - a) 0, here)
