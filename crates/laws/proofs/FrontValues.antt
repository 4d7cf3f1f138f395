-- Fronts of lists that hold a rule's values f 0, f 1, .., and a loop that copies entries.
use mathlib.Core.Path.{◌≡◌, refl, sym, ap, ◌∙◌}
use mathlib.Core.List.{List, [], ◌∷◌, append-nil, map}
use Prim.Native.Nat.{ℕ, zero, suc, ◌+◌, ◌≤◌, ◌<◌}
use native.Mathlib.Decide.{dec_lt}
use native.Mathlib.Omega.{arith}
use lib.ListN.{length, take, get_or, set}
use lib.Seq.{sets, get_or-set_same, get_or-set_other}
use Rattle.laws.specs.Lists.{range}
use Rattle.laws.proofs.Lists.{entry_of_range, map_of_range_shift}

-- two rules that agree on a range
pub same_on_range : (f g : ℕ → ℕ) (i n : ℕ) → ((j : ℕ) → i ≤ j → j < i + n → f j ≡ g j) → map f (range i n) ≡ map g (range i n)
unfolding range
same_on_range f g i zero h = refl
same_on_range f g i (suc n) h =
    rw (h i (omega arith) (omega arith), same_on_range f g (suc i) n (λ j p q. h j (omega arith) (omega arith)))

-- the front of a list is its entries
pub front_is_entries : (n : ℕ) (l : List ℕ) → n ≤ length l → take n l ≡ map (λ j. get_or l j 0) (range 0 n)
unfolding range
front_is_entries zero l h = refl
front_is_entries (suc n) [] h = absurd (omega arith)
front_is_entries (suc n) (x ∷ l) h =
    ap (λ r. x ∷ r) (front_is_entries n l (omega arith) ∙ sym (map_of_range_shift (λ j. get_or (x ∷ l) j 0) 0 n))

pub entry_of_range_alone : (f : ℕ → ℕ) (n j : ℕ) → j < n → get_or (map f (range 0 n)) j 0 ≡ f j
entry_of_range_alone f n j h =
    ap (λ r. get_or r j 0) (sym (append-nil (map f (range 0 n)))) ∙ entry_of_range f 0 n j [] h ∙ ap f (omega arith)

-- one entry more stored after the first n
pub entries_next : (f : ℕ → ℕ) (l : List ℕ) (n x : ℕ) → ((j : ℕ) → j < n → get_or l j 0 ≡ f j) → n < length l → x ≡ f n
    → (j : ℕ) → j < n + 1 → get_or (set l n x) j 0 ≡ f j
entries_next f l n x k h e j b =
    elim (dec_lt j n) [
      | yes p ↦ get_or-set_other l n j x 0 (λ q. omega arith) ∙ k j p
      | no p ↦ let last : j ≡ n = omega arith in rw last (get_or-set_same l n x 0 h ∙ e)
    ]

-- a loop that copied the entries of another list: where it ends
pub loop_copied_front : (l : List ℕ) (i : ℕ) (xs : List ℕ) (j n : ℕ) {s : List ℕ}
    → s ≡ sets l i (map (λ k. get_or xs k 0) (range 0 j)) → j ≡ n → n ≤ length xs → s ≡ sets l i (take n xs)
loop_copied_front l i xs j n hs hj hn =
    hs ∙ ap (λ m. sets l i (map (λ k. get_or xs k 0) (range 0 m))) hj ∙ ap (sets l i) (sym (front_is_entries n xs hn))
