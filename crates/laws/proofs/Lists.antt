-- Laws of membership, ranges, lists by a rule, and those of a list that pass a test.
use mathlib.Core.Path.{◌≡◌, refl, sym, ap, ◌∙◌}
use mathlib.Core.Bool.{Bool, true, false, cond, ◌&&◌, ◌||◌, false≢true, or-true, and-false, and-or_distrib_left}
use mathlib.Core.List.Memᴰ
use mathlib.Core.List.{List, [], ◌∷◌, ◌++◌, map, Memᴰ}
use mathlib.Core.Logic.{◌↔◌, inl, inr}
use Prim.Native.Nat.{ℕ, zero, suc, ◌+◌, ◌-◌, ◌≤◌, ◌<◌, max}
use native.Mathlib.Nat.{add-zero}
use native.Mathlib.Decide.{ℕ_discrete}
use native.Mathlib.Omega.{arith}
use lib.Dec.{eqb}
use lib.ListN.{length, get_or, length-map, replicate}
use borrow.Author.Tests.{eq-eqb, ne_eqb, eqb-true}
use Rattle.laws.specs.Lists.{range, greatest, has, all_of, those}
use Rattle.laws.proofs.Bools.{by_test, not_both, both}

-- ---- membership

pub has_cases : (X : Type 0) (x v : ℕ) (xs : List ℕ) → (x ≡ v → X) → (has xs v ≡ true → X) → has (x ∷ xs) v ≡ true → X
unfolding has
has_cases X x v xs f g = by_test (λ b. b || has xs v ≡ true → X) (eqb x v) (λ e _. f (eqb-true x v e)) (λ _ h. g h)

pub has_none : (v : ℕ) → has [] v ≡ true → ⊥
unfolding has
has_none v h = false≢true h

pub has_head : (x : ℕ) (xs : List ℕ) → has (x ∷ xs) x ≡ true
unfolding has
has_head x xs = rw (eq-eqb x x refl)

pub has_tail : (x v : ℕ) (xs : List ℕ) → has xs v ≡ true → has (x ∷ xs) v ≡ true
unfolding has
has_tail x v xs h = rw (h, or-true)

pub has_other : (x v : ℕ) (xs : List ℕ) → (x ≡ v → ⊥) → has (x ∷ xs) v ≡ has xs v
unfolding has
has_other x v xs n = rw (ne_eqb x v n)

pub lacks_head : (x v : ℕ) (xs : List ℕ) → has (x ∷ xs) v ≡ false → x ≡ v → ⊥
lacks_head x v xs h e = not_both (rw e (has_head v xs)) h

pub lacks_tail : (x v : ℕ) (xs : List ℕ) → has (x ∷ xs) v ≡ false → has xs v ≡ false
lacks_tail x v xs h = sym (has_other x v xs (lacks_head x v xs h)) ∙ h

-- ---- no entries

pub none_of_length : (l : List ℕ) → length l ≡ 0 → l ≡ []
none_of_length [] e = refl
none_of_length (x ∷ xs) e = absurd (omega arith)

-- ---- an entry inside a list is the same by any default

pub entry_by_any_default : (l : List ℕ) (n d e : ℕ) → n < length l → get_or l n d ≡ get_or l n e
entry_by_any_default [] n d e h = absurd (omega arith)
entry_by_any_default (x ∷ l) zero d e h = refl
entry_by_any_default (x ∷ l) (suc n) d e h = entry_by_any_default l n d e (omega arith)

-- ---- ranges

pub length_range : (i n : ℕ) → length (range i n) ≡ n
unfolding range
length_range i zero = refl
length_range i (suc n) = ap suc (length_range (suc i) n)

pub range_snoc : (i n : ℕ) → range i (suc n) ≡ range i n ++ ((i + n) ∷ [])
unfolding range
range_snoc i zero = rw (add-zero i)
range_snoc i (suc n) = ap (λ l. i ∷ l) (range_snoc (suc i) n ∙ ap (λ j. range (suc i) n ++ (j ∷ [])) (omega arith))

pub in_range : (i n v : ℕ) → i ≤ v → v < i + n → has (range i n) v ≡ true
unfolding range
in_range i zero v h k = absurd (omega arith)
in_range i (suc n) v h k =
    elim (ℕ_discrete i v) [
      | yes e ↦ rw e (has_head v (range (suc v) n))
      | no e ↦ has_tail i v (range (suc i) n) (in_range (suc i) n v (omega arith) (omega arith))
    ]

pub range_bounds : (i n v : ℕ) → has (range i n) v ≡ true → (i ≤ v) × (v < i + n)
unfolding range
range_bounds i zero v h = absurd (has_none v h)
range_bounds i (suc n) v h =
    has_cases ((i ≤ v) × (v < i + suc n)) i v (range (suc i) n) (λ e. omega arith)
    (λ m. let b = range_bounds (suc i) n v m in omega arith) h

-- ---- lists by a rule

pub map_append : {A B : Type 0} (f : A → B) (xs ys : List A) → map f (xs ++ ys) ≡ map f xs ++ map f ys
map_append f [] ys = refl
map_append f (x ∷ xs) ys = ap (λ l. f x ∷ l) (map_append f xs ys)

pub length_of_range : (f : ℕ → ℕ) (i n : ℕ) → length (map f (range i n)) ≡ n
length_of_range f i n = length-map (range i n) f ∙ length_range i n

-- the entry of f over i, i + 1, .. in front of a rest
pub entry_of_range : (f : ℕ → ℕ) (i n b : ℕ) (rest : List ℕ) → b < n → get_or (map f (range i n) ++ rest) b 0 ≡ f (i + b)
unfolding range
entry_of_range f i zero b rest h = absurd (omega arith)
entry_of_range f i (suc n) zero rest h = rw (add-zero i)
entry_of_range f i (suc n) (suc b) rest h =
    let e : i + suc b ≡ suc i + b = omega arith in
    rw e (entry_of_range f (suc i) n b rest (omega arith))

-- f from the next number on
pub map_of_range_shift : (f : ℕ → ℕ) (i n : ℕ) → map f (range (suc i) n) ≡ map (λ j. f (suc j)) (range i n)
unfolding range
map_of_range_shift f i zero = refl
map_of_range_shift f i (suc n) = ap (λ l. f (suc i) ∷ l) (map_of_range_shift f (suc i) n)

-- a list's entries, read past its end: the list, then zeros
pub entries_padded : (l : List ℕ) (n : ℕ) → length l ≤ n → map (λ j. get_or l j 0) (range 0 n) ≡ l ++ replicate (n - length l) 0
unfolding range
entries_padded [] zero h = refl
entries_padded [] (suc n) h =
    let e : suc n - 0 ≡ suc n = omega arith in
    let z : n - 0 ≡ n = omega arith in
    let rest = entries_padded [] n (omega arith) in
    rw e (ap (λ (r : List ℕ). 0 ∷ r) (map_of_range_shift (λ j. get_or [] j 0) 0 n ∙ (rw z at rest)))
entries_padded (x ∷ l) zero h = absurd (omega arith)
entries_padded (x ∷ l) (suc n) h =
    let e : suc n - suc (length l) ≡ n - length l = omega arith in
    rw e (ap (λ r. x ∷ r) (map_of_range_shift (λ j. get_or (x ∷ l) j 0) 0 n ∙ entries_padded l n (omega arith)))

-- the greatest of f over one number more
pub greatest_snoc : (f : ℕ → ℕ) (i n : ℕ) → greatest f (range i (suc n)) ≡ max (greatest f (range i n)) (f (i + n))
unfolding greatest range
greatest_snoc f i zero = rw (add-zero i) (omega arith)
greatest_snoc f i (suc n) =
    let e : i + suc n ≡ suc i + n = omega arith in
    rw e (omega (arith, greatest_snoc f (suc i) n))

-- the greatest is none below f of a member, and no more than what f never passes
pub greatest_over : (f : ℕ → ℕ) (v : ℕ) (l : List ℕ) → has l v ≡ true → f v ≤ greatest f l
unfolding greatest
greatest_over f v [] h = absurd (has_none v h)
greatest_over f v (x ∷ l) h = has_cases (f v ≤ greatest f (x ∷ l)) x v l (λ e. rw e (omega arith)) (λ m. omega (arith, greatest_over f v l m)) h

pub greatest_within : (f : ℕ → ℕ) (most : ℕ) (l : List ℕ) → ((v : ℕ) → f v ≤ most) → greatest f l ≤ most
unfolding greatest
greatest_within f most [] h = omega arith
greatest_within f most (x ∷ l) h = omega (arith, h x, greatest_within f most l h)

-- ---- those that pass a test

-- all of a list do just where each member does
pub all_said : (p : ℕ → Bool) (l : List ℕ) → all_of p l ≡ true ↔ ((v : ℕ) → has l v ≡ true → p v ≡ true)
unfolding all_of
all_said p [] = (λ _ v m. absurd (has_none v m), λ _. refl)
all_said p (x ∷ xs) =
    let rest = all_said p xs in (
      λ h v. let parts = both (p x) (all_of p xs) h in has_cases (p v ≡ true) x v xs (λ e. rw e at parts.0) (rest.0 parts.1 v),
      λ h. rw (h x (has_head x xs)) (rest.1 (λ v m. h v (has_tail x v xs m))),
    )

-- two rules that a test finds equal below n
pub equal_below : (f g : ℕ → ℕ) (n : ℕ) → all_of (λ v. eqb (f v) (g v)) (range 0 n) ≡ true → (v : ℕ) → v < n → f v ≡ g v
equal_below f g n e v l = eqb-true (f v) (g v) ((all_said (λ u. eqb (f u) (g u)) (range 0 n)).0 e v (in_range 0 n v (omega arith) (omega arith)))

-- where x is v, a test of the one is a test of the other
test_where_same : (p : ℕ → Bool) (x v : ℕ) → (p v && eqb x v) ≡ (p x && eqb x v)
test_where_same p x v = by_test (λ b. (p v && b) ≡ (p x && b)) (eqb x v) (λ e. rw (eqb-true x v e)) (λ _. simp and-false)

pub has_those : (p : ℕ → Bool) (v : ℕ) (l : List ℕ) → has (those p l) v ≡ (p v && has l v)
unfolding has those
has_those p v [] = rw and-false
has_those p v (x ∷ xs) =
    rw (and-or_distrib_left, test_where_same p x v, ← has_those p v xs)
    (by_test (λ b. has (cond b (x ∷ those p xs) (those p xs)) v ≡ (b && eqb x v || has (those p xs) v)) (p x) (λ _. refl) (λ _. refl))

pub none_of_these : (p : ℕ → Bool) (x m : ℕ) → p x ≡ false → those p (replicate m x) ≡ []
unfolding those
none_of_these p x zero h = refl
none_of_these p x (suc m) h = rw h (none_of_these p x m h)

-- ---- membership as a place in the list

module _ {A B : Type 0} (f : A → B) where
  pub map_has : {x : A} {l : List A} → Memᴰ x l → Memᴰ (f x) (map f l)
  map_has (Memᴰ.head e) = Memᴰ.head (ap f e)
  map_has (Memᴰ.tail m) = Memᴰ.tail (map_has m)

  pub in_map : (y : B) (l : List A) → Memᴰ y (map f l) → (x : A) × Memᴰ x l × (y ≡ f x)
  in_map y [] m = absurd (Memᴰ.not-nil m)
  in_map y (x ∷ l) m =
      elim (Memᴰ.cases_cons m) [
        | inl e ↦ (x, Memᴰ.head refl, e)
        | inr n ↦ let r = in_map y l n in (r.0, Memᴰ.tail r.1, r.2)
      ]
