-- Laws of sums over lists and ranges.
use mathlib.Core.Path.{◌≡◌, refl, sym, ◌∙◌}
use mathlib.Core.Bool.{Bool, true, cond}
use mathlib.Core.List.{List, [], ◌∷◌}
use Prim.Native.Nat.{ℕ, zero, suc, ◌+◌, ◌*◌, ◌≤◌, ◌<◌}
use native.Mathlib.Nat.{add-zero}
use native.Mathlib.Decide.{ℕ_discrete}
use native.Mathlib.Omega.{arith}
use lib.ListN.{length}
use Rattle.laws.specs.Lists.{range, sum, has, those}
use Rattle.laws.proofs.Bools.{by_test}
use Rattle.laws.proofs.Lists.{has_head, has_tail, range_bounds}

pub sum_mul : (f : ℕ → ℕ) (k : ℕ) (l : List ℕ) → sum f l * k ≡ sum (λ c. f c * k) l
unfolding sum
sum_mul f k [] = omega arith
sum_mul f k (c ∷ l) = omega (arith, sum_mul f k l)

pub sum_add : (f g : ℕ → ℕ) (l : List ℕ) → sum (λ c. f c + g c) l ≡ sum f l + sum g l
unfolding sum
sum_add f g [] = omega arith
sum_add f g (c ∷ l) = omega (arith, sum_add f g l)

pub sum_none : (l : List ℕ) → sum (λ _. 0) l ≡ 0
unfolding sum
sum_none [] = refl
sum_none (c ∷ l) = omega (arith, sum_none l)

pub sum_swap : (f : ℕ → ℕ → ℕ) (l k : List ℕ) → sum (λ v. sum (f v) k) l ≡ sum (λ c. sum (λ v. f v c) l) k
unfolding sum
sum_swap f [] k = sym (sum_none k)
sum_swap f (v ∷ l) k = omega (arith, sum_swap f l k, sum_add (f v) (λ c. sum (λ v. f v c) l) k)

-- two functions that agree on the list
pub sum_same : (f g : ℕ → ℕ) (l : List ℕ) → ((v : ℕ) → has l v ≡ true → f v ≡ g v) → sum f l ≡ sum g l
unfolding sum
sum_same f g [] h = refl
sum_same f g (v ∷ l) h = omega (arith, h v (has_head v l), sum_same f g l (λ u m. h u (has_tail v u l m)))

-- a function that is 0 on the list
pub sum_zero : (f : ℕ → ℕ) (l : List ℕ) → ((v : ℕ) → has l v ≡ true → f v ≡ 0) → sum f l ≡ 0
sum_zero f l h = sum_same f (λ _. 0) l h ∙ sum_none l

-- a sum that counts only where a test passes
pub sum_where : (f : ℕ → ℕ) (b : Bool) (l : List ℕ) → sum (λ c. cond b (f c) 0) l ≡ cond b (sum f l) 0
sum_where f b l = by_test (λ a. sum (λ c. cond a (f c) 0) l ≡ cond a (sum f l) 0) b (λ _. refl) (λ _. sum_none l)

-- the sum over those that pass a test
pub sum_those : (f : ℕ → ℕ) (p : ℕ → Bool) (l : List ℕ) → sum f (those p l) ≡ sum (λ c. cond (p c) (f c) 0) l
unfolding sum those
sum_those f p [] = refl
sum_those f p (c ∷ l) =
    by_test (λ b. sum f (cond b (c ∷ those p l) (those p l)) ≡ cond b (f c) 0 + sum (λ c. cond (p c) (f c) 0) l) (p c)
    (λ _. omega (arith, sum_those f p l)) (λ _. omega (arith, sum_those f p l))

pub sum_le : (f : ℕ → ℕ) (most : ℕ) (i n : ℕ) → ((j : ℕ) → f j ≤ most) → sum f (range i n) ≤ n * most
unfolding sum range
sum_le f most i zero h = omega arith
sum_le f most i (suc n) h = omega (arith, h i, sum_le f most (suc i) n h)

-- the same of a list, where f is no more than `most` on it
pub sum_within : (f : ℕ → ℕ) (most : ℕ) (l : List ℕ) → ((v : ℕ) → has l v ≡ true → f v ≤ most) → sum f l ≤ length l * most
unfolding sum
sum_within f most [] h = omega arith
sum_within f most (v ∷ l) h = omega (arith, h v (has_head v l), sum_within f most l (λ u m. h u (has_tail v u l m)))

-- one number more
pub sum_snoc : (f : ℕ → ℕ) (i n : ℕ) → sum f (range i (suc n)) ≡ sum f (range i n) + f (i + n)
unfolding sum range
sum_snoc f i zero = rw (add-zero i) (omega arith)
sum_snoc f i (suc n) =
    let e : i + suc n ≡ suc i + n = omega arith in
    rw e (omega (arith, sum_snoc f (suc i) n))

-- over fewer numbers
pub sum_fewer : (f : ℕ → ℕ) (i m n : ℕ) → m ≤ n → sum f (range i m) ≤ sum f (range i n)
unfolding sum range
sum_fewer f i zero n h = omega arith
sum_fewer f i (suc m) zero h = absurd (omega arith)
sum_fewer f i (suc m) (suc n) h = omega (arith, sum_fewer f (suc i) m n (omega arith))

-- two functions that differ by x at k alone
pub sum_point : (f g : ℕ → ℕ) (k x i n : ℕ) → f k ≡ x + g k → ((v : ℕ) → (v ≡ k → ⊥) → f v ≡ g v) → i ≤ k → k < i + n
    → sum f (range i n) ≡ x + sum g (range i n)
unfolding sum range
sum_point f g k x i zero e h a b = absurd (omega arith)
sum_point f g k x i (suc n) e h a b =
    elim (ℕ_discrete k i) [
      | yes p ↦ omega (arith, rw p at e, sum_same f g (range (suc i) n) (λ v m. let in_it = range_bounds (suc i) n v m in h v (omega arith)))
      | no p ↦ omega (arith, h i (λ q. p (sym q)), sum_point f g k x (suc i) n e h (omega arith) (omega arith))
    ]
