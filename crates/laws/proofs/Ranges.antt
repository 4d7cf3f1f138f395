-- Laws of ranges cut in two: those that pass a test, sums and runs of stores over them, and a loop that sums.
use mathlib.Core.Path.{◌≡◌, refl, sym, ap, ◌∙◌}
use mathlib.Core.Bool.{Bool, true, false, cond}
use mathlib.Core.List.{List, [], ◌∷◌, ◌++◌, append-nil, map}
use Prim.Native.Nat.{ℕ, zero, suc, ◌+◌, ◌-◌, ◌*◌, ◌≤◌, ◌<◌}
use native.Mathlib.Nat.{add-zero, zero-add, suc-add}
use native.Mathlib.Omega.{arith}
use lib.ListN.{length, get_or, set}
use lib.Seq.{sets, set_comm}
use Rattle.laws.specs.Lists.{range, sum, has, those}
use Rattle.laws.proofs.Bools.{by_test}
use Rattle.laws.proofs.Lists.{has_head, has_tail, range_bounds, map_append, length_of_range, entry_of_range}
use Rattle.laws.proofs.Sums.{sum_those, sum_le, sum_snoc}
use Rattle.laws.proofs.Stores.{sets_append, sets_front}

-- ---- ranges

range_append : (i a b : ℕ) → range i (a + b) ≡ range i a ++ range (i + a) b
unfolding range
range_append i zero b = rw (add-zero i, zero-add b)
range_append i (suc a) b =
    let e : i + suc a ≡ suc i + a = omega arith in
    rw (suc-add a b, e) (ap (λ l. i ∷ l) (range_append (suc i) a b))

-- from i to e is from i to m, then from m to e
pub range_cut : (i m e : ℕ) → i ≤ m → m ≤ e → range i (e - i) ≡ range i (m - i) ++ range m (e - m)
range_cut i m e p q =
    let whole : e - i ≡ (m - i) + (e - m) = omega arith in
    let seam : i + (m - i) ≡ m = omega arith in
    rw whole (range_append i (m - i) (e - m) ∙ rw seam)

pub range_first : (i e : ℕ) → i < e → range i (e - i) ≡ i ∷ range (i + 1) (e - (i + 1))
unfolding range
range_first i e h =
    let whole : e - i ≡ suc (e - (i + 1)) = omega arith in
    let next : i + 1 ≡ suc i = omega arith in
    rw (whole, next)

pub range_none : (i : ℕ) → range i (i - i) ≡ []
unfolding range
range_none i = let none : i - i ≡ 0 = omega arith in rw none

-- ---- those that pass a test

pub those_append : (p : ℕ → Bool) (l m : List ℕ) → those p (l ++ m) ≡ those p l ++ those p m
unfolding those
those_append p [] m = refl
those_append p (x ∷ l) m =
    rw (those_append p l m)
    (by_test (λ b. cond b (x ∷ (those p l ++ those p m)) (those p l ++ those p m) ≡ cond b (x ∷ those p l) (those p l) ++ those p m) (p x) (λ _. refl) (λ _. refl))

pub those_all : (p : ℕ → Bool) (l : List ℕ) → ((v : ℕ) → has l v ≡ true → p v ≡ true) → those p l ≡ l
unfolding those
those_all p [] h = refl
those_all p (x ∷ l) h = rw (h x (has_head x l), those_all p l (λ v m. h v (has_tail x v l m)))

pub those_none : (p : ℕ → Bool) (l : List ℕ) → ((v : ℕ) → has l v ≡ true → p v ≡ false) → those p l ≡ []
unfolding those
those_none p [] h = refl
those_none p (x ∷ l) h = rw (h x (has_head x l), those_none p l (λ v m. h v (has_tail x v l m)))

-- a range in which only those from v to e - 1 can pass
pub those_inside : (p : ℕ → Bool) (i n v e : ℕ) → i ≤ v → v ≤ e → e ≤ i + n → ((c : ℕ) → i ≤ c → c < v → p c ≡ false)
    → ((c : ℕ) → e ≤ c → c < i + n → p c ≡ false) → those p (range i n) ≡ those p (range v (e - v))
those_inside p i n v e a b c before after =
    let whole : n ≡ i + n - i = omega arith in
    let inside = range v (e - v) in
    let past = range e (i + n - e) in
    ap (λ m. those p (range i m)) whole
    ∙ ap (those p) (range_cut i v (i + n) a (omega arith) ∙ ap (λ r. range i (v - i) ++ r) (range_cut v e (i + n) b c))
    ∙ those_append p (range i (v - i)) (inside ++ past)
    ∙ rw (those_none p (range i (v - i)) (λ u m. let u_in = range_bounds i (v - i) u m in before u u_in.0 (omega arith)))
    (those_append p inside past
    ∙ rw (those_none p past (λ u m. let u_in = range_bounds e (i + n - e) u m in after u u_in.0 (omega arith))) (append-nil (those p inside)))

-- ---- sums

pub sum_append : (f : ℕ → ℕ) (l m : List ℕ) → sum f (l ++ m) ≡ sum f l + sum f m
unfolding sum
sum_append f [] m = omega arith
sum_append f (x ∷ l) m = omega (arith, sum_append f l m)

pub sum_those_le : (f : ℕ → ℕ) (p : ℕ → Bool) (most i n : ℕ) → ((j : ℕ) → f j ≤ most) → sum f (those p (range i n)) ≤ n * most
sum_those_le f p most i n h =
    rw (sum_those f p (range i n))
    (sum_le (λ c. cond (p c) (f c) 0) most i n (λ j. by_test (λ b. cond b (f j) 0 ≤ most) (p j) (λ _. h j) (λ _. omega arith)))

-- a loop that sums f i, f (i + 1), ..: a turn
pub sum_next : (f : ℕ → ℕ) (i v : ℕ) → i ≤ v → sum f (range i (v + 1 - i)) ≡ sum f (range i (v - i)) + f v
sum_next f i v h =
    let more : v + 1 - i ≡ suc (v - i) = omega arith in
    let here : i + (v - i) ≡ v = omega arith in
    rw (more, sum_snoc f i (v - i), here)

-- ---- runs of stores

set_sets : (l : List ℕ) (i a j : ℕ) (xs : List ℕ) → i < j → set (sets l j xs) i a ≡ sets (set l i a) j xs
set_sets l i a j [] h = refl
set_sets l i a j (x ∷ xs) h =
    set_sets (set l j x) i a (suc j) xs (omega arith) ∙ ap (λ s. sets s (suc j) xs) (set_comm l j i x a (λ e. omega arith))

-- from i to m, then from m to e
pub stores_join : (l : List ℕ) (f : ℕ → ℕ) (i m e : ℕ) → i ≤ m → m ≤ e
    → sets (sets l i (map f (range i (m - i)))) m (map f (range m (e - m))) ≡ sets l i (map f (range i (e - i)))
stores_join l f i m e p q =
    let seam : i + (m - i) ≡ m = omega arith in
    sym (rw (range_cut i m e p q, map_append f (range i (m - i)) (range m (e - m)))
    (sets_append l i (map f (range i (m - i))) (map f (range m (e - m))) ∙ rw (length_of_range f i (m - i), seam)))

-- from i + 1 to e, then the store at i
pub stores_first : (l : List ℕ) (f : ℕ → ℕ) (i e : ℕ) → i < e
    → set (sets l (i + 1) (map f (range (i + 1) (e - (i + 1))))) i (f i) ≡ sets l i (map f (range i (e - i)))
stores_first l f i e h =
    let next : i + 1 ≡ suc i = omega arith in
    set_sets l i (f i) (i + 1) (map f (range (i + 1) (e - (i + 1)))) (omega arith)
    ∙ sym (rw (range_first i e h, next))

-- f 0 stored at p, then f 1, .. from the next index on
pub stores_after_first : (l : List ℕ) (p : ℕ) (f : ℕ → ℕ) (e : ℕ) {s : List ℕ} {x : ℕ} → 0 < e → x ≡ f 0
    → s ≡ sets (set l p x) (p + 1) (map f (range 1 (e - 1))) → s ≡ sets l p (map f (range 0 e))
unfolding range
stores_after_first l p f zero h hx hs = absurd (omega arith)
stores_after_first l p f (suc e) h hx hs =
    let next : p + 1 ≡ suc p = omega arith in
    let one_less : suc e - 1 ≡ e = omega arith in
    hs ∙ rw (next, one_less, hx)

-- the entry at v after f was written from index 0 on
pub entry_stored : (l : List ℕ) (f : ℕ → ℕ) (n v : ℕ) → n ≤ length l → v < n → get_or (sets l 0 (map f (range 0 n))) v 0 ≡ f v
entry_stored l f n v h b =
    let e = length_of_range f 0 n in
    let zero_first : 0 + v ≡ v = omega arith in
    rw (sets_front l (map f (range 0 n)) (omega arith)) (entry_of_range f 0 n v _ b ∙ ap f zero_first)
