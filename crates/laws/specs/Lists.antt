-- Lists of numbers: what the rules count, sum and search.
use Rattle.std.specs.Prelude.{Bool, true, false, cond, ◌&&◌, ◌||◌, List, [], ◌∷◌, ℕ, zero, suc, ◌+◌, min, max, eqb, take, drop}

-- i, i + 1, ..: n numbers
unfoldable pub range : ℕ → ℕ → List ℕ
range i zero = []
range i (suc n) = i ∷ range (suc i) n

-- the sum of f over a list
unfoldable pub sum : (ℕ → ℕ) → List ℕ → ℕ
sum f [] = 0
sum f (x ∷ xs) = f x + sum f xs

-- the least of f over x and a list
unfoldable pub least : (ℕ → ℕ) → ℕ → List ℕ → ℕ
least f x [] = f x
least f x (y ∷ ys) = min (f y) (least f x ys)

-- the greatest of f over a list, 0 where it is empty
unfoldable pub greatest : (ℕ → ℕ) → List ℕ → ℕ
greatest f [] = 0
greatest f (x ∷ xs) = max (f x) (greatest f xs)

-- does the list have v?
unfoldable pub has : List ℕ → ℕ → Bool
has [] v = false
has (x ∷ xs) v = eqb x v || has xs v

-- does one of the list pass the test?
unfoldable pub any_of : (ℕ → Bool) → List ℕ → Bool
any_of p [] = false
any_of p (x ∷ xs) = p x || any_of p xs

-- do all of the list pass the test?
unfoldable pub all_of : (ℕ → Bool) → List ℕ → Bool
all_of p [] = true
all_of p (x ∷ xs) = p x && all_of p xs

-- those that pass the test, in their order
unfoldable pub those : (ℕ → Bool) → List ℕ → List ℕ
those p [] = []
those p (x ∷ xs) = let r = those p xs in cond (p x) (x ∷ r) r

-- 1 where a test passes, else 0
abbrev pub bit : Bool → ℕ
bit b = cond b 1 0

-- how many pass the test
unfoldable pub how_many : (ℕ → Bool) → List ℕ → ℕ
how_many p [] = 0
how_many p (x ∷ xs) = bit (p x) + how_many p xs

-- the first that passes the test, else d
unfoldable pub first_that : (ℕ → Bool) → ℕ → List ℕ → ℕ
first_that p d [] = d
first_that p d (x ∷ xs) = let r = first_that p d xs in cond (p x) x r

-- are the two lists the same?
unfoldable pub same : List ℕ → List ℕ → Bool
same [] [] = true
same [] (y ∷ ys) = false
same (x ∷ xs) [] = false
same (x ∷ xs) (y ∷ ys) = eqb x y && same xs ys

-- w entries from index p on
abbrev pub part : List ℕ → ℕ → ℕ → List ℕ
part l p w = take w (drop p l)
