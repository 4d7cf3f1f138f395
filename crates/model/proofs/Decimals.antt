-- The decimal text of a number: digit by digit, how long it is, and that it reads back as the number.
use mathlib.Core.Path.{◌≡◌, refl, sym, ap, ◌∙◌}
use mathlib.Core.List.{List, [], ◌∷◌, ◌++◌}
use Prim.Native.Nat.{ℕ, zero, suc, ◌+◌, ◌*◌, ◌-◌, ◌/◌, ◌%◌, ◌^◌, ◌≤◌, ◌<◌}
use native.Mathlib.Decide.{dec_lt}
use native.Mathlib.Nat.{pow-suc}
use native.Mathlib.Omega.{arith}
use lib.ListN.{length, length-append}
use borrow.Author.Tests.{lt-ltb, le-ltb}
use Rattle.model.specs.Report.{digit, digits, decimal}
use Rattle.model.specs.CallLaws.{read_after}

-- ---- digit by digit

digits_one : (k x : ℕ) → x < 10 → digits (suc k) x ≡ digit x ∷ []
unfolding digits
digits_one k x h = rw (lt-ltb x 10 h, digits)

digits_more : (k x : ℕ) → 10 ≤ x → digits (suc k) x ≡ digits k (x / 10) ++ (digit (x % 10) ∷ [])
unfolding digits
digits_more k x h = rw (le-ltb x 10 h, digits)

-- where x is below the most digits allowed, that number does not matter
digits_enough : (j k x : ℕ) → x < j → x < k → digits j x ≡ digits k x
digits_enough zero k x h g = absurd (omega arith)
digits_enough (suc j) zero x h g = absurd (omega arith)
digits_enough (suc j) (suc k) x h g =
    elim (dec_lt x 10) [
      | yes l ↦ digits_one j x l ∙ sym (digits_one k x l)
      | no l ↦
          rw (digits_more j x (omega arith), digits_more k x (omega arith), digits_enough j k (x / 10) (omega arith) (omega arith))
    ]

pub decimal_one : (x : ℕ) → x < 10 → decimal x ≡ digit x ∷ []
unfolding decimal
decimal_one x h = digits_one x x h

pub decimal_more : (x : ℕ) → 10 ≤ x → decimal x ≡ decimal (x / 10) ++ (digit (x % 10) ∷ [])
unfolding decimal
decimal_more x h =
    digits_more x x h
    ∙ ap (λ l. l ++ (digit (x % 10) ∷ [])) (digits_enough x (suc (x / 10)) (x / 10) (omega arith) (omega arith))

-- ---- how long it is

pub decimal_longer : (x : ℕ) → 10 ≤ x → length (decimal x) ≡ length (decimal (x / 10)) + 1
decimal_longer x h = rw (decimal_more x h, length-append)

decimal_short : (m x : ℕ) → x < 10 ^ suc m → length (decimal x) ≤ suc m
decimal_short zero x h = rw (decimal_one x (omega arith)) (omega arith)
decimal_short (suc m) x h =
    elim (dec_lt x 10) [
      | yes l ↦ rw (decimal_one x l) (omega arith)
      | no l ↦
          omega (arith, decimal_longer x (omega arith), decimal_short m (x / 10) (omega (arith, pow-suc 10 (suc m))))
    ]

-- a number of 64 bits
pub decimal_of_word : (x : ℕ) → x < 2 ^ 64 → length (decimal x) ≤ 20
decimal_of_word x h = decimal_short 19 x (omega arith)

-- ---- what it reads as

read_snoc : (x c : ℕ) (cs : List ℕ) → read_after x (cs ++ (c ∷ [])) ≡ 10 * read_after x cs + (c - digit 0)
unfolding read_after
read_snoc x c [] = refl
read_snoc x c (a ∷ cs) = read_snoc (10 * x + (a - digit 0)) c cs

read_digits : (k x : ℕ) → x < k → read_after 0 (digits k x) ≡ x
unfolding digits read_after
read_digits zero x h = absurd (omega arith)
read_digits (suc k) x h =
    elim (dec_lt x 10) [
      | yes l ↦ rw (lt-ltb x 10 l, digits) (omega arith)
      | no l ↦
          rw (le-ltb x 10 (omega arith), digits)
          (read_snoc 0 (digit (x % 10)) (digits k (x / 10)) ∙ omega (arith, read_digits k (x / 10) (omega arith)))
    ]

pub decimal_reads : (x : ℕ) → read_after 0 (decimal x) ≡ x
unfolding decimal
decimal_reads x = read_digits (suc x) x (omega arith)
