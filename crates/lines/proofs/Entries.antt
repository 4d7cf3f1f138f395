-- Laws of a line's entries: inside the line they are what it holds, past its end they are the cap.
use mathlib.Core.Path.{◌≡◌, sym, ◌∙◌}
use mathlib.Core.List.{List, map}
use Prim.Native.Nat.{ℕ, ◌≤◌, ◌<◌}
use native.Mathlib.Omega.{arith}
use lib.ListN.{length, get_or, get_or-eq_default}
use lib.Seq.{take_all}
use Rattle.laws.specs.Lists.{range}
use Rattle.laws.proofs.Lists.{entry_by_any_default, length_of_range}
use Rattle.laws.proofs.FrontValues.{entry_of_range_alone, front_is_entries, same_on_range}
use Rattle.best_rows.specs.Best.{cap}
use Rattle.lines.specs.Line.{entry_of, Line}

pub entry_inside : (l : List ℕ) (n : ℕ) → n < length l → entry_of l n ≡ get_or l n 0
entry_inside l n h = entry_by_any_default l n cap 0 h

pub entry_past : (l : List ℕ) (n : ℕ) → length l ≤ n → entry_of l n ≡ cap
entry_past l n h = get_or-eq_default l cap h

-- of a line by a rule
pub entry_of_rule : (f : ℕ → ℕ) (n m : ℕ) → m < n → entry_of (map f (range 0 n)) m ≡ f m
entry_of_rule f n m h = entry_inside (map f (range 0 n)) m (rw (length_of_range f 0 n) h) ∙ entry_of_range_alone f n m h

-- what a line holds is at most the cap
pub stored_within : (l : List ℕ) (n : ℕ) → Line l → n < length l → get_or l n 0 ≤ cap
stored_within l n line h = rw (← (entry_inside l n h)) (line.within n)

-- a list whose entries go by a rule
pub by_entries : (f : ℕ → ℕ) (l : List ℕ) (n : ℕ) → length l ≡ n → ((j : ℕ) → j < n → get_or l j 0 ≡ f j) → l ≡ map f (range 0 n)
by_entries f l n long is =
    sym (take_all n l (omega arith)) ∙ front_is_entries n l (omega arith) ∙ same_on_range _ _ 0 n (λ j _ h. is j (omega arith))
