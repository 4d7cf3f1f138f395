-- The dynamic program finds the least over the choices of at most k members of which at most q are outside a standing set.
use mathlib.Core.Path.{◌≡◌, refl}
use mathlib.Core.Bool.{Bool, cond}
use Prim.Native.Nat.{ℕ, ◌+◌, ◌*◌, ◌%◌, ◌≤◌, ◌<◌}
use native.Mathlib.Omega.{arith}
use lib.Dec.{leb}
use borrow.Author.Tests.{leb-true, le-leb}
use Rattle.laws.proofs.Bools.{by_test}
use Rattle.model.specs.File.{most_nodes}
use Rattle.best_rows.specs.Least.{first_least}
use Rattle.best_rows.specs.Rows.{Row, empty, node, Choice, Site, row_size, row_count, row_cost}
use Rattle.best_rows.specs.Best.{cap, best, choose}
use Rattle.best_rows.specs.BestAt.{one}
use Rattle.best_rows.specs.TwoCounts.{one_outside, both_counts, best_of_few, choose_moved}
use Rattle.best_rows.proofs.Least.{first_least_within, first_least_wins}
use Rattle.best_rows.proofs.Best.{best_attained, best_first}
use Rattle.best_rows.proofs.Table.{count_within_size}

module _ (outside : ℕ → Bool) where
  both_are : (r : Row) (x : Choice r) → row_count (both_counts outside) r x ≡ row_count one r x + most_nodes * row_count (one_outside outside) r x
  unfolding row_count
  both_are empty x = omega arith
  both_are (node v a b) x = omega (arith, both_are a x.1, both_are b x.2)

  module _ {C : Type 0} (p : Bool) (s : ℕ → Site C) (r : Row) (c : C) (k : ℕ) where
    few_is : (n : ℕ) → best_of_few outside p s r c k n < cap
        → (n % most_nodes ≤ k) × (best (both_counts outside) p s r c n ≡ best_of_few outside p s r c k n)
    unfolding best_of_few
    few_is n =
        let f = best (both_counts outside) p s r c n in
        by_test (λ u. cond u f cap < cap → (n % most_nodes ≤ k) × (f ≡ cond u f cap)) (leb (n % most_nodes) k)
        (λ e _. (leb-true _ _ e, refl)) (λ _ l. absurd (omega arith))

    few_within : (n : ℕ) → n % most_nodes ≤ k → best_of_few outside p s r c k n ≡ best (both_counts outside) p s r c n
    unfolding best_of_few
    few_within n h = rw (le-leb (n % most_nodes) k)

    pub moved_least : row_size r < most_nodes → k < most_nodes → (q : ℕ) (y : Choice r) → row_count one r y ≤ k → row_count (one_outside outside) r y ≤ q
        → row_cost s r c y < cap
        → let x = choose_moved outside p s r c k q in
        (row_count one r x ≤ k) × (row_count (one_outside outside) r x ≤ q) × (row_cost s r c x ≤ row_cost s r c y)
    moved_least small few q y h h' below =
        let f = best_of_few outside p s r c k in
        let n = first_least f (k + most_nodes * q) in
        let m = row_count (both_counts outside) r y in
        let both_y = both_are r y in
        let first = (best_first (both_counts outside) p s r y c m refl below).0 in
        let here = few_within m (omega arith) in
        let wins = (first_least_wins f (k + most_nodes * q) m (omega arith)).0 in
        let least = few_is n (omega arith) in
        let attained = best_attained (both_counts outside) p s r c n (omega arith) in
        let x = choose (both_counts outside) p s r c n in
        omega (arith, attained, least, both_are r x, count_within_size r x, first_least_within f (k + most_nodes * q))
