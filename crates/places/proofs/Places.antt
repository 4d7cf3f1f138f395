-- Where the lines of each node begin and end: one node's lines end before those of a later one, and the last at the end of the words
-- that rule 13 asks for.
use mathlib.Core.Path.{◌≡◌, sym, ap}
use mathlib.Core.List.{List}
use Prim.Native.Nat.{ℕ, suc, ◌+◌, ◌*◌, ◌-◌, ◌≤◌, ◌<◌, min}
use native.Mathlib.Omega.{arith}
use Rattle.laws.specs.Lists.{range, sum}
use Rattle.laws.proofs.Lists.{range_bounds}
use Rattle.laws.proofs.Sums.{sum_same, sum_snoc, sum_fewer}
use Rattle.model.specs.File.{Tree, tree_of, count_of, budget_of}
use Rattle.model.specs.Tree.{sites, nodes_of_row, depth}
use Rattle.model.specs.Rules.{passed, file_verdict, scratch_words}
use Rattle.model.proofs.Accepted.{accepted_sound}
use Rattle.best_rows.proofs.Below.{nodes_of_row_lem}
use Rattle.places.specs.Places.{width_at, words_at, start_at}

module _ (t : Tree) (k : ℕ) where
  -- the lines of the first node begin behind the words of the nodes
  pub start_first : start_at t k 1 ≡ 4 * t.count
  unfolding start_at sum range
  start_first = omega arith

  -- the lines of the next node begin where those of x end
  pub start_next : {x : ℕ} → 0 < x → start_at t k (x + 1) ≡ start_at t k x + words_at t k x
  unfolding start_at
  start_next {x} site =
      let next : x + 1 - 1 ≡ suc (x - 1) = omega arith in
      let here : 1 + (x - 1) ≡ x = omega arith in
      rw next (omega (arith, rw here at (sum_snoc (words_at t k) 1 (x - 1))))

  -- no later node's lines begin before a node's
  pub start_later : {x y : ℕ} → x ≤ y → start_at t k x ≤ start_at t k y
  unfolding start_at
  start_later {x} {y} h = omega (arith, sum_fewer (words_at t k) 1 (x - 1) (y - 1) (omega arith))

-- the lines of an accepted file end with the words that rule 13 asks for
pub words_are_end : (file : List ℕ) → file_verdict file ≡ passed
    → start_at (tree_of file) (budget_of file) (count_of file) ≡ scratch_words file
unfolding start_at scratch_words width_at
words_are_end file ok =
    let t = tree_of file in
    let k = budget_of file in
    omega (
      arith,
      sum_same (words_at t k) (λ v. depth t v * (min k (nodes_of_row t v) + 1)) (sites t)
          (λ v m. let b = range_bounds 1 (count_of file - 1) v m in
          ap (λ (r : ℕ). depth t v * (min k r + 1)) (sym (nodes_of_row_lem t (accepted_sound file ok).preorder v (omega arith) (omega arith)))),
    )
