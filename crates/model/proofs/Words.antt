-- How many nodes rule 13 counts of a row, and how many words it asks for at most, by the sizes of the file.
use mathlib.Core.Path.{◌≡◌, refl, sym, ◌∙◌}
use mathlib.Core.Bool.{Bool, true, false, cond, ◌&&◌, ◌||◌}
use mathlib.Core.List.{List, ◌∷◌}
use Prim.Native.Nat.{ℕ, zero, suc, ◌+◌, ◌*◌, ◌-◌, ◌≤◌, ◌<◌, min}
use native.Mathlib.Nat.{mul-le-mul, mul-le-mul_right, mul_assoc}
use native.Mathlib.Omega.{arith}
use lib.Dec.{eqb}
use borrow.Author.Tests.{eqb-true}
use Rattle.laws.specs.Lists.{range, sum, has, any_of, those, how_many}
use Rattle.laws.proofs.Bools.{by_test}
use Rattle.laws.proofs.Lists.{length_range, range_bounds}
use Rattle.laws.proofs.Counts.{how_many_none, how_many_either, any_none}
use Rattle.laws.proofs.Sums.{sum_within}
use Rattle.model.specs.File.{Tree, tree_of, demand_of, count_of, budget_of}
use Rattle.model.specs.Tree.{nodes, sites, at_or_below, nodes_of_row, depth, height}
use Rattle.model.specs.Rules.{passed, file_verdict, scratch_words}
use Rattle.model.specs.Preorder.{Preorder}
use Rattle.model.proofs.Accepted.{accepted_header, accepted_sound}
use Rattle.model.proofs.Intervals.{siblings_apart}
use Rattle.model.proofs.Depths.{depth_within_height}
use Rattle.model.proofs.Bounds.{height_bound}

-- the sum over siblings counts each node at or below one of them once
module _ (t : Tree) (pre : Preorder t) where
  -- is c at or below one of p's children among the n nodes from i on?
  abbrev below_one : ℕ → ℕ → ℕ → ℕ → Bool
  below_one p i n c = any_of (λ s. eqb (t.parent s) p && at_or_below t s c) (range i n)

  -- what is at or below node i is so of no later sibling
  below_no_later : (p i n c : ℕ) → 1 ≤ i → t.parent i ≡ p → at_or_below t i c ≡ true → below_one p (suc i) n c ≡ false
  below_no_later p i n c site e h =
      any_none _ (range (suc i) n) (λ s m.
      by_test (λ b. (b && at_or_below t s c) ≡ false) (eqb (t.parent s) p)
      (λ k. siblings_apart t pre i s c site (range_bounds (suc i) n s m).0 (eqb-true _ _ k ∙ sym e) h) (λ _. refl))

  siblings_once : (p i n : ℕ) → 1 ≤ i
      → sum (λ s. how_many (at_or_below t s) (nodes t)) (those (λ s. eqb (t.parent s) p) (range i n)) ≡ how_many (below_one p i n) (nodes t)
  unfolding sum those range any_of
  siblings_once p i zero site = sym (how_many_none (nodes t))
  siblings_once p i (suc n) site =
      let rest = siblings_once p (suc i) n (omega arith) in
      let later = those (λ s. eqb (t.parent s) p) (range (suc i) n) in
      by_test (λ b. sum (λ s. how_many (at_or_below t s) (nodes t)) (cond b (i ∷ later) later)
      ≡ how_many (λ c. b && at_or_below t i c || below_one p (suc i) n c) (nodes t)) (eqb (t.parent i) p)
      (λ e. omega (arith, rest, how_many_either (at_or_below t i) (below_one p (suc i) n) (nodes t) (λ c. below_no_later p i n c site (eqb-true _ _ e))))
      (λ _. rest)

  pub row_said_lem : (v : ℕ) → 1 ≤ v
      → nodes_of_row t v ≡ how_many (λ c. any_of (λ s. eqb (t.parent s) (t.parent v) && at_or_below t s c) (range v (t.count - v))) (nodes t)
  unfolding nodes_of_row
  row_said_lem v site = siblings_once (t.parent v) v (t.count - v) site

module _ (file : List ℕ) where
  -- each of m nodes from 1 on has at most h lines of k + 1 entries
  pub words_within : {m h k : ℕ} → count_of file - 1 ≤ m → height (tree_of file) ≤ h → budget_of file ≤ k
      → scratch_words file ≤ m * (h * (k + 1)) + 4 * count_of file
  unfolding scratch_words
  words_within {m} {h} {k} few low small =
      let t = tree_of file in
      let wide : (v : ℕ) → min (budget_of file) (nodes_of_row t v) + 1 ≤ k + 1 = λ v. omega arith in
      let deep : (v : ℕ) → v < count_of file → depth t v ≤ h = λ v b. omega (arith, depth_within_height t v b) in
      let lines : (v : ℕ) → has (sites t) v ≡ true → depth t v * (min (budget_of file) (nodes_of_row t v) + 1) ≤ h * (k + 1) =
      λ v m. mul-le-mul (deep v (let b = range_bounds 1 (count_of file - 1) v m in omega arith)) (wide v) in
      let most = rw (length_range 1 (count_of file - 1)) at (sum_within _ (h * (k + 1)) (sites t) lines) in
      omega (arith, most, mul-le-mul_right (h * (k + 1)) few)

  -- never more than 01 asked for
  pub words_fewer_lem : scratch_words file ≤ count_of file * (height (tree_of file) + 1) * (budget_of file + 1) + 4 * count_of file
  words_fewer_lem =
      rw (mul_assoc (count_of file) (height (tree_of file) + 1) (budget_of file + 1))
      (words_within {h = height (tree_of file) + 1} (omega arith) (omega arith) (omega arith))

  pub words_most_lem : file_verdict file ≡ passed → scratch_words file ≤ 1_084_384
  words_most_lem ok =
      let head = accepted_header file ok in
      let low = height_bound (tree_of file) (demand_of file) (accepted_sound file ok) in
      omega (arith, words_within {m = 1023} {h = 32} {k = 32} (omega (arith, head.few)) low head.budget, head.few)
