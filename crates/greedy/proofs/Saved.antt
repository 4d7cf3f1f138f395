-- A cache at a node lowers the total by the node's saving.
use mathlib.Core.Path.{◌≡◌, ap}
use mathlib.Core.Bool.{cond}
use mathlib.Core.List.{List}
use Prim.Native.Nat.{ℕ, ◌+◌, ◌*◌, ◌-◌, ◌≤◌}
use native.Mathlib.Nat.{mul-le-mul}
use native.Mathlib.Omega.{arith}
use Rattle.laws.proofs.Numbers.{mul_sub_add}
use Rattle.laws.proofs.Bools.{by_test}
use Rattle.laws.proofs.Sums.{sum_add, sum_mul, sum_same}
use Rattle.model.specs.File.{Tree, Demand}
use Rattle.model.specs.Tree.{nodes, distance}
use Rattle.model.specs.Bill.{whole, cachable, price, cost, total, serving}
use Rattle.model.specs.Greedy.{with_node}
use Rattle.model.specs.Preorder.{Preorder}
use Rattle.model.proofs.Amounts.{price_amounts}
use Rattle.model.proofs.Nearest.{serving_near, cost_is}
use Rattle.greedy.specs.Savings.{reaches, serving_distance, saving}
use Rattle.greedy.proofs.Reaches.{reach_counts, reaches_served, serving_without}

module _ (t : Tree) (d : Demand) (pre : Preorder t) (part : (c : ℕ) → cachable d c ≤ whole d c) where
  -- what the client at c saves where v serves it and not w
  price_saved : (c v w : ℕ) → distance t w ≤ distance t v → distance t v ≤ distance t c
      → price t d c v + cachable d c * (distance t v - distance t w) ≡ price t d c w
  price_saved c v w h g =
      omega (
        arith,
        price_amounts d c t v,
        price_amounts d c t w,
        mul-le-mul (part c) g,
        mul_sub_add (cachable d c) (distance t v) (distance t w) h,
      )

  module _ (k : List ℕ) (x : ℕ) where
    -- what it saves with a cache at x
    abbrev saves : ℕ → ℕ
    saves c = cond (reaches t k x c) (cachable d c) 0 * (distance t x - serving_distance t k x)

    cost_saved : (c : ℕ) → cost t d (with_node x k) c + saves c ≡ cost t d k c
    unfolding serving_distance
    cost_saved c =
        let s = serving t (with_node x k) c in
        rw (cost_is t pre k d c, cost_is t pre (with_node x k) d c, serving_without t pre k x c)
        (by_test
        (λ b. price t d c s + cond b (cachable d c) 0 * (distance t x - distance t (serving t k x)) ≡ price t d c (cond b (serving t k x) s))
        (reaches t k x c)
        (λ e. let at = reaches_served t pre k x c e in
        rw at (price_saved c x (serving t k x) (serving_near t pre k x) (rw at at (serving_near t pre (with_node x k) c))))
        (λ _. omega arith))

    -- a cache at x lowers the total by the saving of x
    pub saving_is : total t d (with_node x k) + saving t d k x ≡ total t d k
    unfolding total saving
    saving_is =
        let far = distance t x - serving_distance t k x in
        omega (
          arith,
          ap (λ y. far * y) (reach_counts t d k x),
          sum_mul (λ c. cond (reaches t k x c) (cachable d c) 0) far (nodes t),
          sum_add (cost t d (with_node x k)) saves (nodes t),
          sum_same _ (cost t d k) (nodes t) (λ c _. cost_saved c),
        )

    pub total_after : total t d (with_node x k) ≡ total t d k - saving t d k x
    total_after = omega (arith, saving_is)

    pub saving_within_total : saving t d k x ≤ total t d k
    saving_within_total = omega (arith, saving_is)
