-- The step of the greedy rule by savings: the open node outside the set that saves most is taken, and where none saves it rests.
use mathlib.Core.Path.{◌≡◌}
use mathlib.Core.Bool.{true, false}
use mathlib.Core.List.{List}
use Prim.Native.Nat.{ℕ, ◌-◌, ◌≤◌, ◌<◌}
use native.Mathlib.Omega.{arith}
use borrow.Author.Tests.{not-false}
use Rattle.laws.specs.Lists.{has}
use Rattle.laws.proofs.Bools.{neither}
use Rattle.laws.specs.FirstGreatest.{FirstGreatest}
use Rattle.model.specs.File.{Tree, Demand}
use Rattle.model.specs.Bill.{whole, cachable, total}
use Rattle.model.specs.Greedy.{with_node}
use Rattle.model.specs.Preorder.{Preorder}
use Rattle.model.specs.Laws.{Takes, Rests}
use Rattle.greedy.specs.Savings.{is_closed, is_passed_over, saving}
use Rattle.greedy.proofs.Saved.{saving_is, total_after}

-- a node that is not passed over is open and no member
pub not_passed : (t : Tree) (k : List ℕ) (v : ℕ) → is_passed_over t k v ≡ false → (t.is_open v ≡ true) × (has k v ≡ false)
not_passed t k v h = let parts = neither (has k v) (is_closed t v) h in (not-false (t.is_open v) parts.1, parts.0)

module _ (t : Tree) (d : Demand) (pre : Preorder t) (part : (c : ℕ) → cachable d c ≤ whole d c) (k : List ℕ) where
  -- ---- by a search over all sites

  module _ (best most : ℕ) (s : FirstGreatest (is_passed_over t k) (saving t d k) t.count best most) where
    -- the first of the open nodes outside K that save most, and something, is taken
    pub search_takes : 0 < most → Takes t d k best
    search_takes h =
        let after = saving_is t d pre part k in
        let held = s.held h in
        let candidate = not_passed t k best held.1 in
        record {
          site = (held.0, s.below);
          is_open = candidate.0;
          outside = candidate.1;
          lowers = omega (arith, after best, held.2);
          least = λ u a b o l. omega (arith, after best, after u, held.2, s.none_more u a b (rw (o, l)));
          smallest = λ u a b o l. omega (arith, after best, after u, held.2, s.earlier_less u a b (rw (o, l)));
        }

    pub search_total : 0 < most → total t d (with_node best k) ≡ total t d k - most
    search_total h = rw (s.held h).2 at (total_after t d pre part k best)

    pub search_rests : most ≡ 0 → Rests t d k
    search_rests e = record { none_lowers = λ u a b o l. omega (arith, saving_is t d pre part k u, s.none_more u a b (rw (o, l))) }
