-- Where the three lines of a node hold the least costs of their rows, what is computed from them is what the dynamic program says
-- of the row that begins with the node.
use mathlib.Core.Path.{◌≡◌, refl, ◌∙◌}
use mathlib.Core.Bool.{Bool, true, false}
use mathlib.Core.List.{List, map}
use Prim.Native.Nat.{ℕ, zero, suc, ◌-◌, ◌≤◌, ◌<◌}
use native.Mathlib.Decide.{dec_lt}
use native.Mathlib.Omega.{arith}
use lib.ListN.{length}
use Rattle.laws.specs.Lists.{range, bit}
use Rattle.laws.proofs.Lists.{length_of_range}
use Rattle.laws.proofs.FrontValues.{same_on_range}
use Rattle.best_rows.specs.Least.{better}
use Rattle.best_rows.specs.Rows.{Site, empty}
use Rattle.best_rows.specs.Best.{cap, cost_if, own_choice, node_best, split, later, row_best, best}
use Rattle.best_rows.specs.BestAt.{prefer}
use Rattle.lines.specs.Line.{entry_of, Line, LineParts, HoldsBest, line_cost_if, line_takes, line_node, line_split, line_later, line_best, empty_best, LinesHoldBest}
use Rattle.lines.proofs.Entries.{entry_past, entry_of_rule}
use Rattle.lines.proofs.Node.{empty_some}
use Rattle.lines.proofs.First.{first_least_same}

-- a line by a rule holds the rule, if that is the cap from the line's end on
pub holds_of_rule : (f : ℕ → ℕ) (w n : ℕ) {l : List ℕ} → l ≡ map f (range 0 n) → 0 < n → n ≤ w → ((m : ℕ) → n ≤ m → m < w → f m ≡ cap)
    → HoldsBest w f l
holds_of_rule f w n {l} e some few past =
    let long : length l ≡ n = rw e (length_of_range f 0 n) in
    record {
      some = omega arith;
      few = omega arith;
      is =
          λ m h.
          elim (dec_lt m n) [
            | yes i ↦ rw e (entry_of_rule f n m i)
            | no i ↦ rw (past m (omega arith) h) (entry_past l m (omega arith))
          ];
    }

holds_line : (f : ℕ → ℕ) (w : ℕ) (l : List ℕ) → HoldsBest w f l → ((n : ℕ) → f n ≤ cap) → Line l
holds_line f w l holds h = record {
  some = holds.some;
  within =
      λ n.
      elim (dec_lt n w) [
        | yes i ↦ rw (holds.is n i) (h n)
        | no i ↦ omega (arith, entry_past l n (omega (arith, holds.few)))
      ];
}

module _ (w : ℕ) (pay : Bool → ℕ) (children : Bool → ℕ → ℕ) (siblings : ℕ → ℕ) (cached uncached rest : List ℕ)
    (held : LinesHoldBest w children siblings cached uncached rest) where
  pub held_parts : ((u : Bool) → pay u ≤ cap) → ((u : Bool) (n : ℕ) → children u n ≤ cap) → ((n : ℕ) → siblings n ≤ cap)
      → LineParts cached uncached rest (pay true) (pay false)
  held_parts p c s = record {
    node_parts = record {
      cached_line = holds_line (children true) w cached held.cached_is (c true);
      uncached_line = holds_line (children false) w uncached held.uncached_is (c false);
      alike = held.alike;
      pays = (p true, p false);
    };
    rest_line = holds_line siblings w rest held.rest_is s;
  }

  held_cost_if : (n : ℕ) → n < w → (u : Bool) → line_cost_if cached uncached (pay true) (pay false) n u ≡ cost_if bit pay children n u
  unfolding cost_if
  held_cost_if n h true = rw (held.cached_is.is (n - 1) (omega arith))
  held_cost_if n h false = rw (held.uncached_is.is (n - 0) (omega arith))

  pub held_takes : (n : ℕ) → n < w → line_takes cached uncached (pay true) (pay false) n ≡ own_choice prefer (cost_if bit pay children) n
  unfolding line_takes own_choice better
  held_takes n h = rw (held_cost_if n h true, held_cost_if n h false)

  held_node : (n : ℕ) → n < w → line_node cached uncached (pay true) (pay false) n ≡ node_best prefer (cost_if bit pay children) n
  unfolding line_node line_takes node_best
  held_node n h = rw (held_takes n h) (held_cost_if n h (own_choice prefer (cost_if bit pay children) n))

  held_split : (m : ℕ) → m < w → (r : ℕ) → r ≤ m
      → line_split cached uncached rest (pay true) (pay false) m r ≡ split (node_best prefer (cost_if bit pay children)) siblings m r
  unfolding split
  held_split m h r k = rw (held_node (m - r) (omega arith), held.rest_is.is r (omega arith))

  pub held_later : (m : ℕ) → m < w
      → line_later cached uncached rest (pay true) (pay false) m ≡ later (node_best prefer (cost_if bit pay children)) siblings m
  unfolding line_later
  held_later m h = (first_least_same _ _ m (held_split m h)).0

  pub held_best : (m : ℕ) → m < w
      → line_best cached uncached rest (pay true) (pay false) m ≡ row_best (node_best prefer (cost_if bit pay children)) siblings m
  unfolding line_best row_best
  held_best m h = rw (first_least_same _ _ m (held_split m h)).1

  pub held_line : (n : ℕ) → n ≤ w
      → map (line_best cached uncached rest (pay true) (pay false)) (range 0 n)
      ≡ map (row_best (node_best prefer (cost_if bit pay children)) siblings) (range 0 n)
  held_line n h = same_on_range _ _ 0 n (λ m _ k. held_best m (omega arith))

-- the empty row's line
pub empty_is_best : {C : Type 0} (v : ℕ → Bool → ℕ) (p : Bool) (s : ℕ → Site C) (c : C) (m : ℕ) → empty_best m ≡ best v p s empty c m
unfolding empty_best best
empty_is_best v p s c zero = refl
empty_is_best v p s c (suc m) = refl

-- a line that holds it has its entries for every count
pub holds_empty : (w : ℕ) (f : ℕ → ℕ) (l : List ℕ) → HoldsBest w f l → ((n : ℕ) → f n ≡ empty_best n) → (n : ℕ) → entry_of l n ≡ empty_best n
holds_empty w f l holds e n =
    elim (dec_lt n w) [
      | yes h ↦ holds.is n h ∙ e n
      | no h ↦ omega (arith, entry_past l n (omega (arith, holds.few)), empty_some n (omega (arith, holds.some, holds.few)))
    ]
