-- Laws of where lines stand: behind the words of the nodes, one after another, and what storing one of them changes.
use mathlib.Core.Path.{◌≡◌}
use mathlib.Core.List.{List}
use Prim.Native.Nat.{ℕ, zero, suc, ◌+◌, ◌*◌, ◌≤◌, ◌<◌, ◌^◌}
use native.Mathlib.Decide.{dec_lt}
use native.Mathlib.Omega.{arith}
use lib.ListN.{length, take}
use lib.Seq.{sets, length-sets}
use Rattle.laws.specs.Lists.{part}
use Rattle.laws.specs.Fronts.{FrontOnly}
use Rattle.laws.proofs.Numbers.{row_before}
use Rattle.laws.proofs.Stores.{drop_sets, take_sets, part_after, part_same}
use Rattle.model.specs.File.{Tree}
use Rattle.model.specs.Tree.{depth}
use Rattle.places.specs.Places.{start_in, width_in, width_at, start_at}
use Rattle.places.proofs.Places.{start_first, start_next, start_later}
use Rattle.places.specs.declared.Place.{Place}
use Rattle.table.specs.Table.{line_at, InTable, place_of}

-- ---- by the places noted

module _ (places : List Place) (a : ℕ) where
  pub line_none : {x : ℕ} → x ≡ 0 → line_at places x a ≡ 0
  unfolding line_at
  line_none e = rw e

  -- from what the code reads of them
  pub line_noted : {x start width : ℕ} → 0 < x → start ≡ start_in places x → width ≡ width_in places x → start + a * width ≡ line_at places x a
  unfolding line_at
  line_noted {x = zero} h e f = absurd (omega arith)
  line_noted {x = suc x} h e f = rw (e, f)

-- an index in the scratch fits a word
pub place_asked : {s : List ℕ} {places : List Place} {x a : ℕ} → InTable places s x a → length s < 2 ^ 64
    → (x < length places) × (line_at places x a < 2 ^ 64)
place_asked p h = (p.noted, omega (arith, p.inside))

-- ---- by the tree

module _ (t : Tree) (k : ℕ) where
  -- a line has an entry
  pub width_some : (x : ℕ) → 0 < width_at t k x
  unfolding width_at
  width_some x = omega arith

  place_is : (x a : ℕ) → 0 < x → place_of t k x a ≡ start_at t k x + a * width_at t k x
  unfolding place_of
  place_is zero a h = absurd (omega arith)
  place_is (suc x) a h = omega arith

  module _ (x : ℕ) (site : 0 < x) where
    -- the first line begins where the node's lines begin
    pub place_first : place_of t k x 0 ≡ start_at t k x
    place_first = omega (arith, place_is x 0 site)

    -- a line ends where the next one begins
    pub place_next : (a : ℕ) → place_of t k x (a + 1) ≡ place_of t k x a + width_at t k x
    place_next a = omega (arith, place_is x a site, place_is x (a + 1) site)

    -- the last one where those of the next node begin
    pub place_last : place_of t k x (depth t x) ≡ start_at t k (x + 1)
    place_last = omega (arith, place_is x (depth t x) site, start_next t k site)

    module _ (a : ℕ) where
      -- no line begins before its node's lines
      pub place_from : start_at t k x ≤ place_of t k x a
      place_from = omega (arith, place_is x a site)

      -- nor ends behind them
      pub place_within : a < depth t x → place_of t k x a + width_at t k x ≤ start_at t k (x + 1)
      place_within above = omega (arith, place_is x a site, start_next t k site, row_before (width_at t k x) above)

      -- the words of the nodes are before it
      pub words_before : 4 * t.count ≤ place_of t k x a
      words_before = omega (arith, place_from, start_first t k, start_later t k {x = 1} {y = x} (omega arith))

  -- one that begins no earlier than another and is not the same begins behind it
  place_after : (v a x b : ℕ) → 0 < v → 0 < x → a < depth t v → b < depth t x → place_of t k v a ≤ place_of t k x b → ((x ≡ v) × (b ≡ a) → ⊥)
      → place_of t k v a + width_at t k v ≤ place_of t k x b
  place_after v a x b site some above deep later other =
      elim (dec_lt v x) [
        | yes h ↦ omega (arith, place_within v site a above, start_later t k {x = v + 1} {y = x} (omega arith), place_from x some b)
        | no h ↦
            elim (dec_lt x v) [
              | yes l ↦
                  absurd (omega (arith, place_within x some b deep, start_later t k {x = x + 1} {y = v} (omega arith), place_from v site a, width_some x))
              | no l ↦ same (omega arith)
            ]
      ]
    where
      same : x ≡ v → place_of t k v a + width_at t k v ≤ place_of t k x b
      same e =
          let here = place_is v b site in
          let there = place_is v a site in
          elim (dec_lt a b) [
            | yes h ↦ rw e (omega (arith, here, there, row_before (width_at t k v) h))
            | no h ↦
                elim (dec_lt b a) [
                  | yes l ↦ absurd (omega (arith, here, there, rw e at later, row_before (width_at t k v) l, width_some v))
                  | no l ↦ absurd (other (e, omega arith))
                ]
          ]

  -- ---- a line stored

  module _ (s l : List ℕ) (v a : ℕ) (site : 0 < v) (above : a < depth t v) (long : length l ≡ width_at t k v) where
    abbrev stored : List ℕ
    stored = sets s (place_of t k v a) l

    pub stored_line : place_of t k v a + width_at t k v ≤ length s → part stored (place_of t k v a) (width_at t k v) ≡ l
    stored_line room = part_same s (place_of t k v a) l (width_at t k v) long room

    -- a line that begins no earlier is as before
    pub other_line : (x b : ℕ) → 0 < x → b < depth t x → place_of t k v a ≤ place_of t k x b → ((x ≡ v) × (b ≡ a) → ⊥)
        → (place_of t k v (a + 1) ≤ place_of t k x b) × (part stored (place_of t k x b) (width_at t k x) ≡ part s (place_of t k x b) (width_at t k x))
    other_line x b some deep later other =
        let behind = place_after v a x b site some above deep later other in
        (omega (arith, place_next v site a, behind), part_after s (place_of t k v a) l (place_of t k x b) (width_at t k x) (omega (arith, behind)))

    -- the words of the nodes stay
    pub words_stay : take (4 * t.count) stored ≡ take (4 * t.count) s
    words_stay = take_sets (4 * t.count) s (place_of t k v a) l (words_before v site a)

    -- and what stands behind the table
    pub behind_stays : v < t.count → FrontOnly (start_at t k t.count) s stored
    behind_stays h = record {
      long = length-sets s (place_of t k v a) l;
      rest = drop_sets (start_at t k t.count) s (place_of t k v a) l (omega (arith, place_within v site a above, start_later t k {x = v + 1} {y = t.count} (omega arith)));
    }
