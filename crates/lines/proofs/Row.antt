-- Laws of a row's line: a loop over the entries of the lines of its two parts finds the least of all splits.
use mathlib.Core.Path.{◌≡◌, refl, sym, ap, ◌∙◌}
use mathlib.Core.List.{List, map}
use mathlib.Core.Logic.{inl, inr, ⊎_elim, ⊎_map}
use Prim.Native.Nat.{ℕ, zero, suc, ◌+◌, ◌-◌, ◌≤◌, ◌<◌, min}
use native.Mathlib.Numerals.{add-one}
use native.Mathlib.Decide.{dec_lt}
use native.Mathlib.Omega.{arith}
use lib.ListN.{length, take, get_or, set, replicate, length-replicate}
use lib.Seq.{get_or-set_same, get_or-set_other, get_or-take, length-take-le}
use borrow.Rule.Slice.PartMut.{put_mid}
use Rattle.std.proofs.Common.{rules}
use Rattle.std.proofs.lemmas.List.{places, get_or_append_left, get_or-append_right, get_or-replicate}
use Rattle.laws.specs.Lists.{range, part}
use Rattle.laws.proofs.Lists.{length_of_range}
use Rattle.laws.proofs.Stores.{length_part}
use Rattle.laws.proofs.FrontValues.{same_on_range}
use Rattle.best_rows.specs.Least.{running_min}
use Rattle.best_rows.specs.Best.{cap, split, row_best}
use Rattle.best_rows.proofs.Least.{running_min_is}
use Rattle.lines.specs.Line.{entry_of, Line, LineParts, RowParts, line_node, line_own, line_split, line_best, empty_best, joined_split, joined_best, Begun, Lowered}
use Rattle.lines.proofs.Entries.{by_entries, entry_inside, entry_past, entry_of_rule}
use Rattle.lines.proofs.Node.{node_none, own_without_caches, own_with_caches, empty_none, empty_some, leaf_none, leaf_one, leaf_more}
use Rattle.lines.proofs.RunningMin.{running_min_within, running_min_same, running_min_leaves_out, running_min_reversed}

-- ---- one pass of the inner loop: line[r + n] becomes other[n] + x where that is smaller

module _ (before other : List ℕ) (r x : ℕ) where
  pub lower_begins : Lowered before other 0 r x before
  lower_begins = record { inside = λ n h. absurd (omega arith); outside = λ m h. refl }

  module _ (n : ℕ) {after : List ℕ} (so_far : Lowered before other n r x after) where
    -- the next entry is as it was
    pub lower_here : get_or after (r + n) 0 ≡ get_or before (r + n) 0
    lower_here = so_far.outside (r + n) (inr (omega arith))

    pub lower_next : {least : ℕ} → least ≡ min (get_or after (r + n) 0) (get_or other n 0 + x) → r + n < length after
        → Lowered before other (n + 1) r x (set after (r + n) least)
    lower_next {least} e h = record {
      inside =
          λ i k.
          elim (dec_lt i n) [
            | yes l ↦ get_or-set_other after (r + n) (r + i) least 0 (λ e. omega arith) ∙ so_far.inside i l
            | no l ↦ let last : i ≡ n = omega arith in rw last (get_or-set_same after (r + n) least 0 h ∙ omega (arith, lower_here))
          ];
      outside =
          λ m k.
          get_or-set_other after (r + n) m least 0 (λ e. ⊎_elim (λ l. omega arith) (λ l. omega arith) k)
          ∙ so_far.outside m (⊎_map (λ l. l) (λ l. omega arith) k);
    }

-- ---- so a loop over r finds the least of all splits

module _ (first second : List ℕ) where
  -- each entry is the least of its splits with fewer than r caches in `second`
  abbrev pub LeastBefore : ℕ → List ℕ → Type 0
  LeastBefore r line = (m : ℕ) → m < length line → get_or line m 0 ≡ running_min cap (joined_split first second m) (min r (m + 1))

  pub least_line : (r : ℕ) (line : List ℕ) → 0 < length line → LeastBefore r line → Line line
  least_line r line some so_far = record {
    some = some;
    within =
        λ n.
        elim (dec_lt n (length line)) [
          | yes l ↦ omega (arith, entry_inside line n l, so_far n l, running_min_within cap (joined_split first second n) (min r (n + 1)))
          | no l ↦ omega (arith, entry_past line n (omega arith))
        ];
  }

  -- after the first sums were stored, and the cap past them
  module _ (line past : List ℕ) (inside : length first ≤ length line)
      (filled : past ≡ replicate (length (part line (length first) (length line - length first))) cap) where
    abbrev row_begun : List ℕ
    row_begun = put_mid (length first) (length line - length first) line past

    past_is : past ≡ replicate (length line - length first) cap
    past_is = filled ∙ ap (λ n. replicate n cap) (length_part line (length first) (length line - length first) (omega arith))

    pub row_long : length row_begun ≡ length line
    row_long = rw past_is (search (rules, places))

    pub row_begins : {x : ℕ} → 0 < length second → x ≡ get_or second 0 0 → Begun first x line → LeastBefore 1 row_begun
    unfolding running_min
    row_begins some hx begun m h =
        let one : min 1 (m + 1) ≡ 1 = omega arith in
        let all : m - 0 ≡ m = omega arith in
        let sums = length-take-le (length first) line inside in
        rw (one, all)
        (elim (dec_lt m (length first)) [
          | yes l ↦
              get_or_append_left (take (length first) line) _ 0 m (omega arith)
              ∙ get_or-take (length first) line m 0 l
              ∙ omega (arith, begun m l, entry_inside first m l, entry_inside second 0 some)
          | no l ↦
              get_or-append_right (take (length first) line) _ (length first) m 0 sums (omega arith)
              ∙ rw past_is (get_or_append_left (replicate (length line - length first) cap) _ 0 (m - length first) (rw length-replicate (omega (arith, row_long))))
              ∙ get_or-replicate (length line - length first) (m - length first) cap 0 (omega (arith, row_long))
              ∙ omega (arith, entry_past first m (omega arith))
        ])

  pub row_turns : (r end : ℕ) (line after : List ℕ) {x : ℕ} → length after ≡ length line → r < length second → x ≡ get_or second r 0
      → end ≡ min (length first) (length line - r) → LeastBefore r line → Lowered line first end r x after → LeastBefore (r + 1) after
  unfolding running_min
  row_turns r end line after long some hx he so_far lowered m h =
      let before = so_far m (omega arith) in
      elim (dec_lt m r) [
        | yes l ↦
            let all : min (r + 1) (m + 1) ≡ min r (m + 1) = omega arith in
            rw all (lowered.outside m (inl l) ∙ before)
        | no l ↦
            let next : min (r + 1) (m + 1) ≡ suc r = omega arith in
            let last : min r (m + 1) ≡ r = omega arith in
            let here : r + (m - r) ≡ m = omega arith in
            rw next
            (elim (dec_lt (m - r) end) [
              | yes i ↦
                  omega (arith, rw here at (lowered.inside (m - r) i), rw last at before, entry_inside first (m - r) (omega arith), entry_inside second r some)
              | no i ↦
                  omega (arith, lowered.outside m (inr (omega arith)), rw last at before, entry_past first (m - r) (omega arith), running_min_within cap (joined_split first second m) r)
            ])
      ]

  pub row_ends : (r w : ℕ) (line : List ℕ) → length line ≡ w → length second ≤ r → LeastBefore r line
      → line ≡ map (joined_best first second) (range 0 w)
  unfolding joined_best
  row_ends r w line long all so_far =
      by_entries (joined_best first second) line w long
      (λ m k.
      so_far m (omega arith)
      ∙ running_min_leaves_out cap (joined_split first second m) (min r (m + 1)) (m + 1) (omega arith) (λ i p q. omega (arith, entry_past second i (omega arith))))

-- ---- the parts may change places

pub row_parts_swapped : {w : ℕ} {first second : List ℕ} → RowParts w first second → RowParts w second first
row_parts_swapped p = record { first_line = p.second_line; second_line = p.first_line; ends = (p.ends.1, p.ends.0) }

joined_best_swapped : (first second : List ℕ) (m : ℕ) → joined_best first second m ≡ joined_best second first m
unfolding joined_best
joined_best_swapped first second m =
    running_min_reversed cap (joined_split first second m) (joined_split second first m) m
    (λ i h. let back : m - (m - i) ≡ i = omega arith in rw back (omega arith))

pub joined_swapped : (first second : List ℕ) (w : ℕ)
    → map (joined_best first second) (range 0 w) ≡ map (joined_best second first) (range 0 w)
joined_swapped first second w = same_on_range _ _ 0 w (λ m _ _. joined_best_swapped first second m)

-- ---- the line of a row of w entries, from its node's own line and its later siblings'

module _ {cached uncached rest node : List ℕ} {member other w own : ℕ} (parts : LineParts cached uncached rest member other)
    (nonempty : 0 < w) (few : length rest ≤ w) (own_is : own ≡ min w (length cached + 1))
    (node-is : node ≡ map (line_own cached uncached member other) (range 0 own)) where
  node_long : length node ≡ own
  node_long = rw node-is (length_of_range (line_own cached uncached member other) 0 own)

  node_inside : (n : ℕ) → n < own → entry_of node n ≡ min cap (line_node cached uncached member other n)
  unfolding line_own
  node_inside n h = rw node-is (entry_of_rule (line_own cached uncached member other) own n h)

  node_past_lem : (n : ℕ) → own ≤ n → entry_of node n ≡ cap
  node_past_lem n h = entry_past node n (omega (arith, node_long))

  node_line : Line node
  node_line = record {
    some = omega (arith, node_long);
    within =
        λ n.
        elim (dec_lt n own) [
          | yes l ↦ omega (arith, node_inside n l)
          | no l ↦ omega (arith, node_past_lem n (omega arith))
        ];
  }

  pub row_parts_lem : RowParts w node rest
  row_parts_lem = record { first_line = node_line; second_line = parts.rest_line; ends = (omega (arith, node_long), few) }

  -- the entry is the least cost where more caches than the line has entries do not fit
  node_entry : (n : ℕ) → n < w → entry_of node n ≡ min cap (line_node cached uncached member other n)
  node_entry n h =
      elim (dec_lt n own) [
        | yes l ↦ node_inside n l
        | no l ↦ omega (arith, node_past_lem n (omega arith), node_none cached uncached member other n parts.node_parts (omega arith))
      ]

  row_is_best : (m : ℕ) → m < w → joined_best node rest m ≡ line_best cached uncached rest member other m
  unfolding joined_best line_best line_node split row_best
  row_is_best m h =
      running_min_same cap (joined_split node rest m) (line_split cached uncached rest member other m) (m + 1)
      (λ i l. omega (arith, node_entry (m - i) (omega arith)))
      ∙ rw (add-one m) (running_min_is (line_split cached uncached rest member other m) cap m)

  pub row_is_line : map (joined_best node rest) (range 0 w) ≡ map (line_best cached uncached rest member other) (range 0 w)
  row_is_line = same_on_range _ _ 0 w (λ m _ h. row_is_best m (omega arith))

-- ---- rows of one part: where the other has no node, entry n of its line is the least cost of the empty row

module _ (cached uncached rest : List ℕ) (member other m : ℕ) where
  best_is_least : line_best cached uncached rest member other m ≡ running_min cap (line_split cached uncached rest member other m) (m + 1)
  unfolding line_best row_best
  best_is_least = sym (rw (add-one m) (running_min_is (line_split cached uncached rest member other m) cap m))

  -- no later siblings
  pub best_is_own : ((n : ℕ) → entry_of rest n ≡ empty_best n)
      → line_best cached uncached rest member other m ≡ line_own cached uncached member other m
  unfolding line_own running_min split
  best_is_own none =
      let all : m - 0 ≡ m = omega arith in
      best_is_least
      ∙ sym (running_min_leaves_out cap (line_split cached uncached rest member other m) 1 (m + 1) (omega arith)
      (λ i h _. omega (arith, none i, empty_some i h)))
      ∙ rw (all, none 0, empty_none 0 refl) (omega arith)

-- no children: the row costs what a node would whose children are the later siblings
pub leaf_is_own : (cached uncached rest : List ℕ) (member other m : ℕ) → ((n : ℕ) → entry_of cached n ≡ empty_best n)
    → ((n : ℕ) → entry_of uncached n ≡ empty_best n) → line_best cached uncached rest member other m ≡ line_own rest rest member other m
unfolding running_min split
leaf_is_own cached uncached rest member other zero c u =
    best_is_least cached uncached rest member other 0
    ∙ omega (arith, leaf_none cached uncached member other 0 c u refl, own_without_caches rest rest member other 0 refl)
leaf_is_own cached uncached rest member other (suc k) c u =
    let f = line_split cached uncached rest member other (suc k) in
    let last : suc k + 1 ≡ suc (suc k) = omega arith in
    let before : cap ≡ running_min cap f k =
    running_min_leaves_out cap f 0 k (omega arith) (λ i _ h. omega (arith, leaf_more cached uncached member other (suc k - i) c u (omega arith))) in
    let one : entry_of rest (suc k - 1) ≡ entry_of rest k = ap (entry_of rest) (omega arith) in
    best_is_least cached uncached rest member other (suc k)
    ∙ rw last
    (omega (
      arith,
      before,
      leaf_one cached uncached member other (suc k - k) c u (omega arith),
      leaf_none cached uncached member other (suc k - suc k) c u (omega arith),
      own_with_caches rest rest member other (suc k) (omega arith),
      one,
    ))
