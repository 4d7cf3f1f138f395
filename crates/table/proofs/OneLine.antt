-- Laws of one line: what it is made from, how many entries its parts have, and that what is made is the line.
use mathlib.Core.Path.{◌≡◌, refl, sym, ap, ◌∙◌}
use mathlib.Core.List.{List, ◌++◌, map}
use mathlib.Core.Logic.{◌⊎◌, inl, inr, ⊎_elim}
use Prim.Native.Nat.{ℕ, ◌+◌, ◌-◌, ◌≤◌, ◌<◌, ◌^◌}
use native.Mathlib.Nat.{add-sub_cancel_left}
use native.Mathlib.Decide.{ℕ_discrete}
use native.Mathlib.Omega.{arith}
use lib.ListN.{length, length-append, take, drop}
use lib.Seq.{length-take-le, take_at, drop_at}
use Rattle.laws.specs.Lists.{range}
use Rattle.laws.proofs.Lists.{length_of_range}
use Rattle.laws.proofs.FrontValues.{same_on_range}
use Rattle.model.specs.File.{tree_of, demand_of, count_of, budget_of}
use Rattle.model.proofs.Accepted.{accepted_header}
use Rattle.best_rows.specs.Guarded.{Wish, may_be_under}
use Rattle.best_rows.specs.TreeRows.{first_child, next_sibling, NoneOrChild}
use Rattle.best_rows.specs.BestAt.{children_at, siblings_at}
use Rattle.best_rows.proofs.TreeRows.{first_child_stands, next_sibling_stands}
use Rattle.node_words.specs.Words.{word_of, depth_word, child_word, sibling_word}
use Rattle.places.specs.declared.Place.{Place}
use Rattle.places.specs.Places.{width_in, width_at, start_at}
use Rattle.places.proofs.Places.{start_later}
use Rattle.lines.specs.Line.{most_width, LineParts, NodeParts, line_own, line_best, LinesHoldBest}
use Rattle.lines.proofs.HeldBest.{holds_empty}
use Rattle.lines.proofs.Row.{best_is_own, leaf_is_own}
use Rattle.table.specs.Table.{line_at, InTable, line_in, place_of, line_for, LineToFill, ChildAndSibling, Beside, with_line}
use Rattle.table.proofs.Places.{line_none, width_some, place_next, place_from, place_within, words_before}
use Rattle.table.proofs.Lines.{width_within, siblings_narrower, last_width, leaf_width, best_at_empty, line_read, line_put, parts_read}
use Rattle.table.proofs.Room.{width_none, room_sound, room_width, room_line, room_place}
use Rattle.table.proofs.Reading.{length_line, own_place, children_place, siblings_place, lines_hold_best}

-- the front of an array that a rule's values were stored in
pub own_front : (f : ℕ → ℕ) (zeros l : List ℕ) (n : ℕ) → n ≤ length zeros → l ≡ map f (range 0 (length (take n zeros)))
    → take n (l ++ drop n zeros) ≡ map f (range 0 n)
own_front f zeros l n h is =
    let e : l ≡ map f (range 0 n) = is ∙ ap (λ m. map f (range 0 m)) (length-take-le n zeros h) in
    rw e (take_at (map f (range 0 n)) (drop n zeros) n (length_of_range f 0 n))

module _ {file : List ℕ} {wish : Wish} {s : List ℕ} {places : List Place} {v a u member other : ℕ} (r : LineToFill file wish places s v a u member other) where
  -- the lines of children and later siblings are there
  pub filled_before : place_of (tree_of file) (budget_of file) v (a + 1) ≤ start_at (tree_of file) (budget_of file) (v + 1)
  filled_before =
      omega (arith, place_next (tree_of file) (budget_of file) v r.served.site a, place_within (tree_of file) (budget_of file) v r.served.site a r.served.above)

  -- ---- how many entries the line has, and where it stands

  pub line_in_lem : InTable places s v a
  line_in_lem = room_place r.table.stored.room v a r.served.node (λ _. r.served.above)

  module _ {w : ℕ} (e : w ≡ width_in places v) where
    line_width : w ≡ width_at (tree_of file) (budget_of file) v
    line_width = e ∙ room_width r.table.stored.room v r.served.node

    pub line_some : 0 < w
    line_some = omega (arith, line_width, width_some (tree_of file) (budget_of file) v)

    pub line_few : w ≤ most_width
    line_few =
        omega (arith, line_width, width_within (tree_of file) (budget_of file) v, (accepted_header file r.table.stored.room.accepted).budget)

    pub line_fits : {start : ℕ} → start ≡ line_at places v a → start + w ≤ length s
    line_fits f = omega (arith, line_in_lem.inside)

  -- ---- what it is made from

  module _ {child sibling deep : ℕ} {cached uncached rest : List ℕ} (near : ChildAndSibling s v child sibling) (e : deep ≡ word_of s v depth_word)
      (x : cached ≡ line_in places s child deep) (y : uncached ≡ line_in places s child a) (z : rest ≡ line_in places s sibling a) where
    held : let t = tree_of file in
        let d = demand_of file in
        LinesHoldBest (budget_of file + 1) (children_at t d (may_be_under t wish) v u) (siblings_at t d (may_be_under t wish) v u) cached uncached rest
    held = lines_hold_best r.table r.served filled_before near.0 near.1 e x y z

    pub parts : LineParts cached uncached rest member other
    parts =
        let t = tree_of file in
        let d = demand_of file in
        parts_read t d (may_be_under t wish) (budget_of file) (room_sound r.table.stored.room) r.served held
        r.pays_itself r.pays_above

    -- the later siblings' line is no longer than the row's
    pub rest_few : {w : ℕ} → w ≡ width_in places v → length rest ≤ w
    rest_few f =
        let t = tree_of file in
        let next = near.1 ∙ r.table.stored.words.sibling v r.served.site r.served.node in
        let stands : next_sibling t v < count_of file = ⊎_elim (λ q. omega (arith, (room_sound r.table.stored.room).some)) (λ q. q.1) (next_sibling_stands t v) in
        let long : length rest ≡ width_in places sibling = rw z (length_line (siblings_place r.table r.served filled_before near.1)) in
        omega (
          arith,
          line_width f,
          rw next at long,
          room_width r.table.stored.room (next_sibling t v) stands,
          siblings_narrower t (budget_of file) v r.served.site r.served.node,
        )

    module _ {w start : ℕ} {l : List ℕ} (f : w ≡ width_in places v) (g : start ≡ line_at places v a)
        (is : l ≡ map (line_best cached uncached rest member other) (range 0 w)) where
      -- what is made of them is the line
      made : let t = tree_of file in l ≡ line_for t (demand_of file) (may_be_under t wish) (budget_of file) v a
      made =
          let t = tree_of file in
          let d = demand_of file in
          line_read t d (may_be_under t wish) (budget_of file) l r.served held (line_width f) r.pays_itself r.pays_above is

      place : start ≡ place_of (tree_of file) (budget_of file) v a
      place = g ∙ room_line r.table.stored.room v a r.served.node

      -- in its place
      pub line_stored : take start s ++ (l ++ drop (start + w - start) (drop start s)) ≡ with_line file wish s v a
      line_stored =
          let t = tree_of file in
          line_put t (demand_of file) (may_be_under t wish) (budget_of file) v a start w s (line_fits f g) (line_width f) made ∙ rw place

    -- between the words before and behind it
    pub line_between : (before line behind : List ℕ) {l : List ℕ} → s ≡ before ++ (line ++ behind) → length before ≡ line_at places v a → length line ≡ width_in places v
        → l ≡ map (line_best cached uncached rest member other) (range 0 (length line)) → before ++ (l ++ behind) ≡ with_line file wish s v a
    line_between before line behind cut at wide is =
        let front : take (length before) s ≡ before = rw cut (take_at before (line ++ behind) (length before) refl) in
        let back : drop (length before + length line - length before) (drop (length before) s) ≡ behind =
        rw (add-sub_cancel_left (length before) (length line), cut, drop_at before (line ++ behind) (length before) refl) (drop_at line behind (length line) refl) in
        rw (front, back) at (line_stored wide at is)

    -- no later siblings: it is v's and its children's
    module _ (none : sibling ≡ 0) where
      no_siblings : next_sibling (tree_of file) v ≡ 0
      no_siblings = sym (near.1 ∙ r.table.stored.words.sibling v r.served.site r.served.node) ∙ none

      pub last_fits : {w : ℕ} → w ≡ width_in places v → (0 < w) × (w ≤ length cached + 1)
      last_fits f =
          let t = tree_of file in
          let k = budget_of file in
          let first = near.0 ∙ r.table.stored.words.child v r.served.node in
          let child_in : child < count_of file = ⊎_elim (λ q. omega (arith, first, (room_sound r.table.stored.room).some)) (λ q. rw (← first) at q.1) (first_child_stands t v) in
          let long : length cached ≡ width_in places child = rw x (length_line (own_place r.table r.served filled_before near.0 e)) in
          (line_some f, omega (arith, long, line_width f, room_width r.table.stored.room child child_in, rw (← first) at (last_width t k v r.served.site r.served.node no_siblings)))

      pub last_best : (n : ℕ) {l : List ℕ} → l ≡ map (line_own cached uncached member other) (range 0 n) → l ≡ map (line_best cached uncached rest member other) (range 0 n)
      last_best n is =
          let t = tree_of file in
          let empty = holds_empty _ _ _ held.rest_is (λ m. rw no_siblings (best_at_empty t (demand_of file) (may_be_under t wish) u m)) in
          is ∙ same_on_range _ _ 0 _ (λ m _ _. sym (best_is_own _ _ _ member other m empty))

    -- no children: it is made from the later siblings' alone
    module _ (none : child ≡ 0) where
      no_children : first_child (tree_of file) v ≡ 0
      no_children = sym (near.0 ∙ r.table.stored.words.child v r.served.node) ∙ none

      pub leaf_parts : NodeParts rest rest member other
      leaf_parts = record { cached_line = parts.rest_line; uncached_line = parts.rest_line; alike = refl; pays = parts.node_parts.pays }

      pub leaf_fits : {w : ℕ} → w ≡ width_in places v → (0 < w) × (w ≤ length rest + 1)
      leaf_fits f =
          let t = tree_of file in
          let k = budget_of file in
          let next = near.1 ∙ r.table.stored.words.sibling v r.served.site r.served.node in
          let sibling_in : sibling < count_of file = ⊎_elim (λ q. omega (arith, next, (room_sound r.table.stored.room).some)) (λ q. rw (← next) at q.1) (next_sibling_stands t v) in
          let long : length rest ≡ width_in places sibling = rw z (length_line (siblings_place r.table r.served filled_before near.1)) in
          (line_some f, omega (arith, long, line_width f, room_width r.table.stored.room sibling sibling_in, rw (← next) at (leaf_width t k v r.served.site r.served.node no_children)))

      pub leaf_best : (n : ℕ) {l : List ℕ} → l ≡ map (line_own rest rest member other) (range 0 n) → l ≡ map (line_best cached uncached rest member other) (range 0 n)
      leaf_best n is =
          let t = tree_of file in
          let d = demand_of file in
          let own = holds_empty _ _ _ held.cached_is (λ m. rw no_children (best_at_empty t d (may_be_under t wish) v m)) in
          let under = holds_empty _ _ _ held.uncached_is (λ m. rw no_children (best_at_empty t d (may_be_under t wish) u m)) in
          is ∙ same_on_range _ _ 0 _ (λ m _ _. sym (leaf_is_own _ _ _ member other m own under))

  pub first_child_is : {child : ℕ} → child ≡ word_of s v child_word → NoneOrChild (tree_of file) v v child
  first_child_is c = rw (c ∙ r.table.stored.words.child v r.served.node) (first_child_stands (tree_of file) v)

  pub next_sibling_is : {sibling : ℕ} → sibling ≡ word_of s v sibling_word → NoneOrChild (tree_of file) v ((tree_of file).parent v) sibling
  next_sibling_is b = rw (b ∙ r.table.stored.words.sibling v r.served.site r.served.node) (next_sibling_stands (tree_of file) v)

  -- ---- the lines of the rows after v are word 0, or behind v's line

  module _ {p x : ℕ} (stands : NoneOrChild (tree_of file) v p x) where
    line_behind : (b : ℕ) → 0 < x → line_at places v a + width_in places v ≤ line_at places x b
    line_behind b some =
        let t = tree_of file in
        let k = budget_of file in
        let room = r.table.stored.room in
        ⊎_elim
        (λ e. absurd (omega arith))
        (λ c. omega (
          arith,
          room_line room v a r.served.node,
          line_width refl,
          room_line room x b c.1,
          place_within t k v r.served.site a r.served.above,
          start_later t k {x = v + 1} {y = x} (omega (arith, c.0)),
          place_from t k x (omega (arith, c.0)) b,
        ))
        stands

    -- word 0 is before v's line
    line_first : x ≡ 0 → (0 < line_at places v a) × (width_in places x ≡ 1)
    line_first e =
        let room = r.table.stored.room in (
          omega (arith, room_line room v a r.served.node, words_before (tree_of file) (budget_of file) v r.served.site a, (room_sound room).some),
          room_width room x (omega (arith, e, (room_sound room).some)) ∙ rw e (width_none file),
        )

    pub beside : (before line behind : List ℕ) {w b : ℕ} → s ≡ before ++ (line ++ behind) → length before ≡ line_at places v a → length line ≡ width_in places v
        → w ≡ width_in places v → InTable places s x b → length s < 2 ^ 64 → Beside places (length before) w (length behind) x b
    beside before line behind {w} {b} cut at wide f there fits =
        let long : length s ≡ length before + (length line + length behind) = rw (cut, length-append, length-append) in
        record {
          noted = there.noted;
          first = λ e. rw at (line_first e);
          behind = λ some. (omega (arith, at, f, line_behind b some), omega (arith, there.inside, long, wide, f));
          small = omega (arith, there.inside, fits);
        }

  -- ---- a row of one part: v's line and those of its children that it is made from

  abbrev apart : ℕ → ℕ → Type 0
  apart x b = (line_at places x b + width_in places x ≤ line_at places v a) ⊎ (line_at places v a + width_in places v ≤ line_at places x b)

  line_apart : {p x : ℕ} → NoneOrChild (tree_of file) v p x → (b : ℕ) → apart x b
  line_apart {x = x} stands b = elim (ℕ_discrete x 0) [
    | yes e ↦ inl (omega (arith, line_none places b e, line_first stands e))
    | no e ↦ inr (line_behind stands b (omega arith))
  ]

  -- it is at most one entry longer than theirs, all three are in the scratch, and it has no entry in common with them
  pub last_place_lem : {child deep : ℕ} → ChildAndSibling s v child 0 → deep ≡ word_of s v depth_word
      → NodeParts (line_in places s child deep) (line_in places s child a) member other
      × (0 < width_in places v) × (width_in places v ≤ width_in places child + 1)
      × InTable places s v a × InTable places s child deep × InTable places s child a × apart child deep × apart child a
  last_place_lem {deep = deep} near e =
      let own = own_place r.table r.served filled_before near.0 e in
      let under = children_place r.table r.served filled_before near.0 in
      let stands = first_child_is near.0 in
      let fits = last_fits near e refl refl refl refl refl in (
        (parts near e refl refl refl).node_parts,
        fits.0,
        omega (arith, fits.1, length_line own),
        line_in_lem,
        own,
        under,
        line_apart stands deep,
        line_apart stands a,
      )
