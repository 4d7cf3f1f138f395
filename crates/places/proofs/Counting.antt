-- How many nodes each row has, counted from the last node up, and the depths of the nodes, from the server down.
use mathlib.Core.Path.{◌≡◌, refl, sym, ap, ◌∙◌}
use Rattle.std.proofs.Common.{◌≢◌}
use Rattle.std.proofs.lemmas.List.{get_or_append_left, get_or-replicate}
use mathlib.Core.List.{List, ◌++◌}
use Prim.Native.Nat.{ℕ, zero, suc, ◌+◌, ◌-◌, ◌≤◌, ◌<◌}
use native.Mathlib.Decide.{ℕ_discrete}
use native.Mathlib.Omega.{arith}
use lib.ListN.{length, get_or, replicate, length-replicate, set, length-set}
use lib.Seq.{get_or-set_same, get_or-set_other}
use Rattle.model.specs.File.{Tree, tree_of, demand_of, most_nodes, most_depth}
use Rattle.model.specs.Tree.{depth}
use Rattle.model.specs.Accepted.{Sound}
use Rattle.model.proofs.Accepted.{accepted_header, accepted_sound}
use Rattle.model.proofs.Intervals.{parent_earlier}
use Rattle.model.proofs.Depths.{depth_server, depth_up}
use Rattle.fields.specs.Table.{InFile}
use Rattle.tree_file.proofs.Accepted.{accepted_in_file}
use Rattle.best_rows.specs.Rows.{row_size}
use Rattle.best_rows.specs.TreeRows.{row_after, nodes_after, row_at}
use Rattle.best_rows.proofs.TreeRows.{row_after_child, row_after_other}
use Rattle.best_rows.proofs.Cover.{row_size_within}
use Rattle.places.specs.declared.Place.{Place}
use Rattle.places.specs.Places.{no_place, start_in, width_in, Entries, RowsCounted, EntriesAre}

-- ---- a list of places with one of them stored anew

module _ (places : List Place) (i : ℕ) (node : Place) where
  pub start_same : i < length places → start_in (set places i node) i ≡ node.start
  start_same h = ap (λ q. q.start) (get_or-set_same places i node no_place h)

  pub width_same : i < length places → width_in (set places i node) i ≡ node.width
  width_same h = ap (λ q. q.width) (get_or-set_same places i node no_place h)

  pub start_other : (j : ℕ) → j ≢ i → start_in (set places i node) j ≡ start_in places j
  start_other j h = ap (λ q. q.start) (get_or-set_other places i j node no_place h)

  pub width_other : (j : ℕ) → j ≢ i → width_in (set places i node) j ≡ width_in places j
  width_other j h = ap (λ q. q.width) (get_or-set_other places i j node no_place h)

  -- one that keeps its width keeps them all
  pub widths_stay : i < length places → node.width ≡ width_in places i → (j : ℕ) → width_in (set places i node) j ≡ width_in places j
  widths_stay h e j = elim (ℕ_discrete j i) [
    | yes z ↦ rw z (width_same h ∙ e)
    | no z ↦ width_other j z
  ]

-- n places of nothing, before the rest
pub all_none : {front : List Place} (n : ℕ) (rest : List Place) → front ≡ replicate n no_place → EntriesAre (λ _. 0) (width_in (front ++ rest)) n
all_none {front} n rest e v h =
    let long : v < length front = rw (e, length-replicate) h in
    ap (λ q. q.width) (get_or_append_left front rest no_place v long ∙ ap (λ l. get_or l v no_place) e ∙ get_or-replicate n v no_place no_place h)

-- ---- a row by the rows of its first node's children and later siblings

-- two entries are changed to x
pub record Changed (counts counts' : ℕ → ℕ) (v p x : ℕ) : Type 0 where
  pub here : counts' v ≡ x
  pub above : counts' p ≡ x
  pub other : (u : ℕ) → u ≢ v → u ≢ p → counts' u ≡ counts u

pub widths_changed : (places : List Place) (v p : ℕ) (a b : Place) → p < v → v < length places → b.width ≡ a.width
    → Changed (width_in places) (width_in (set (set places v a) p b)) v p a.width
widths_changed places v p a b up long e = record {
  here = width_other (set places v a) p b v (λ z. omega arith) ∙ width_same places v a long;
  above = width_same (set places v a) p b (rw length-set (omega arith)) ∙ e;
  other = λ u h k. width_other (set places v a) p b u k ∙ width_other places v a u h;
}

module _ (t : Tree) where
  -- no node comes after the last
  counted_none : {counts : ℕ → ℕ} → EntriesAre (λ _. 0) counts t.count → 0 < t.count → RowsCounted t counts (t.count - 1)
  unfolding row_after row_size
  counted_none none some =
      let last : nodes_after t (t.count - 1) ≡ 0 = omega arith in
      record { later = λ v h k. absurd (omega arith); children = λ p h. rw last (none p (omega arith)) }

  -- the node, those below it, and those of its later siblings
  row_sum : (v : ℕ) {counts : ℕ → ℕ} → 0 < v → t.parent v < v → RowsCounted t counts v → 1 + counts v + counts (t.parent v) ≡ row_size (row_at t v)
  unfolding row_at row_size
  row_sum zero site up so_far = absurd (omega arith)
  row_sum (suc i) site up so_far =
      omega (arith, so_far.children (suc i) (omega arith), so_far.children (t.parent (suc i)) (omega arith))

  -- one node more: it is the first of its parent's children from there on
  counted_next : (v : ℕ) {counts counts' : ℕ → ℕ} → 0 < v → v < t.count → t.parent v < v → RowsCounted t counts v
      → Changed counts counts' v (t.parent v) (row_size (row_at t v)) → RowsCounted t counts' (v - 1)
  unfolding row_at row_size
  counted_next zero site below up so_far change = absurd (omega arith)
  counted_next (suc i) site below up so_far change =
      let v = suc i in
      let p = t.parent v in
      let before : v - 1 ≡ i = omega arith in
      let left : nodes_after t i ≡ suc (nodes_after t v) = omega arith in
      rw before (record {
        later = λ u h k. elim (ℕ_discrete u v) [
          | yes e ↦ rw e change.here
          | no e ↦ change.other u e (λ z. omega arith) ∙ so_far.later u (omega arith) k
        ];
        children = λ u h.
            rw left
            (elim (ℕ_discrete u p) [
              | yes e ↦ rw (e, row_after_child t (nodes_after t v) i p refl) change.above
              | no e ↦
                  rw (row_after_other t (nodes_after t v) i u (λ z. e (sym z)))
                  (change.other u (λ z. omega arith) e ∙ so_far.children u (omega arith))
            ]);
      })

-- ---- in an accepted file

entries_kept : {file : List ℕ} {n : ℕ} {l l' : List Place} → Entries file n l → length l' ≡ length l → Entries file n l'
entries_kept room e = record { accepted = room.accepted; count = room.count; room = omega (arith, room.room) }

module _ {file : List ℕ} {n : ℕ} {l : List Place} (room : Entries file n l) where
  abbrev tree : Tree
  tree = tree_of file

  sound : Sound tree (demand_of file)
  sound = accepted_sound file room.accepted

  -- there is a node, and a place for each
  pub entries_fit : (1 ≤ n) × (n ≤ length l) × (n ≤ most_nodes)
  entries_fit = let head = accepted_header file room.accepted in omega (arith, room.count, room.room, head.some, head.few)

  pub counted_last : {counts : ℕ → ℕ} → EntriesAre (λ _. 0) counts n → RowsCounted tree counts (n - 1)
  counted_last none = rw room.count (counted_none tree (rw room.count at none) (omega (arith, entries_fit, room.count)))

  -- the server's row is counted last, and node 0 then stands for the empty row
  pub counted_all : {counts counts' : ℕ → ℕ} → RowsCounted tree counts 0 → counts' 0 ≡ 0 → ((v : ℕ) → v ≢ 0 → counts' v ≡ counts v)
      → EntriesAre (λ v. row_size (row_at tree v)) counts' n
  unfolding row_at row_size
  counted_all all none kept v h =
      elim (ℕ_discrete v 0) [
        | yes e ↦ rw e none
        | no e ↦ kept v e ∙ all.later v (omega arith) (omega (arith, room.count))
      ]

  depth_above : (v : ℕ) → 0 < v → depth tree v ≡ suc (depth tree (tree.parent v))
  depth_above zero site = absurd (omega arith)
  depth_above (suc i) site = depth_up tree sound.preorder i

  -- a node other than the server, with its parent p
  module _ {v p : ℕ} (site : 0 < v) (below : v < n) (e : p ≡ tree.parent v) where
    pub record_there : InFile file v
    record_there = accepted_in_file file room.accepted v (omega (arith, room.count))

    -- its parent comes before it
    pub parent_first_lem : p < v
    parent_first_lem = omega (arith, parent_earlier tree sound.preorder v (omega arith))

    sum_is_row : {counts : ℕ → ℕ} → RowsCounted tree counts v → 1 + counts v + counts p ≡ row_size (row_at tree v)
    sum_is_row so_far = rw e (row_sum tree v site (omega (arith, parent_first_lem)) so_far)

    sum_small : {counts : ℕ → ℕ} → RowsCounted tree counts v → 1 + counts v + counts p < most_nodes
    sum_small so_far =
        omega (arith, sum_is_row so_far, row_size_within tree sound.preorder v (omega (arith, room.count)), entries_fit, room.count)

    -- all that is asked of the step that counts its row
    pub row_fits : {counts : ℕ → ℕ} → RowsCounted tree counts v → (p < v) × (v < length l) × (v < most_nodes) × (1 + counts v + counts p < most_nodes)
    row_fits so_far = let fit = entries_fit in (parent_first_lem, omega arith, omega arith, sum_small so_far)

    pub counting_turns : {counts counts' : ℕ → ℕ} → RowsCounted tree counts v → Changed counts counts' v p (1 + counts v + counts p)
        → RowsCounted tree counts' (v - 1)
    counting_turns so_far change =
        counted_next tree v site (omega (arith, room.count)) (omega (arith, parent_first_lem)) so_far (rw (sum_is_row so_far, e) at change)

    -- its depth
    one_deeper : {depths : ℕ → ℕ} → EntriesAre (depth tree) depths v → depths p + 1 ≡ depth tree v
    one_deeper so_far = omega (arith, so_far p parent_first_lem, rw (← e) at (depth_above v site))

    depth_small : {depths : ℕ → ℕ} → EntriesAre (depth tree) depths v → depths p + 1 ≤ most_depth
    depth_small so_far = omega (arith, one_deeper so_far, sound.shallow v)

    depths_next : {depths depths' : ℕ → ℕ} → EntriesAre (depth tree) depths v → depths' v ≡ depths p + 1
        → ((u : ℕ) → u ≢ v → depths' u ≡ depths u) → EntriesAre (depth tree) depths' (v + 1)
    depths_next so_far here kept u h = elim (ℕ_discrete u v) [
      | yes z ↦ rw z (here ∙ one_deeper so_far)
      | no z ↦ kept u z ∙ so_far u (omega arith)
    ]

-- the depths of the nodes before v are noted
pub record DepthsNoted (file : List ℕ) (n : ℕ) (places : List Place) (v : ℕ) : Type 0 where
  pub site : 0 < v
  pub room : Entries file n places
  pub depths : EntriesAre (depth (tree_of file)) (start_in places) v

pub depths_begin : {file : List ℕ} {n : ℕ} {l : List Place} → Entries file n l
    → let r = set l 0 (record { start = 0; width = width_in l 0 }) in DepthsNoted file n r 1 × EntriesAre (width_in l) (width_in r) n
depths_begin {file} {l = l} room =
    let fit = entries_fit room in (
      record {
        site = omega arith;
        room = entries_kept room (length-set l 0 _);
        depths = λ v h. let z : v ≡ 0 = omega arith in rw (z, depth_server (tree_of file)) (start_same l 0 _ (omega arith));
      },
      λ v h. widths_stay l 0 _ (omega arith) refl v,
    )

module _ {file : List ℕ} {n : ℕ} {l : List Place} {v p : ℕ} (so_far : DepthsNoted file n l v) (below : v < n) (e : p ≡ (tree_of file).parent v) where
  -- all that is asked of the step that notes its depth
  pub depth_fits : (p < v) × (v < length l) × (v < most_nodes) × (start_in l p + 1 ≤ most_depth)
  depth_fits =
      let fit = entries_fit so_far.room in
      (parent_first_lem so_far.room so_far.site below e, omega arith, omega arith, depth_small so_far.room so_far.site below e so_far.depths)

  pub depths_turn : (old : List Place) → EntriesAre (width_in old) (width_in l) n
      → let r = set l v (record { start = start_in l p + 1; width = width_in l v }) in
      DepthsNoted file n r (v + 1) × EntriesAre (width_in old) (width_in r) n
  depths_turn old widths = (
    record {
      site = omega arith;
      room = entries_kept so_far.room (length-set l v _);
      depths = depths_next so_far.room so_far.site below e so_far.depths (start_same l v _ depth_fits.1) (start_other l v _);
    },
    λ u h. widths_stay l v _ depth_fits.1 refl u ∙ widths u h,
  )
