-- What a table says at a node: the lines of its children and of its later siblings hold the least costs of their rows.
use mathlib.Core.Path.{◌≡◌, sym, ap, ◌∙◌}
use mathlib.Core.Bool.{Bool}
use mathlib.Core.List.{List, [], ◌∷◌}
use mathlib.Core.Logic.{⊎_elim}
use Prim.Native.Nat.{ℕ, ◌+◌, ◌≤◌, ◌<◌}
use native.Mathlib.Nat.{le_refl}
use native.Mathlib.Omega.{arith}
use lib.ListN.{length, get_or}
use Rattle.laws.proofs.Stores.{part_snoc, length_part}
use Rattle.model.specs.File.{tree_of, demand_of, budget_of}
use Rattle.model.specs.Tree.{depth}
use Rattle.model.specs.Preorder.{Preorder}
use Rattle.model.proofs.Routes.{distance_server}
use Rattle.best_rows.specs.TreeRows.{first_child, next_sibling, NoneOrChild}
use Rattle.best_rows.specs.BestAt.{best_at, children_at, siblings_at}
use Rattle.best_rows.proofs.TreeRows.{first_child_stands, next_sibling_stands}
use Rattle.node_words.specs.Words.{HasNode, word_of, depth_word, child_word, sibling_word}
use Rattle.node_words.specs.Ancestors.{ancestor_at}
use Rattle.node_words.proofs.Ancestors.{ancestor_self, child_depth, child_ancestor, sibling_depth, sibling_ancestor, ancestor_before, ancestor_nearer}
use Rattle.places.specs.Places.{width_in, start_at}
use Rattle.places.proofs.Places.{start_later}
use Rattle.lines.specs.Line.{HoldsBest, LinesHoldBest}
use Rattle.places.specs.declared.Place.{Place}
use Rattle.table.specs.Table.{line_at, InTable, line_in, place_of, FilledFrom, TableFrom, Served, Client}
use Rattle.table.proofs.Places.{place_from}
use Rattle.table.proofs.Lines.{empty_holds, line_holds}
use Rattle.table.proofs.Room.{width_none, room_sound, room_width, room_line, room_place, stored_node, stored_client}

-- a line in the table has as many entries as its node's width says
pub length_line : {places : List Place} {s : List ℕ} {x a : ℕ} → InTable places s x a → length (line_in places s x a) ≡ width_in places x
unfolding line_in
length_line {places} {s} {x} {a} p = length_part s (line_at places x a) (width_in places x) p.inside

module _ {file : List ℕ} {allows : ℕ → Bool → Bool} {s : List ℕ} {places : List Place} {i : ℕ} (r : TableFrom file allows places s i) where
  pre : Preorder (tree_of file)
  pre = (room_sound r.stored.room).preorder

  -- the empty row's line is the server's distance alone
  none_line : (a : ℕ) → line_in places s 0 a ≡ 0 ∷ []
  unfolding line_in line_at
  none_line a =
      let room = r.stored.room in
      let some = (room_sound room).some in
      let first : get_or s 0 0 ≡ 0 = r.stored.words.distance 0 some ∙ distance_server (tree_of file) (room_sound room).server in
      rw (room_width room 0 some, width_none file) (part_snoc s 0 0 (omega (arith, stored_node r.stored some)) ∙ ap (λ (x : ℕ). x ∷ []) first)

  -- the line of a row of children of p after v, where u is their ancestor at depth a, is in the table and holds its least costs
  module _ (v p c a u : ℕ) (before : i ≤ start_at (tree_of file) (budget_of file) (v + 1)) (stands : NoneOrChild (tree_of file) v p c)
      (way : 0 < c → (tree_of file).parent c ≡ p → (a < depth (tree_of file) c) × (ancestor_at (tree_of file) c a ≡ u)) where
    pub row_place : InTable places s c a
    row_place =
        room_place r.stored.room c a (⊎_elim (λ e. omega (arith, (room_sound r.stored.room).some)) (λ g. g.1) stands)
        (λ some. ⊎_elim (λ e. absurd (omega arith)) (λ g. (way some g.2).0) stands)

    pub row_line : HoldsBest (budget_of file + 1) (best_at (tree_of file) (demand_of file) allows c u) (line_in places s c a)
    unfolding FilledFrom line_in
    row_line =
        ⊎_elim
        (λ e. rw e (empty_holds (tree_of file) (demand_of file) allows (budget_of file) u (none_line a)))
        (λ g.
        let t = tree_of file in
        let k = budget_of file in
        let some : 0 < c = omega (arith, g.0) in
        let m = way some g.2 in
        let later : i ≤ place_of t k c a = omega (arith, before, start_later t k {x = v + 1} {y = c} (omega (arith, g.0)), place_from t k c some a) in
        line_holds t (demand_of file) allows k c a u m.1
        (rw (room_line r.stored.room c a g.1, room_width r.stored.room c g.1) (r.lines c a some g.1 m.0 later)))
        stands

  -- ---- a node and the one that serves it from above

  module _ {v a u : ℕ} (at : Served (tree_of file) v a u) where
    pub served_room : HasNode s v
    served_room = stored_node r.stored at.node

    -- ---- its own line

    pub own_row : i ≤ place_of (tree_of file) (budget_of file) v a
        → HoldsBest (budget_of file + 1) (best_at (tree_of file) (demand_of file) allows v u) (line_in places s v a)
    unfolding FilledFrom line_in
    own_row later =
        line_holds (tree_of file) (demand_of file) allows (budget_of file) v a u (sym at.ancestor)
        (rw (room_line r.stored.room v a at.node, room_width r.stored.room v at.node) (r.lines v a at.site at.node at.above later))

    -- what serves it: itself as a cache, or that node
    pub served_itself : Client file s v v
    served_itself = stored_client r.stored at.node (le_refl v) (le_refl _)

    pub served_above_it : Client file s v u
    served_above_it =
        let t = tree_of file in
        let h : a ≤ depth t v = omega (arith, at.above) in
        rw at.ancestor (stored_client r.stored at.node (ancestor_before t pre v a h) (ancestor_nearer t pre v a h))

    -- ---- the three lines that its own is made from, and that a walk reads: of its children, with v as a cache and without, and of
    -- its later siblings

    module _ (before : i ≤ start_at (tree_of file) (budget_of file) (v + 1)) where
      module _ {child deep : ℕ} (c : child ≡ word_of s v child_word) (e : deep ≡ word_of s v depth_word) where
        first : child ≡ first_child (tree_of file) v
        first = c ∙ r.stored.words.child v at.node

        own_depth : deep ≡ depth (tree_of file) v
        own_depth = e ∙ r.stored.words.depth v at.node

        own_way : 0 < first_child (tree_of file) v → (tree_of file).parent (first_child (tree_of file) v) ≡ v
            → (depth (tree_of file) v < depth (tree_of file) (first_child (tree_of file) v))
            × (ancestor_at (tree_of file) (first_child (tree_of file) v) (depth (tree_of file) v) ≡ v)
        own_way some p =
            let t = tree_of file in
            let x = first_child t v in
            (omega (arith, child_depth t pre x v some p), child_ancestor t pre x v (depth t v) some p (le_refl _) ∙ ancestor_self t pre v)

        pub own_place : InTable places s child deep
        own_place =
            rw (first, own_depth) (row_place v v (first_child (tree_of file) v) (depth (tree_of file) v) v before (first_child_stands (tree_of file) v) own_way)

        own_line : HoldsBest (budget_of file + 1) (best_at (tree_of file) (demand_of file) allows (first_child (tree_of file) v) v) (line_in places s child deep)
        own_line =
            rw (first, own_depth) (row_line v v (first_child (tree_of file) v) (depth (tree_of file) v) v before (first_child_stands (tree_of file) v) own_way)

      module _ {child : ℕ} (c : child ≡ word_of s v child_word) where
        children_way : 0 < first_child (tree_of file) v → (tree_of file).parent (first_child (tree_of file) v) ≡ v
            → (a < depth (tree_of file) (first_child (tree_of file) v)) × (ancestor_at (tree_of file) (first_child (tree_of file) v) a ≡ u)
        children_way some p =
            let t = tree_of file in
            let x = first_child t v in
            (omega (arith, child_depth t pre x v some p, at.above), child_ancestor t pre x v a some p (omega (arith, at.above)) ∙ sym at.ancestor)

        pub children_place : InTable places s child a
        children_place =
            rw (c ∙ r.stored.words.child v at.node) (row_place v v (first_child (tree_of file) v) a u before (first_child_stands (tree_of file) v) children_way)

        children_line : HoldsBest (budget_of file + 1) (best_at (tree_of file) (demand_of file) allows (first_child (tree_of file) v) u) (line_in places s child a)
        children_line =
            rw (c ∙ r.stored.words.child v at.node) (row_line v v (first_child (tree_of file) v) a u before (first_child_stands (tree_of file) v) children_way)

      module _ {sibling : ℕ} (b : sibling ≡ word_of s v sibling_word) where
        siblings_way : 0 < next_sibling (tree_of file) v → (tree_of file).parent (next_sibling (tree_of file) v) ≡ (tree_of file).parent v
            → (a < depth (tree_of file) (next_sibling (tree_of file) v)) × (ancestor_at (tree_of file) (next_sibling (tree_of file) v) a ≡ u)
        siblings_way some p =
            let t = tree_of file in
            let x = next_sibling t v in (
              omega (arith, sibling_depth t pre x v some at.site p, at.above),
              sibling_ancestor t pre x v a some at.site p at.above ∙ sym at.ancestor,
            )

        pub siblings_place : InTable places s sibling a
        siblings_place =
            rw (b ∙ r.stored.words.sibling v at.site at.node)
            (row_place v ((tree_of file).parent v) (next_sibling (tree_of file) v) a u before (next_sibling_stands (tree_of file) v) siblings_way)

        siblings_line : HoldsBest (budget_of file + 1) (best_at (tree_of file) (demand_of file) allows (next_sibling (tree_of file) v) u) (line_in places s sibling a)
        siblings_line =
            rw (b ∙ r.stored.words.sibling v at.site at.node)
            (row_line v ((tree_of file).parent v) (next_sibling (tree_of file) v) a u before (next_sibling_stands (tree_of file) v) siblings_way)

      pub lines_hold_best : {child sibling deep : ℕ} {cached uncached rest : List ℕ}
          → child ≡ word_of s v child_word → sibling ≡ word_of s v sibling_word → deep ≡ word_of s v depth_word
          → cached ≡ line_in places s child deep → uncached ≡ line_in places s child a → rest ≡ line_in places s sibling a
          → LinesHoldBest (budget_of file + 1) (children_at (tree_of file) (demand_of file) allows v u) (siblings_at (tree_of file) (demand_of file) allows v u) cached uncached rest
      lines_hold_best c b e x y z = record {
        cached_is = rw x (own_line c e);
        uncached_is = rw y (children_line c);
        alike = rw (x, y) (length_line (children_place c) ∙ sym (length_line (own_place c e)));
        rest_is = rw z (siblings_line b);
      }
