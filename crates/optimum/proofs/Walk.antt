-- The walk through the table: from a node to the row of its children, and from a row's first node to its later siblings.
use mathlib.Core.Path.{◌≡◌, refl, sym, ◌∙◌}
use mathlib.Core.Bool.{Bool, true, false, cond}
use mathlib.Core.List.{List}
use Prim.Native.Nat.{ℕ, ◌+◌, ◌-◌, ◌≤◌, ◌<◌}
use native.Mathlib.Nat.{le_refl, sub-zero}
use native.Mathlib.Numerals.{add-one}
use native.Mathlib.Omega.{arith}
use lib.ListN.{length, set, length-set}
use lib.Seq.{sets}
use Rattle.model.specs.File.{tree_of, demand_of, most_nodes}
use Rattle.best_rows.specs.Rows.{row_size}
use Rattle.best_rows.specs.Best.{cap}
use Rattle.best_rows.specs.TreeRows.{first_child, next_sibling, row_at}
use Rattle.best_rows.specs.BestAt.{one, best_at, best_nodes, node_best_at, takes_node, later_at}
use Rattle.best_rows.proofs.Table.{row_size_node}
use Rattle.node_words.specs.Words.{word_of, child_word, sibling_word, HasNode}
use Rattle.places.specs.declared.Place.{Place}
use Rattle.table.proofs.Server.{table_sound, table_has_node, table_child}
use Rattle.optimum.specs.Walk.{nodes_from, RowHas, RowToSplit, RowToWalk, NodeToWalk, Walked}
use Rattle.optimum.proofs.Served.{children_served, children_served_above, siblings_served}
use Rattle.optimum.proofs.Nodes.{row_has_node, row_without, node_without, children_attained, later_within, row_attained, row_stores}

-- ---- at a node with n caches at or below it

module _ {file : List ℕ} {allows : ℕ → Bool → Bool} {places : List Place} {s : List ℕ} {x serving n : ℕ} {member : Bool} {at : ℕ} {rows : List ℕ}
    (r : NodeToWalk file allows places s x serving n member at rows) where
  pub node_stands : HasNode s x
  node_stands = table_has_node r.table r.node.served.node

  pub node_small : x < most_nodes
  node_small = omega (arith, r.node.served.node, (table_sound r.table).few)

  attained : let u = takes_node (tree_of file) (demand_of file) allows x serving n in
      (one x u ≤ n) × (best_at (tree_of file) (demand_of file) allows (first_child (tree_of file) x) (cond u x serving) (n - one x u) < cap)
  attained = children_attained (tree_of file) (demand_of file) allows x serving n r.node.attained

  module _ {child : ℕ} (e : child ≡ word_of s x child_word) where
    below_is : child ≡ first_child (tree_of file) x
    below_is = table_child r.table r.node.served.node e

    pub child_row : row_size (row_at (tree_of file) child) ≡ row_size (row_at (tree_of file) (first_child (tree_of file) x))
    child_row = rw below_is

    -- x is a cache: one fewer among its children, whom it serves
    module _ (m : member ≡ true) where
      pub member_some : 0 < n
      member_some = (rw (sym r.own ∙ m) at attained).0

      pub member_row : RowToWalk file allows places s child x (n - 1) (at + 1) (set rows at x)
      member_row = rw below_is (record {
        table = r.table;
        row = record {
          served = children_served (tree_of file) (table_sound r.table).preorder x r.node.served.node;
          within = omega (arith, r.node.within);
          attained = (rw (sym r.own ∙ m) at attained).1;
        };
        room = simp length-set (omega (arith, r.room, member_some));
      })

      pub member_stores : sets (set rows at x) (at + 1) (best_nodes (tree_of file) (demand_of file) allows child x (n - 1))
          ≡ sets rows at (nodes_from (tree_of file) (demand_of file) allows x serving n)
      unfolding nodes_from
      member_stores = rw (sym r.own ∙ m, below_is, add-one at)

    -- it is none: all among its children
    module _ (m : member ≡ false) where
      pub other_row : RowToWalk file allows places s child serving n at rows
      other_row = rw below_is (record {
        table = r.table;
        row = record {
          served = children_served_above (tree_of file) (table_sound r.table).preorder x serving r.node.site r.node.served;
          within = r.node.within;
          attained = (rw (sym r.own ∙ m, sub-zero) at attained).1;
        };
        room = r.room;
      })

      pub other_stores : sets rows at (best_nodes (tree_of file) (demand_of file) allows child serving n)
          ≡ sets rows at (nodes_from (tree_of file) (demand_of file) allows x serving n)
      unfolding nodes_from
      other_stores = rw (sym r.own ∙ m, below_is, sub-zero)

-- ---- at a row with m caches

module _ {file : List ℕ} {allows : ℕ → Bool → Bool} {places : List Place} {s : List ℕ} {serving first count start : ℕ} {old : List ℕ} where
  pub serving_stands : RowToWalk file allows places s first serving count start old → HasNode s serving
  serving_stands h = table_has_node h.table h.row.served.above

  pub walk_begins : RowToWalk file allows places s first serving count start old
      → Walked file allows places s serving first count start old first count start old
  walk_begins h = record { here = h; left = refl; smaller = le_refl _; long = refl; stores = refl }

  module _ {x m at : ℕ} {new : List ℕ} (w : Walked file allows places s serving first count start old x m at new) where
    pub walk_ends : m ≤ 0 → (at ≡ start + count) × (new ≡ sets old start (best_nodes (tree_of file) (demand_of file) allows first serving count))
    walk_ends h =
        let none : m ≡ 0 = omega arith in
        let row = rw none at w.here.row.attained in
        (omega (arith, w.left), rw (none, row_without (tree_of file) (demand_of file) allows x serving row) at w.stores)

    module _ (some : 0 < m) where
      row : RowHas file allows x serving m
      row = w.here.row

      walked_site : 0 < x
      walked_site = row_has_node (tree_of file) (demand_of file) allows x serving m some row.attained

      pub walked_row : RowToSplit file allows places s x serving m
      walked_row = record { table = w.here.table; site = walked_site; row = row }

      pub walked_stands : HasNode s x
      walked_stands = table_has_node w.here.table row.served.node

      row_shrinks : 1 + row_size (row_at (tree_of file) (first_child (tree_of file) x)) + row_size (row_at (tree_of file) (next_sibling (tree_of file) x))
          ≡ row_size (row_at (tree_of file) x)
      row_shrinks = sym (row_size_node (tree_of file) x walked_site row.served.node)

      -- the children's row is smaller than the row walked, and the later siblings' than the one that x begins
      pub children_smaller : row_size (row_at (tree_of file) (first_child (tree_of file) x)) < row_size (row_at (tree_of file) first)
      children_smaller = omega (arith, row_shrinks, w.smaller)

      sibling_is : {next : ℕ} → next ≡ word_of s x sibling_word → next ≡ next_sibling (tree_of file) x
      sibling_is f = f ∙ w.here.table.stored.words.sibling x walked_site row.served.node

      pub siblings_smaller : {next : ℕ} → next ≡ word_of s x sibling_word
          → row_size (row_at (tree_of file) next) < row_size (row_at (tree_of file) x)
      siblings_smaller f = rw (sibling_is f) (omega (arith, row_shrinks))

      module _ {later : ℕ} (e : later ≡ later_at (tree_of file) (demand_of file) allows x serving m) where
        walked_later : later ≤ m
        walked_later = rw e (later_within (tree_of file) (demand_of file) allows x serving m walked_site row.served.node row.attained)

        both_attained : (node_best_at (tree_of file) (demand_of file) allows x serving (m - later) < cap)
            × (best_at (tree_of file) (demand_of file) allows (next_sibling (tree_of file) x) serving later < cap)
        both_attained = rw e (row_attained (tree_of file) (demand_of file) allows x serving m walked_site row.served.node row.attained)

        pub walked_node : {member : Bool} → member ≡ takes_node (tree_of file) (demand_of file) allows x serving (m - later)
            → NodeToWalk file allows places s x serving (m - later) member at new
        walked_node u = record {
          table = w.here.table;
          node = record {
            site = walked_site;
            served = row.served;
            within = omega (arith, row.within);
            attained = both_attained.0;
          };
          own = u;
          room = omega (arith, w.here.room);
        }

        pub walk_turns : {end next : ℕ} {l : List ℕ} → next ≡ word_of s x sibling_word → end ≡ at + (m - later)
            → l ≡ sets new at (nodes_from (tree_of file) (demand_of file) allows x serving (m - later)) → length l ≡ length new
            → Walked file allows places s serving first count start old next later end l
        walk_turns f g k long =
            let t = tree_of file in
            let d = demand_of file in
            rw (sibling_is f) (record {
              here = record {
                table = w.here.table;
                row = record {
                  served = siblings_served t (table_sound w.here.table).preorder x serving walked_site row.served;
                  within = omega (arith, walked_later, row.within);
                  attained = both_attained.1;
                };
                room = omega (arith, walked_later, w.here.room);
              };
              left = omega (arith, walked_later, w.left);
              smaller = omega (arith, row_shrinks, w.smaller);
              long = long ∙ w.long;
              stores = rw (k, g, e) (sym (row_stores t d allows x serving m walked_site row.served.node row.attained new at) ∙ w.stores);
            })

        -- all are among the later siblings
        pub walk_passes : {next : ℕ} → next ≡ word_of s x sibling_word → m ≤ later
            → Walked file allows places s serving first count start old next m at new
        walk_passes f all =
            let same : later ≡ m = omega (arith, walked_later) in
            let none : m - later ≡ 0 = omega arith in
            let here = node_without (tree_of file) (demand_of file) allows x serving (rw none at both_attained.0) in
            rw same at (walk_turns {end = at} {l = new} f (omega arith) (rw (none, here)) refl)
