-- What a table says of its nodes, and of the line of the server's row: where it is, and what it holds.
use mathlib.Core.Path.{◌≡◌, ◌∙◌}
use mathlib.Core.Bool.{Bool}
use mathlib.Core.List.{List}
use Prim.Native.Nat.{ℕ, ◌+◌, ◌<◌}
use native.Mathlib.Omega.{arith}
use Rattle.model.specs.File.{tree_of, demand_of, count_of, budget_of}
use Rattle.model.specs.Tree.{depth}
use Rattle.model.specs.Accepted.{Sound}
use Rattle.best_rows.specs.TreeRows.{first_child}
use Rattle.best_rows.specs.BestAt.{best_at}
use Rattle.best_rows.proofs.TreeRows.{first_child_stands}
use Rattle.node_words.specs.Words.{word_of, child_word, HasNode}
use Rattle.node_words.specs.Ancestors.{ancestor_at}
use Rattle.node_words.proofs.Ancestors.{child_depth, ancestor_server}
use Rattle.lines.specs.Line.{HoldsBest}
use Rattle.places.specs.declared.Place.{Place}
use Rattle.table.specs.Table.{line_in, FullTable, ServerLineThere}
use Rattle.table.proofs.Room.{room_sound, stored_node}
use Rattle.table.proofs.Reading.{row_place, row_line}

module _ {file : List ℕ} {allows : ℕ → Bool → Bool} {s : List ℕ} {places : List Place} (r : FullTable file allows places s) where
  pub table_sound : Sound (tree_of file) (demand_of file)
  table_sound = room_sound r.stored.room

  pub table_has_node : {v : ℕ} → v < count_of file → HasNode s v
  table_has_node h = stored_node r.stored h

  -- a first child, as it is read
  pub table_child : {v child : ℕ} → v < count_of file → child ≡ word_of s v child_word → child ≡ first_child (tree_of file) v
  table_child h e = e ∙ r.stored.words.child _ h

  -- where the server has children, they are one link below it
  server_way : 0 < first_child (tree_of file) 0 → (tree_of file).parent (first_child (tree_of file) 0) ≡ 0
      → (0 < depth (tree_of file) (first_child (tree_of file) 0)) × (ancestor_at (tree_of file) (first_child (tree_of file) 0) 0 ≡ 0)
  server_way some p =
      let t = tree_of file in
      let pre = table_sound.preorder in
      (omega (arith, child_depth t pre (first_child t 0) 0 some p), ancestor_server t pre (first_child t 0))

  server_first : word_of s 0 child_word ≡ first_child (tree_of file) 0
  server_first = r.stored.words.child 0 table_sound.some

  -- the line of their row is there
  pub server_there : ServerLineThere places s
  server_there = record {
    node = table_has_node table_sound.some;
    line = rw server_first (row_place r 0 0 (first_child (tree_of file) 0) 0 0 (omega arith) (first_child_stands (tree_of file) 0) server_way);
  }

  -- and holds the least of that row for each count
  pub server_line_lem : {l : List ℕ} → l ≡ line_in places s (word_of s 0 child_word) 0
      → HoldsBest (budget_of file + 1) (best_at (tree_of file) (demand_of file) allows (first_child (tree_of file) 0) 0) l
  server_line_lem f =
      rw (rw server_first at f) (row_line r 0 0 (first_child (tree_of file) 0) 0 0 (omega arith) (first_child_stands (tree_of file) 0) server_way)
