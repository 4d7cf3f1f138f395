-- Laws of the climb from a node to the server, by the parents of the file: each node met serves it from above.
use mathlib.Core.Path.{◌≡◌, sym, ap, ◌∙◌}
use mathlib.Core.List.{List}
use Prim.Native.Nat.{ℕ, suc, ◌-◌, ◌≤◌, ◌<◌}
use native.Mathlib.Omega.{arith}
use Rattle.model.specs.File.{tree_of, count_of}
use Rattle.model.specs.Tree.{depth}
use Rattle.fields.specs.Table.{InFile}
use Rattle.node_words.specs.Ancestors.{ancestor_at}
use Rattle.node_words.proofs.Words.{room_record}
use Rattle.node_words.proofs.Ancestors.{ancestor_self, ancestor_before, ancestor_up}
use Rattle.places.specs.declared.Place.{Place}
use Rattle.table.specs.Table.{TableRoom, Served}
use Rattle.table.proofs.Room.{room_sound, room_nodes}

module _ {file s : List ℕ} {places : List Place} {v : ℕ} (r : TableRoom file places s) (node : v < count_of file) where
  -- it begins at v itself
  pub climb_begins : {a : ℕ} → a ≡ depth (tree_of file) v → v ≡ ancestor_at (tree_of file) v a
  climb_begins e = sym (ap (ancestor_at (tree_of file) v) e ∙ ancestor_self (tree_of file) (room_sound r).preorder v)

  -- the node reached has its record in the file
  pub climb_record : {a u : ℕ} → a ≤ depth (tree_of file) v → u ≡ ancestor_at (tree_of file) v a → InFile file u
  climb_record {a} h e = room_record (room_nodes r) (omega (arith, ancestor_before (tree_of file) (room_sound r).preorder v a h))

  -- one link up is the next node that serves v
  pub climb_up : {a u up : ℕ} → 0 < v → 0 < a → a ≤ depth (tree_of file) v → u ≡ ancestor_at (tree_of file) v a → up ≡ (tree_of file).parent u
      → Served (tree_of file) v (a - 1) up
  climb_up {a} site some h e p =
      let next : a ≡ suc (a - 1) = omega arith in
      let above : a - 1 < depth (tree_of file) v = omega arith in
      record {
        site = site;
        node = node;
        above = above;
        ancestor = p ∙ ap (tree_of file).parent (e ∙ ap (ancestor_at (tree_of file) v) next) ∙ ancestor_up (tree_of file) (room_sound r).preorder v (a - 1) above;
      }
