-- What holds of the scratch of an accepted file: the places of its lines, the words of its nodes, and that a line stored keeps both.
use mathlib.Core.Path.{◌≡◌, refl, sym, ap₂}
use mathlib.Core.List.{List}
use Prim.Native.Nat.{ℕ, zero, suc, ◌+◌, ◌*◌, ◌≤◌, ◌<◌}
use native.Mathlib.Omega.{arith}
use lib.ListN.{length, take}
use Rattle.model.specs.File.{tree_of, demand_of, count_of, budget_of}
use Rattle.model.specs.Tree.{depth, distance}
use Rattle.model.specs.Rules.{scratch_words}
use Rattle.model.specs.Accepted.{Sound}
use Rattle.model.proofs.Accepted.{accepted_sound}
use Rattle.fields.specs.declared.Tree as code
use Rattle.tree_file.specs.Checks.{AcceptedSizes}
use Rattle.tree_file.proofs.Accepted.{sizes_budget}
use Rattle.node_words.specs.Words.{node_words, HasNode, NodeRoom}
use Rattle.node_words.proofs.Words.{node_words_same}
use Rattle.best_rows.proofs.Table.{row_size_none}
use Rattle.places.specs.Places.{width_in, width_at, start_at, Places}
use Rattle.places.proofs.Places.{start_first, start_later, words_are_end}
use Rattle.places.specs.declared.Place.{Place}
use Rattle.table.specs.Table.{line_at, InTable, place_of, TableRoom, NodeWordsStored, Client}
use Rattle.table.proofs.Places.{place_within}

-- the empty row's line has one entry
pub width_none : (file : List ℕ) → width_at (tree_of file) (budget_of file) 0 ≡ 1
unfolding width_at
width_none file = omega (arith, row_size_none (tree_of file))

-- a scratch that rule 13 lets pass has room for the table, once the places are noted
pub table_room_lem : {file s : List ℕ} {places : List Place} {sizes : code.Tree} → AcceptedSizes file sizes → scratch_words file ≤ length s
    → Places (tree_of file) sizes.budget places → TableRoom file places s
table_room_lem of room p = record { accepted = of.accepted; noted = rw (sizes_budget of) at p; room = room }

module _ {file s : List ℕ} {places : List Place} (r : TableRoom file places s) where
  pub room_sound : Sound (tree_of file) (demand_of file)
  room_sound = accepted_sound file r.accepted

  -- the scratch that rule 13 asks for ends with the table
  pub room_end : start_at (tree_of file) (budget_of file) (count_of file) ≡ scratch_words file
  room_end = words_are_end file r.accepted

  pub room_nodes : NodeRoom file (count_of file) s
  room_nodes = record {
    accepted = r.accepted;
    count = refl;
    room =
        omega (
          arith,
          r.room,
          room_end,
          start_first (tree_of file) (budget_of file),
          start_later (tree_of file) (budget_of file) {x = 1} {y = count_of file} (omega (arith, room_sound.some)),
        );
  }

  pub room_kept : {l : List ℕ} → length l ≡ length s → TableRoom file places l
  room_kept e = record { accepted = r.accepted; noted = r.noted; room = omega (arith, r.room) }

  -- ---- the places noted

  module _ (x : ℕ) (node : x < count_of file) where
    pub room_width : width_in places x ≡ width_at (tree_of file) (budget_of file) x
    room_width = r.noted.width x node

    room_noted : x < length places
    room_noted = omega (arith, r.noted.long)

  pub room_line : (x a : ℕ) → x < count_of file → line_at places x a ≡ place_of (tree_of file) (budget_of file) x a
  unfolding line_at place_of
  room_line zero a h = refl
  room_line (suc x) a h = ap₂ (λ (start width : ℕ). start + a * width) (r.noted.start (suc x) (omega arith) h) (r.noted.width (suc x) h)

  -- the line of a node is inside
  pub room_fits : {v a : ℕ} → 0 < v → v < count_of file → a < depth (tree_of file) v
      → place_of (tree_of file) (budget_of file) v a + width_at (tree_of file) (budget_of file) v ≤ length s
  room_fits {v} {a} site h above =
      omega (
        arith,
        place_within (tree_of file) (budget_of file) v site a above,
        start_later (tree_of file) (budget_of file) {x = v + 1} {y = count_of file} (omega arith),
        room_end,
        r.room,
      )

  pub room_place : (x a : ℕ) → x < count_of file → (0 < x → a < depth (tree_of file) x) → InTable places s x a
  unfolding place_of
  room_place zero a h above = record {
    noted = room_noted zero h;
    inside = omega (arith, room_line zero a h, room_width zero h, width_none file, room_nodes.room);
  }
  room_place (suc x) a h above = record {
    noted = room_noted (suc x) h;
    inside = omega (arith, room_line (suc x) a h, room_width (suc x) h, room_fits {v = suc x} {a = a} (omega arith) h (above (omega arith)));
  }

module _ {file s : List ℕ} {places : List Place} (r : NodeWordsStored file places s) where
  pub stored_node : {x : ℕ} → x < count_of file → HasNode s x
  stored_node h = omega (arith, (room_nodes r.room).room)

  -- a node and one that can serve it
  pub stored_client : {v u : ℕ} → v < count_of file → u ≤ v → distance (tree_of file) u ≤ distance (tree_of file) v → Client file s v u
  stored_client h k near = record { nodes = room_nodes r.room; words = r.words; node = h; serving = omega arith; nearer = near }

-- the words stand in another list of the same length whose front is the same
pub stored_same : {file s l : List ℕ} {places : List Place} → length l ≡ length s
    → take (node_words * count_of file) l ≡ take (node_words * count_of file) s → NodeWordsStored file places s → NodeWordsStored file places l
stored_same {file} {s = s} {l = l} e f r = record { room = room_kept r.room e; words = node_words_same (tree_of file) s l (sym f) r.words }
