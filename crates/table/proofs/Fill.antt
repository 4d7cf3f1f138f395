-- Laws of how the table is filled: before the first line, one line more, one node more, and the whole table.
use mathlib.Core.Path.{◌≡◌}
use mathlib.Core.Bool.{Bool}
use mathlib.Core.List.{List}
use Prim.Native.Nat.{ℕ, ◌+◌, ◌*◌, ◌-◌, ◌<◌}
use native.Mathlib.Decide.{ℕ_discrete}
use native.Mathlib.Omega.{arith}
use lib.Seq.{sets}
use Rattle.laws.specs.Fronts.{FrontOnly}
use Rattle.laws.proofs.Fronts.{front_only_none, front_only_then, front_only_wider}
use Rattle.model.specs.File.{tree_of, demand_of, count_of, budget_of}
use Rattle.model.specs.Tree.{depth}
use Rattle.model.specs.Rules.{scratch_words}
use Rattle.node_words.specs.Words.{node_words, NodeWords}
use Rattle.places.specs.Places.{start_at}
use Rattle.places.proofs.Places.{start_first, start_later}
use Rattle.places.specs.declared.Place.{Place}
use Rattle.table.specs.Table.{place_of, line_for, FilledFrom, TableRoom, NodeWordsStored, TableFrom, LinesFilled, Served}
use Rattle.table.proofs.Places.{width_some, place_first, place_last, place_from, place_within, stored_line, other_line, words_stay, behind_stays}
use Rattle.table.proofs.Lines.{length_line_for}
use Rattle.table.proofs.Room.{room_sound, room_end, room_fits, room_kept, stored_same}

-- ---- the words before the lines

module _ {file : List ℕ} {places : List Place} where
  pub words_stored : {s l : List ℕ} → TableRoom file places s → NodeWords (tree_of file) l → FrontOnly (node_words * count_of file) s l
      → NodeWordsStored file places l
  words_stored r w f = record { room = room_kept r f.long; words = w }

  pub words_front : {s l : List ℕ} → TableRoom file places s → FrontOnly (node_words * count_of file) s l → FrontOnly (scratch_words file) s l
  words_front r f =
      front_only_wider (omega (
        arith,
        room_end r,
        start_first (tree_of file) (budget_of file),
        start_later (tree_of file) (budget_of file) {x = 1} {y = count_of file} (omega (arith, (room_sound r).some)),
      )) f

module _ {file : List ℕ} {allows : ℕ → Bool → Bool} {places : List Place} where
  -- with them the table is filled from its end on
  pub table_begins : {s : List ℕ} → NodeWordsStored file places s
      → TableFrom file allows places s (start_at (tree_of file) (budget_of file) (count_of file))
  unfolding FilledFrom
  table_begins r = record {
    stored = r;
    lines = λ x a site h above later.
        let t = tree_of file in
        let k = budget_of file in
        absurd (omega (arith, place_within t k x site a above, start_later t k {x = x + 1} {y = count_of file} (omega arith), width_some t k x));
  }

  -- ---- one line more

  pub line_filled : {v a u : ℕ} {s l : List ℕ} → TableFrom file allows places s (place_of (tree_of file) (budget_of file) v (a + 1))
      → Served (tree_of file) v a u
      → l ≡ sets s (place_of (tree_of file) (budget_of file) v a) (line_for (tree_of file) (demand_of file) allows (budget_of file) v a)
      → LinesFilled file allows places (place_of (tree_of file) (budget_of file) v a) s l
  unfolding FilledFrom
  line_filled {v} {a} {u} {s} {l} r at e =
      let t = tree_of file in
      let k = budget_of file in
      let new = line_for t (demand_of file) allows k v a in
      let long = length_line_for t (demand_of file) allows k v a in
      let front = behind_stays t k s new v a at.site at.above long at.node in
      rw e (record {
        table = record {
          stored = stored_same front.long (words_stay t k s new v a at.site at.above long) r.stored;
          lines = λ x b some h deep later.
              elim (ℕ_discrete x v) [
                | yes p ↦
                    elim (ℕ_discrete b a) [
                      | yes q ↦ rw (p, q) (stored_line t k s new v a at.site at.above long (room_fits r.stored.room at.site at.node at.above))
                      | no q ↦ let other = other_line t k s new v a at.site at.above long x b some deep later (λ z. q z.1) in
                          rw other.1 (r.lines x b some h deep other.0)
                    ]
                | no p ↦ let other = other_line t k s new v a at.site at.above long x b some deep later (λ z. p z.0) in
                    rw other.1 (r.lines x b some h deep other.0)
              ];
        };
        front = rw (room_end r.stored.room) at front;
      })

  -- ---- one node more

  -- before the first line of node v the lines are filled from where those of the next node begin
  pub node_begins : {v : ℕ} {s : List ℕ} → 0 < v → TableFrom file allows places s (start_at (tree_of file) (budget_of file) (v + 1))
      → TableFrom file allows places s (place_of (tree_of file) (budget_of file) v (depth (tree_of file) v))
  node_begins {v} site r = rw (place_last (tree_of file) (budget_of file) v site) r

  -- and after its last one from where its own begin
  pub node_ends : {v : ℕ} {s l : List ℕ} → 0 < v → LinesFilled file allows places (place_of (tree_of file) (budget_of file) v 0) s l
      → LinesFilled file allows places (start_at (tree_of file) (budget_of file) v) s l
  node_ends {v} site m = rw (place_first (tree_of file) (budget_of file) v site) at m

  pub next_line : (v : ℕ) {a : ℕ} {s : List ℕ} → 0 < a → TableFrom file allows places s (place_of (tree_of file) (budget_of file) v a)
      → TableFrom file allows places s (place_of (tree_of file) (budget_of file) v (a - 1 + 1))
  next_line v {a} h r = let e : a - 1 + 1 ≡ a = omega arith in rw e r

  pub next_node : {v : ℕ} {s : List ℕ} → 0 < v → TableFrom file allows places s (start_at (tree_of file) (budget_of file) v)
      → TableFrom file allows places s (start_at (tree_of file) (budget_of file) (v - 1 + 1))
  next_node {v} h r = let e : v - 1 + 1 ≡ v = omega arith in rw e r

  -- node 1 is the first that has a line
  pub table_whole : {s l : List ℕ} → LinesFilled file allows places (start_at (tree_of file) (budget_of file) 1) s l → LinesFilled file allows places 0 s l
  unfolding FilledFrom
  table_whole m = record {
    table = record {
      stored = m.table.stored;
      lines = λ x a site h above _.
          let t = tree_of file in
          let k = budget_of file in
          m.table.lines x a site h above (omega (arith, start_later t k {x = 1} {y = x} (omega arith), place_from t k x site a));
    };
    front = m.front;
  }

  -- ---- one after the other

  pub filled_none : {i : ℕ} {s : List ℕ} → TableFrom file allows places s i → LinesFilled file allows places i s s
  filled_none r = record { table = r; front = front_only_none _ _ }

  pub filled_then : {i j : ℕ} {s r l : List ℕ} → LinesFilled file allows places i s r → LinesFilled file allows places j r l
      → LinesFilled file allows places j s l
  filled_then m n = record { table = n.table; front = front_only_then _ m.front n.front }
