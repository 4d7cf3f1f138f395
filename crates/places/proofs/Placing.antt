-- The places of an accepted file's lines, worked out node after node from its depths and from how many nodes its rows have.
use mathlib.Core.Path.{◌≡◌, sym, ap, ◌∙◌}
use mathlib.Core.List.{List, ◌∷◌, ◌++◌}
use Prim.Native.Nat.{ℕ, zero, suc, ◌+◌, ◌*◌, ◌-◌, ◌≤◌, ◌<◌}
use native.Mathlib.Decide.{ℕ_discrete}
use native.Mathlib.Omega.{arith}
use lib.ListN.{length, length-append, length-drop, length-set, length-take, take, drop, set, get_or}
use lib.Seq.{get_or-take, get_or-drop, get_or-set_other}
use borrow.Rule.Slice.PartMut.{put_mid}
use Rattle.std.proofs.lemmas.List.{get_or_append_left, get_or-append-add}
use Rattle.model.specs.File.{Tree, tree_of, count_of}
use Rattle.model.specs.Tree.{depth}
use Rattle.model.specs.Rules.{scratch_words}
use Rattle.model.proofs.Words.{words_most_lem}
use Rattle.fields.specs.declared.Tree as code
use Rattle.tree_file.specs.Checks.{AcceptedSizes}
use Rattle.tree_file.proofs.Accepted.{sizes_count, sizes_budget, sizes_hold}
use Rattle.best_rows.specs.Rows.{row_size}
use Rattle.best_rows.specs.TreeRows.{row_at}
use Rattle.places.specs.declared.Place.{Place}
use Rattle.places.specs.Places.{width_at, start_at, no_place, start_in, width_in, Places, EntriesAre, width_from, end_from, Placeable, PlacedTo}
use Rattle.places.proofs.Counting.{start_same, start_other, width_same, width_other}
use Rattle.places.proofs.Places.{start_first, start_next, start_later, words_are_end}

-- ---- the nodes but the server, as a part of the list of places

-- the server's place
abbrev pub server : Place
server = record { start = 0; width = 1 }

-- the nodes from 1 on stand one after the other
abbrev pub FromOneOn : ℕ → List Place → List Place → Type 0
FromOneOn n places nodes = (i : ℕ) → suc i < n → get_or places (suc i) no_place ≡ get_or nodes i no_place

module _ (places : List Place) (n : ℕ) where
  -- the places with the server's, and the part of them that is lent for the other nodes
  abbrev whole : List Place
  whole = set places 0 (record { start = start_in places 0; width = 1 })

  abbrev part : List Place
  part = take (n - 1) (drop 1 whole)

  pub part_long : n ≤ length places → length part ≡ n - 1
  part_long long = rw (length-take, length-drop, length-set) (omega arith)

  pub nodes_lent : FromOneOn n places part
  nodes_lent i h =
      sym
      (get_or-take (n - 1) (drop 1 whole) i no_place (omega arith) ∙ get_or-drop 1 whole i no_place ∙ ap (λ (j : ℕ). get_or whole j no_place) (omega arith)
      ∙ get_or-set_other places 0 (suc i) _ no_place (λ z. omega arith))

  -- and once the part comes back
  abbrev rest : List Place
  rest = drop (n - 1) (drop 1 whole)

  front_long : n ≤ length places → 1 ≤ n → length (take 1 whole) ≡ 1
  front_long long some = rw (length-take, length-set) (omega arith)

  module _ (nodes : List Place) (long : n ≤ length places) (some : 1 ≤ n) (same : length nodes ≡ n - 1) where
    pub back_long : n ≤ length (put_mid 1 (n - 1) whole nodes)
    back_long = rw (length-append, length-append, length-take, length-drop, length-drop, length-set) (omega arith)

    pub nodes_back : FromOneOn n (put_mid 1 (n - 1) whole nodes) nodes
    nodes_back i h =
        let at : suc i ≡ length (take 1 whole) + i = omega (arith, front_long long some) in
        rw at (get_or-append-add (take 1 whole) (nodes ++ rest) i no_place ∙ get_or_append_left nodes rest no_place i (omega arith))

    pub server_kept : width_in (put_mid 1 (n - 1) whole nodes) 0 ≡ 1
    server_kept =
        ap (λ q. q.width) (get_or_append_left (take 1 whole) (nodes ++ rest) no_place 0 (omega (arith, front_long long some)) ∙ get_or-take 1 whole 0 no_place (omega arith))
        ∙ width_same places 0 _ (omega arith)

-- ---- node after node

-- the nodes before v have their places, and the lines of v begin at `end`
pub record Placing (file : List ℕ) (sizes : code.Tree) (places : List Place) (v end : ℕ) : Type 0 where
  pub placed : PlacedTo (tree_of file) sizes.budget places v
  pub ends : end ≡ start_at (tree_of file) sizes.budget v

module _ {file : List ℕ} {sizes : code.Tree} (of : AcceptedSizes file sizes) where
  abbrev tree : Tree
  tree = tree_of file

  count : sizes.nodes ≡ count_of file
  count = sizes_count of

  -- behind the last node's lines the words of rule 13 end
  end_words : start_at tree sizes.budget sizes.nodes ≡ scratch_words file
  end_words = rw (count, sizes_budget of) (words_are_end file of.accepted)

  module _ (places nodes : List Place) (same : FromOneOn sizes.nodes places nodes) where
    as_noted : {f : ℕ → ℕ} (part : Place → ℕ) → EntriesAre f (λ x. part (get_or places x no_place)) sizes.nodes
        → (x : ℕ) → 1 ≤ x → x < tree.count → part (get_or (server ∷ nodes) x no_place) ≡ f x
    as_noted part h zero site below = absurd (omega arith)
    as_noted part h (suc i) site below = sym (ap part (same i (omega (arith, count)))) ∙ h (suc i) (omega (arith, count))

    pub placing_begins : EntriesAre (depth tree) (start_in places) sizes.nodes
        → EntriesAre (λ v. row_size (row_at tree v)) (width_in places) sizes.nodes → Placing file sizes (server ∷ nodes) 1 (4 * sizes.nodes)
    unfolding width_at row_at row_size
    placing_begins deep rows =
        record {
          placed = record {
            start = λ x h k. absurd (omega arith);
            width = λ x h. let z : x ≡ 0 = omega arith in rw z (omega arith);
            deep = as_noted (λ q. q.start) deep;
            nodes = as_noted (λ q. q.width) rows;
          };
          ends = rw count (sym (start_first tree sizes.budget));
        }

    start_noted : {v end : ℕ} → Placing file sizes (server ∷ nodes) v end → v ≡ sizes.nodes → (x : ℕ) → 0 < x → x < tree.count
        → start_in places x ≡ start_at tree sizes.budget x
    start_noted all last zero site below = absurd (omega arith)
    start_noted all last (suc i) site below =
        ap (λ q. q.start) (same i (omega (arith, count))) ∙ all.placed.start (suc i) site (omega (arith, count))

    width_noted : {v end : ℕ} → Placing file sizes (server ∷ nodes) v end → v ≡ sizes.nodes → width_in places 0 ≡ 1 → (x : ℕ) → x < tree.count
        → width_in places x ≡ width_at tree sizes.budget x
    width_noted all last one zero below = one ∙ all.placed.width zero (omega (arith, count))
    width_noted all last one (suc i) below =
        ap (λ q. q.width) (same i (omega (arith, count))) ∙ all.placed.width (suc i) (omega (arith, count))

    pub placing_ends : {v end : ℕ} → Placing file sizes (server ∷ nodes) v end → v ≡ sizes.nodes → sizes.nodes ≤ length places → width_in places 0 ≡ 1
        → (end ≡ scratch_words file) × Places tree sizes.budget places
    placing_ends all last long one =
        let few = (sizes_hold of).nodes in (
          all.ends ∙ ap (start_at tree sizes.budget) last ∙ end_words,
          record { long = omega (arith, count); start = start_noted all last; width = width_noted all last one },
        )

  module _ {places : List Place} {v end : ℕ} (so_far : Placing file sizes places v end) (site : 0 < v) (below : v < sizes.nodes) where
    abbrev here : Place
    here = get_or places v no_place

    width_is : width_from sizes.budget here ≡ width_at tree sizes.budget v
    unfolding width_at
    width_is = rw (so_far.placed.nodes v (omega arith) (omega (arith, count)))

    end_is : end_from sizes.budget here end ≡ start_at tree sizes.budget (v + 1)
    end_is =
        rw (so_far.ends, so_far.placed.deep v (omega arith) (omega (arith, count)), width_is)
        (sym (start_next tree sizes.budget site))

    pub placeable : Placeable sizes.budget here end
    placeable =
        record {
          narrow = (sizes_hold of).budget;
          small = omega (arith, end_is, start_later tree sizes.budget {x = v + 1} {y = sizes.nodes} (omega arith), end_words, words_most_lem file of.accepted);
        }

    pub placing_turns : {node : Place} {end' : ℕ} → v < length places → node ≡ record { start = end; width = width_from sizes.budget here }
        → end' ≡ end_from sizes.budget here end → Placing file sizes (set places v node) (v + 1) end'
    placing_turns long m e =
        let node : Place = record { start = end; width = width_from sizes.budget here } in
        rw (m, e) (record {
          placed = record {
            start = λ x h k. elim (ℕ_discrete x v) [
              | yes z ↦ rw z (start_same places v node long ∙ so_far.ends)
              | no z ↦ start_other places v node x z ∙ so_far.placed.start x h (omega arith)
            ];
            width = λ x k. elim (ℕ_discrete x v) [
              | yes z ↦ rw z (width_same places v node long ∙ width_is)
              | no z ↦ width_other places v node x z ∙ so_far.placed.width x (omega arith)
            ];
            deep = λ x h k. start_other places v node x (λ z. omega arith) ∙ so_far.placed.deep x (omega arith) k;
            nodes = λ x h k. width_other places v node x (λ z. omega arith) ∙ so_far.placed.nodes x (omega arith) k;
          };
          ends = end_is;
        })
