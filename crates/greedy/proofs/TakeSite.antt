-- A site is taken: what reaches it leaves the nodes above it, it is marked, and the nodes from it on are served anew.
use mathlib.Core.Path.{◌≡◌, refl, sym, ap, ◌∙◌}
use mathlib.Core.Bool.{true, false, cond}
use mathlib.Core.List.{List}
use Prim.Native.Nat.{ℕ, ◌+◌, ◌-◌, ◌≤◌, ◌<◌}
use native.Mathlib.Decide.{ℕ_discrete, dec_lt}
use native.Mathlib.Omega.{arith}
use lib.Dec.{leb}
use lib.ListN.{set}
use borrow.Author.Tests.{le-leb, lt-leb, leb-true, eq-eqb, ne_eqb}
use Rattle.laws.proofs.Bools.{by_test}
use Rattle.laws.proofs.Fronts.{front_only_then}
use Rattle.model.specs.File.{Tree, Demand, tree_of, demand_of}
use Rattle.model.specs.Greedy.{with_node}
use Rattle.model.specs.Preorder.{Preorder}
use Rattle.node_words.specs.Words.{word_at, word_of, SiteRoom}
use Rattle.node_words.proofs.Words.{room_sound, room_parent, room_kept}
use Rattle.greedy.specs.Savings.{reaches, reach}
use Rattle.greedy.specs.Words.{serving_distance_word, reach_word, mark_word, marked_sites, Wrote, DistancesStored, Current, Free, Relieves, ServedTo, Serves, SiteTaken}
use Rattle.greedy.proofs.Reaches.{reaches_self, reaches_before}
use Rattle.greedy.proofs.OneMore.{served_before, member_ends, parent_next, reach_same, reach_moves}
use Rattle.greedy.proofs.Words.{wrote_nothing, wrote_none, wrote_at, marks_kept, has_marked, marked_more, stored_kept}

-- ---- the nodes above

module _ (t : Tree) (d : Demand) (k : List ℕ) (x : ℕ) where
  -- what is at u when the way up from x is at v: what reaches u with x taken too from v on, without it before
  abbrev left_at : ℕ → ℕ → ℕ
  left_at v u = cond (leb v u) (reach t d (with_node x k) u) (reach t d k u)

  left_from : (v u : ℕ) → v ≤ u → left_at v u ≡ reach t d (with_node x k) u
  left_from v u h = rw (le-leb v u h)

  left_before : (v u : ℕ) → u < v → left_at v u ≡ reach t d k u
  left_before v u h = rw (lt-leb v u h)

module _ (t : Tree) (d : Demand) (pre : Preorder t) (k : List ℕ) (x : ℕ) (site : 0 < x) where
  -- a node that is not on the way keeps what reaches it
  kept_aside : (u : ℕ) → (u ≡ x → ⊥) → reaches t k u x ≡ false → reach t d k u ≡ reach t d (with_node x k) u
  kept_aside u other off = (rw off at (reach_moves t d pre k x u site other)) ∙ omega arith

  kept_later : (u : ℕ) → x ≤ u → reach t d k u ≡ reach t d (with_node x k) u
  kept_later u h =
      elim (ℕ_discrete u x) [
        | yes e ↦ rw e (sym (reach_same t d pre k x))
        | no e ↦ kept_aside u e (reaches_before t pre k u x (omega arith))
      ]

-- the way up from x is at v, which what reaches x reaches too
pub record Relieving (file : List ℕ) (n x : ℕ) (s r : List ℕ) (v : ℕ) : Type 0 where
  pub now : Current file n s
  pub site : 0 < x
  pub below : x < n
  pub up_to : v ≤ x
  pub reached : reaches (tree_of file) (marked_sites n s) v x ≡ true
  pub left : Wrote n reach_word (left_at (tree_of file) (demand_of file) (marked_sites n s) x v) n s r

pub relieve_begins : {file : List ℕ} {n x : ℕ} {s : List ℕ} → Current file n s → 0 < x → x < n → Relieving file n x s s x
relieve_begins {file} {n} {x} {s} now site below =
    let t = tree_of file in
    let d = demand_of file in
    let pre = (room_sound now.stored.room).preorder in
    record {
      now = now;
      site = site;
      below = below;
      up_to = omega arith;
      reached = reaches_self t pre (marked_sites n s) x;
      left = wrote_nothing n reach_word _ (λ u h. now.reached u h
          ∙ by_test (λ b. reach t d (marked_sites n s) u ≡ cond b (reach t d (with_node x (marked_sites n s)) u) (reach t d (marked_sites n s) u)) (leb x u)
          (λ e. kept_later t d pre (marked_sites n s) x site u (leb-true x u e)) (λ _. refl));
    }

module _ {file : List ℕ} {n x : ℕ} {s r : List ℕ} {v : ℕ} (way : Relieving file n x s r v) where
  abbrev t : Tree
  t = tree_of file

  abbrev d : Demand
  d = demand_of file

  -- the sites taken so far
  abbrev k : List ℕ
  k = marked_sites n s

  pre : Preorder t
  pre = (room_sound way.now.stored.room).preorder

  mark_kept : word_of r v mark_word ≡ word_of s v mark_word
  mark_kept = way.left.others v mark_word (omega arith) (λ e. omega arith)

  pub relieve_site : 0 < v → SiteRoom file n r v
  relieve_site h = record { nodes = room_kept way.now.stored.room way.left.front; site = h; below = omega (arith, way.up_to, way.below) }

  -- a marked site ends the way
  pub relieve_stops : 0 < v → word_of r v mark_word ≡ 1 → Relieves file n x s r
  relieve_stops h m =
      let member = has_marked n s v h (relieve_site h).below ∙ eq-eqb _ 1 (sym mark_kept ∙ m) in
      record {
        front = way.left.front;
        others = way.left.others;
        held = λ u l. way.left.held u l ∙ elim (dec_lt u v) [
          | yes b ↦ left_before t d k x v u b
              ∙ kept_aside t d pre k x way.site u (λ e. omega (arith, way.up_to)) (member_ends t pre k x u v b way.reached member)
          | no b ↦ left_from t d k x v u (omega arith)
        ];
      }

  -- and so does the server
  pub relieve_ends : v ≡ 0 → Relieves file n x s r
  relieve_ends z =
      record {
        front = way.left.front;
        others = way.left.others;
        held = λ u l. way.left.held u l ∙ left_from t d k x v u (omega arith);
      }

  module _ (h : 0 < v) (unmarked : word_of r v mark_word ≡ 1 → ⊥) {up : ℕ} (eu : up ≡ t.parent v) where
    up_before : up < v
    up_before = omega (arith, room_parent (relieve_site h))

    on_up : (u : ℕ) → u < v → reaches t k u x ≡ reaches t k u up
    on_up u b =
        let outside = has_marked n s v h (relieve_site h).below ∙ ne_eqb _ 1 (λ e. unmarked (mark_kept ∙ e)) in
        rw eu (parent_next t pre k x u v b way.reached outside)

    -- what reaches x reaches the parent, and leaves it
    up_reached : reaches t k up x ≡ true
    up_reached = on_up up up_before ∙ reaches_self t pre k up

    up_loses : reach t d k up ≡ reach t d (with_node x k) up + reach t d k x
    up_loses = rw up_reached at (reach_moves t d pre k x up way.site (λ e. omega (arith, up_before, way.up_to)))

    up_holds : word_of r up reach_word ≡ reach t d k up
    up_holds = way.left.held up (omega (arith, up_before, way.up_to, way.below)) ∙ left_before t d k x v up up_before

    pub relieve_fits : {flow : ℕ} → flow ≡ word_of s x reach_word → flow ≤ word_of r up reach_word
    relieve_fits e = omega (arith, way.now.reached x way.below, up_holds, up_loses)

    pub relieve_turns : {l : List ℕ} {flow y : ℕ} → flow ≡ word_of s x reach_word → y ≡ word_of r up reach_word - flow
        → l ≡ set r (word_at up reach_word) y → Relieving file n x s l up
    relieve_turns {y = y} ef ey el =
        let here : y ≡ left_at t d k x up up =
        omega (arith, way.now.reached x way.below, up_holds, up_loses, left_from t d k x up up (omega arith)) in
        record {
          now = way.now;
          site = way.site;
          below = way.below;
          up_to = omega (arith, up_before, way.up_to);
          reached = up_reached;
          left = wrote_at n reach_word (left_at t d k x up) up n y (omega arith) (omega (arith, up_before, way.up_to, way.below))
              way.now.stored.room.room way.left el here
              (λ u l other. way.left.held u l ∙ elim (dec_lt u up) [
                | yes b ↦ left_before t d k x v u (omega (arith, up_before)) ∙ sym (left_before t d k x up u b)
                | no b ↦ elim (dec_lt u v) [
                  | yes c ↦ left_before t d k x v u c
                      ∙ kept_aside t d pre k x way.site u (λ e. omega (arith, way.up_to)) (on_up u c ∙ reaches_before t pre k u up (omega arith))
                      ∙ sym (left_from t d k x up u (omega arith))
                  | no c ↦ left_from t d k x v u (omega arith) ∙ sym (left_from t d k x up u (omega arith))
                ]
              ]);
        }

-- ---- the words once it is taken

module _ {file : List ℕ} {n x : ℕ} {s r l : List ℕ} (now : Current file n s) (free : Free n x s) (relieved : Relieves file n x s r)
    (el : l ≡ set r (word_at x mark_word) 1) where
  stored : Wrote n mark_word (λ _. 1) 0 r l
  stored =
      wrote_at n mark_word (λ _. 1) x 0 1 (omega arith) free.below (omega (arith, now.stored.room.room, relieved.front.long))
      (wrote_none n mark_word (λ _. 1) r) el refl (λ u less. absurd (omega arith))

  marks_more : marked_sites n l ≡ with_node x (marked_sites n s)
  marks_more =
      let same = marks_kept n (λ e. omega arith) relieved in
      rw el (marked_more n r x (omega (arith, now.stored.room.room, relieved.front.long)) free.below free.site (rw same free.outside))
      ∙ ap (with_node x) same

  pub marked_distances : DistancesStored file n l
  marked_distances = stored_kept (λ e. omega arith) (stored_kept (λ e. omega arith) now.stored relieved) stored

  -- the nodes before it are served as before
  pub marked_served : ServedTo file n x l
  marked_served u h =
      rw (marks_more, served_before (tree_of file) (room_sound now.stored.room).preorder (marked_sites n s) x u h)
      (stored.others u serving_distance_word (omega arith) (λ e. omega arith)
      ∙ relieved.others u serving_distance_word (omega arith) (λ e. omega arith)
      ∙ now.served u (omega (arith, free.below)))

  pub site_taken : {w : List ℕ} → Serves file n l w → SiteTaken file n x s w
  site_taken serves =
      let same = marks_kept n (λ e. omega arith) serves in
      record {
        current = record {
          stored = stored_kept (λ e. omega arith) marked_distances serves;
          served = λ u h. rw same (serves.held u h);
          reached = λ u h. rw (same, marks_more)
              (serves.others u reach_word (omega arith) (λ e. omega arith)
              ∙ stored.others u reach_word (omega arith) (λ e. omega arith)
              ∙ relieved.held u h);
        };
        marks = same ∙ marks_more;
        front = front_only_then _ relieved.front (front_only_then _ stored.front serves.front);
      }
