-- The words say what each site saves, so the search finds the site that the greedy rule takes.
use mathlib.Core.Path.{◌≡◌, refl}
use mathlib.Core.Bool.{true, false}
use mathlib.Core.List.{List}
use Prim.Native.Nat.{ℕ, zero, suc, ◌+◌, ◌*◌, ◌-◌, ◌≤◌, ◌<◌}
use native.Mathlib.Nat.{mul_comm, mul-le-mul}
use native.Mathlib.Omega.{arith}
use Rattle.laws.specs.Lists.{has}
use Rattle.laws.specs.FirstGreatest.{FirstGreatest}
use Rattle.laws.proofs.Bools.{not_both, either, neither}
use Rattle.laws.proofs.FirstGreatest.{search_finds, search_passes, search_skips}
use Rattle.model.specs.File.{Tree, Demand, tree_of, demand_of, most_length, most_depth}
use Rattle.model.specs.Tree.{distance}
use Rattle.model.specs.Preorder.{Preorder}
use Rattle.model.proofs.Bounds.{distance_bound}
use Rattle.node_words.specs.Words.{distance_word, word_of}
use Rattle.node_words.proofs.Words.{room_sound, room_some}
use Rattle.std.specs.Prelude.{Option, Some, None}
use Rattle.units.specs.declared.Total.{Total}
use Rattle.greedy.specs.declared.Found.{Found}
use Rattle.greedy.specs.Savings.{most_reach, is_closed, is_passed_over, saving}
use Rattle.greedy.specs.Words.{serving_distance_word, reach_word, marked_sites, saving_from, Current, Weighed, Finds}
use Rattle.greedy.proofs.Reaches.{serving_distance_up, serving_distance_near}
use Rattle.greedy.proofs.Gathered.{reach_bound}

-- ---- the search

-- no site saves
pub none_saves : (t : Tree) (words : List ℕ) {n : ℕ} → 1 ≤ n → ((v : ℕ) → 1 ≤ v → v < n → is_closed t v ≡ false → saving_from words v ≡ 0)
    → FirstGreatest (is_closed t) (saving_from words) n 0 0
none_saves t words some none =
    record {
      below = omega arith;
      held = λ h. absurd (omega arith);
      idle = λ _. refl;
      none_more = λ u a b o. omega (arith, none u a b o);
      earlier_less = λ u a b. absurd (omega arith);
    }

-- what the site found so far saves
abbrev pub saved : Option Found → ℕ
saved (Some x) = x.saving.0
saved None = 0

module _ (t : Tree) (words : List ℕ) {v : ℕ} (some : 1 ≤ v) where
  -- v is open and saves more
  pub finds_more : (found : Option Found) {x : Total} → Finds t words v found → is_closed t v ≡ false → saved found < x.0 → x.0 ≡ saving_from words v
      → Finds t words (v + 1) (Some record { site = v; saving = x })
  finds_more (Some y) so_far is_open more e =
      (omega arith, rw e (search_finds (is_closed t) (saving_from words) v y.site y.saving.0 so_far.1 is_open (omega (arith, more, e))))
  finds_more None none is_open more e =
      (more, rw e (search_finds (is_closed t) (saving_from words) v 0 0 (none_saves t words some none) is_open (omega (arith, more, e))))

  -- v is closed, or saves no more
  pub finds_same : (found : Option Found) → Finds t words v found → (is_closed t v ≡ false → saving_from words v ≤ saved found) → Finds t words (v + 1) found
  finds_same (Some y) so_far no_more = (so_far.0, search_passes (is_closed t) (saving_from words) v y.site y.saving.0 so_far.1 no_more)
  finds_same None none no_more =
      λ u a b o. let first = search_passes (is_closed t) (saving_from words) v 0 0 (none_saves t words some none) no_more in omega (arith, first.none_more u a b o)

-- ---- what a site saves

-- a member serves itself, so a cache there saves nothing
saving_of_member : (t : Tree) (d : Demand) → Preorder t → (k : List ℕ) (v : ℕ) → 1 ≤ v → has k v ≡ true → saving t d k v ≡ 0
unfolding saving
saving_of_member t d pre k zero h m = absurd (omega arith)
saving_of_member t d pre k (suc i) h m =
    let none : distance t (suc i) - distance t (suc i) ≡ 0 = omega arith in
    rw (serving_distance_up t pre k i, m, none) (omega arith)

module _ {file : List ℕ} {n : ℕ} {s : List ℕ} (now : Current file n s) where
  saving_held : (v : ℕ) → v < n → saving_from s v ≡ saving (tree_of file) (demand_of file) (marked_sites n s) v
  unfolding saving
  saving_held v h = rw (now.served v h, now.reached v h, now.stored.distances v h) (mul_comm _ _)

  pub sites_weighed : Weighed n s
  sites_weighed =
      let ok = room_sound now.stored.room in
      record {
        some = room_some now.stored.room;
        room = now.stored.room.room;
        near = λ v h. rw (now.served v h, now.stored.distances v h) (serving_distance_near (tree_of file) ok.preorder (marked_sites n s) v);
        small = λ v h.
            let flow : word_of s v reach_word ≤ most_reach = rw (now.reached v h) (reach_bound (tree_of file) (demand_of file) ok (marked_sites n s) v) in
            let far : word_of s v distance_word - word_of s v serving_distance_word ≤ most_length * most_depth =
            omega (arith, now.stored.distances v h, distance_bound (tree_of file) (demand_of file) ok v) in
            omega (arith, mul-le-mul flow far);
      }

  pub search_finds_site : {site most : ℕ} → FirstGreatest (is_closed (tree_of file)) (saving_from s) n site most
      → FirstGreatest (is_passed_over (tree_of file) (marked_sites n s)) (saving (tree_of file) (demand_of file) (marked_sites n s)) n site most
  search_finds_site =
      let t = tree_of file in
      let k = marked_sites n s in
      search_skips (is_closed t) (is_passed_over t k) (saving_from s) (saving t (demand_of file) k) n _ _ (λ v _ h. saving_held v h)
      (λ v h. (neither (has k v) (is_closed t v) h).1)
      (λ v h _ l p. saving_of_member t (demand_of file) (room_sound now.stored.room).preorder k v h (either (has k v ≡ true) (has k v) (is_closed t v) (λ e. e) (λ e. absurd (not_both e l)) p))
