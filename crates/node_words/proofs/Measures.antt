-- The pass from the server down: each node's distance and depth from its parent's.
use mathlib.Core.Path.{◌≡◌, sym, ◌∙◌}
use mathlib.Core.List.{List}
use Prim.Native.Nat.{ℕ, zero, suc, ◌+◌, ◌*◌, ◌≤◌, ◌<◌}
use native.Mathlib.Omega.{arith}
use lib.ListN.{set}
use Rattle.laws.specs.Fronts.{FrontOnly}
use Rattle.laws.proofs.Fronts.{front_only_none, front_only_set}
use Rattle.model.specs.File.{Tree, tree_of, demand_of, most_depth, most_length}
use Rattle.model.specs.Tree.{depth, distance}
use Rattle.model.proofs.Routes.{distance_server, distance_up}
use Rattle.model.proofs.Depths.{depth_server, depth_up}
use Rattle.model.proofs.Bounds.{distance_bound}
use Rattle.node_words.specs.Words.{node_words, word_at, distance_word, depth_word, word_of, NodeRoom, SiteRoom, Measured}
use Rattle.node_words.proofs.Words.{with_pair, noted_none, noted_next, room_sound, room_some, room_parent}

stored_front : (s : List ℕ) (n v a b : ℕ) → v < n → FrontOnly (node_words * n) s (with_pair s v distance_word a b)
stored_front s n v a b h =
    front_only_set (node_words * n) (word_at v depth_word) b (omega arith)
    (front_only_set (node_words * n) (word_at v distance_word) a (omega arith) (front_only_none (node_words * n) s))

module _ (file : List ℕ) where
  abbrev t : Tree
  t = tree_of file

  module _ {n : ℕ} {s : List ℕ} where
    -- what the words of a site's parent say of the site
    measured_sums : {v up : ℕ} → SiteRoom file n s v → Measured t s v → up ≡ t.parent v
        → (word_of s up distance_word + t.link_length v ≡ distance t v) × (word_of s up depth_word + 1 ≡ depth t v)
    measured_sums {v = zero} here m e = absurd (omega (arith, here.site))
    measured_sums {v = suc i} {up = up} here m e =
        let pre = (room_sound here.nodes).preorder in
        let first : up < suc i = omega (arith, room_parent here) in
        (omega (arith, m.first up first, rw (← e) at (distance_up t pre i)), omega (arith, m.second up first, rw (← e) at (depth_up t pre i)))

    -- and they are small
    pub measured_small : {v up : ℕ} → SiteRoom file n s v → Measured t s v → up ≡ t.parent v
        → (word_of s up distance_word + t.link_length v ≤ most_length * most_depth) × (word_of s up depth_word + 1 ≤ most_depth)
    measured_small {v = v} here m e =
        let sums = measured_sums here m e in
        let ok = room_sound here.nodes in
        (rw sums.0 (distance_bound t (demand_of file) ok v), rw sums.1 (ok.shallow v))

    -- one node more
    measured_next : {q r : List ℕ} {v a b : ℕ} → NodeRoom file n s → v < n → Measured t s v → a ≡ distance t v → b ≡ depth t v
        → q ≡ set s (word_at v distance_word) a → r ≡ set q (word_at v depth_word) b → Measured t r (v + 1) × FrontOnly (node_words * n) s r
    measured_next {v = v} room h m ea eb eq er =
        rw (er, eq, ea, eb)
        (noted_next distance_word (distance t) (depth t) (omega arith) (omega (arith, room.room)) m, stored_front s n v (distance t v) (depth t v) h)

    pub measured_site : {q r : List ℕ} {v up a b : ℕ} → SiteRoom file n s v → Measured t s v → up ≡ t.parent v
        → a ≡ word_of s up distance_word + t.link_length v → b ≡ word_of s up depth_word + 1
        → q ≡ set s (word_at v distance_word) a → r ≡ set q (word_at v depth_word) b → Measured t r (v + 1) × FrontOnly (node_words * n) s r
    measured_site here m e ea eb = let sums = measured_sums here m e in measured_next here.nodes here.below m (ea ∙ sums.0) (eb ∙ sums.1)

    pub measured_server : {q r : List ℕ} → NodeRoom file n s → q ≡ set s (word_at 0 distance_word) 0 → r ≡ set q (word_at 0 depth_word) 0
        → Measured t r 1 × FrontOnly (node_words * n) s r
    measured_server room =
        measured_next room (room_some room) (noted_none distance_word (distance t) (depth t) s)
        (sym (distance_server t (room_sound room).server)) (sym (depth_server t))
