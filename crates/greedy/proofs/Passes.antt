-- The passes over the nodes: the flow that reaches each node from the last up, and serving distances from a site on.
use mathlib.Core.Path.{◌≡◌, sym, ◌∙◌}
use mathlib.Core.List.{List}
use Prim.Native.Nat.{ℕ, zero, suc, ◌+◌, ◌≤◌, ◌<◌, ◌^◌}
use native.Mathlib.Numerals.{add-one}
use native.Mathlib.Omega.{arith}
use lib.ListN.{set}
use Rattle.model.specs.File.{Tree, Demand, tree_of, demand_of}
use Rattle.model.specs.Bill.{cachable}
use Rattle.model.proofs.Routes.{parent_before}
use Rattle.node_words.specs.Words.{word_at, distance_word, word_of, NodeRoom, SiteRoom}
use Rattle.node_words.proofs.Words.{room_sound, room_some, room_parent}
use Rattle.greedy.specs.Savings.{most_reach, serving_distance, gathered}
use Rattle.greedy.specs.Words.{serving_distance_word, reach_word, mark_word, marked_sites, served_from, Wrote, DistancesStored, PassedFrom, Passes, Gathers}
use Rattle.greedy.proofs.Reaches.{serving_distance_up}
use Rattle.greedy.proofs.Gathered.{gathered_none, gathered_parent, gathered_other, gathered_all, gathered_bound}
use Rattle.greedy.proofs.Words.{wrote_nothing, wrote_none, wrote_at, wrote_then, has_marked}

-- ---- the flow that reaches each node where no site is taken

module _ {file : List ℕ} {n : ℕ} {s : List ℕ} {v : ℕ} (room : SiteRoom file n s v) (sums : PassedFrom file n (v + 1) s) where
  abbrev t : Tree
  t = tree_of file

  abbrev d : Demand
  d = demand_of file

  sum_at : (p : ℕ) → p < n → word_of s p reach_word ≡ gathered t d (suc v) p
  sum_at p h = rw (add-one v) at (sums p h)

  within : {p : ℕ} → p < n → p < t.count
  within h = omega (arith, room.nodes.count)

  -- what reaches a site reaches its parent too
  pub passed_on : {r : List ℕ} {up x : ℕ} → up ≡ t.parent v → x ≡ word_of s up reach_word + word_of s v reach_word
      → r ≡ set s (word_at up reach_word) x → Passes file n v s r
  passed_on {x = x} eu ex er =
      let pre = (room_sound room.nodes).preorder in
      let up = t.parent v in
      let below = room.below in
      let first : up < n = omega (arith, room_parent room) in
      let sum : x ≡ gathered t d v up = omega (
        arith,
        rw eu at ex,
        sum_at up first,
        sum_at v below,
        gathered_all t d pre v v (within below) (omega arith),
        gathered_parent t d pre v (within below),
      ) in
      wrote_at n reach_word (gathered t d v) up n x (omega arith) first room.nodes.room (wrote_none n reach_word (gathered t d v) s) (rw eu at er) sum
      (λ p h other. sum_at p h ∙ sym (gathered_other t d pre v p (within below) other))

  -- the parent is a node, and the sum stays small
  pub passed_small : {up : ℕ} → up ≡ t.parent v → (up < n) × (word_of s up reach_word + word_of s v reach_word < 2 ^ 64)
  passed_small {up} eu =
      let below = room.below in
      let first : up < n = omega (arith, room_parent room) in
      let bound : (p : ℕ) → p < n → gathered t d (suc v) p ≤ most_reach = λ p h. gathered_bound t d (room_sound room.nodes) p v (within h) (within below) in
      (first, omega (arith, sum_at up first, sum_at v below, bound up first, bound v below))

module _ {file : List ℕ} {n : ℕ} {o s : List ℕ} (room : NodeRoom file n o)
    (own : Wrote n reach_word (cachable (demand_of file)) n o s) where
  -- no node is passed yet
  pub pass_begins : (1 ≤ n) × Passes file n n s s
  pass_begins =
      let pre = (room_sound room).preorder in
      (room_some room, wrote_nothing n reach_word _ (λ p h. own.held p h ∙ sym (rw room.count (gathered_none (tree_of file) (demand_of file) pre p))))

  -- all but the server are
  pub pass_ends : {r : List ℕ} {v : ℕ} → (1 ≤ v) × Passes file n v s r → v ≤ 1 → Gathers file n o r
  pass_ends {v = v} p h =
      let pre = (room_sound room).preorder in
      let done : v ≡ 1 = omega (arith, p.0) in
      wrote_then n reach_word _ own
      (record {
        front = p.1.front;
        others = p.1.others;
        held = λ x b. rw done at (p.1.held x b) ∙ gathered_all (tree_of file) (demand_of file) pre x 0 (omega (arith, room.count)) (omega arith);
      })

-- ---- serving distances

-- a marked site's own distance, else its parent's serving distance
pub served_site : {file : List ℕ} {n : ℕ} {s r : List ℕ} {v x : ℕ} → DistancesStored file n s
    → Wrote n serving_distance_word (serving_distance (tree_of file) (marked_sites n s)) v s r → 0 < v → v < n → x ≡ served_from (tree_of file) r v
    → x ≡ serving_distance (tree_of file) (marked_sites n s) v
served_site {v = zero} stored wrote site below e = absurd (omega arith)
served_site {file} {n} {s} {v = suc i} stored wrote site below e =
    let pre = (room_sound stored.room).preorder in
    rw (serving_distance_up (tree_of file) pre (marked_sites n s) i)
    (rw (
      wrote.others (suc i) mark_word (omega arith) (λ q. omega arith),
      ← has_marked n s (suc i) site below,
      wrote.others (suc i) distance_word (omega arith) (λ q. omega arith),
      stored.distances (suc i) below,
      wrote.held ((tree_of file).parent (suc i)) (omega (arith, parent_before (tree_of file) pre i)),
    )
    at e)
