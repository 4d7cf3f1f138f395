-- Laws of the pass that writes the serving nodes: a member serves itself, another node has its parent's serving node.
use mathlib.Core.Path.{◌≡◌, refl, sym, ap, ◌∙◌}
use mathlib.Core.Bool.{Bool, true, cond}
use mathlib.Core.List.{List, map}
use Prim.Native.Nat.{ℕ, zero, suc, ◌+◌, ◌≤◌, ◌<◌}
use native.Mathlib.Omega.{arith}
use lib.Dec.{eqb}
use lib.ListN.{length, get_or, set, length-set}
use lib.Seq.{sets, set-set}
use borrow.Author.Tests.{eq-eqb, ne_eqb}
use Rattle.laws.specs.Lists.{range, has}
use Rattle.laws.proofs.Bools.{by_test}
use Rattle.laws.proofs.Stores.{loop_turns}
use Rattle.laws.proofs.Ranges.{entry_stored}
use Rattle.model.specs.File.{Tree, tree_of, demand_of}
use Rattle.model.specs.Rules.{ascends}
use Rattle.model.specs.Bill.{serving}
use Rattle.model.specs.Calls.{serving_nodes}
use Rattle.model.specs.Preorder.{Preorder}
use Rattle.model.specs.Accepted.{Sound}
use Rattle.model.proofs.Routes.{parent_before, by_route}
use Rattle.model.proofs.Intervals.{parent_earlier}
use Rattle.model.proofs.Ascending.{set_ascends}
use Rattle.model.proofs.Nearest.{serving_server, serving_up}
use Rattle.placement.specs.Passes.{members_from, Billable, Serving}
use Rattle.placement.proofs.Members.{all_left}

module _ (t : Tree) (pre : Preorder t) (k : List ℕ) where
  serving_of_lem : (v : ℕ) → 1 ≤ v → serving t k v ≡ cond (has k v) v (serving t k (t.parent v))
  serving_of_lem zero z = absurd (omega arith)
  serving_of_lem (suc i) z = serving_up t pre k i

  serving_no_later : (v : ℕ) → serving t k v ≤ v
  serving_no_later =
      by_route t pre (λ v. serving t k v ≤ v) (omega (arith, serving_server t pre k))
      (λ i h. rw (serving_up t pre k i) (by_test (λ b. cond b (suc i) (serving t k (t.parent (suc i))) ≤ suc i) (has k (suc i))
      (λ _. omega arith) (λ _. omega (arith, parent_before t pre i))))

  -- a node is a member just if it serves itself
  pub member_by_serving : (v : ℕ) → 1 ≤ v → eqb (serving t k v) v ≡ has k v
  member_by_serving v z =
      rw (serving_of_lem v z)
      (by_test (λ b. eqb (cond b v (serving t k (t.parent v))) v ≡ b) (has k v) (λ _. eq-eqb v v refl)
      (λ _. ne_eqb (serving t k (t.parent v)) v (λ e. omega (arith, serving_no_later (t.parent v), parent_earlier t pre v z))))

-- ---- the pass, from a buffer with 0 at node 0

module _ (file k : List ℕ) (n : ℕ) (given : Billable file n k) where
  abbrev t : Tree
  t = tree_of file

  sound : Sound t (demand_of file)
  sound = given.of_file.sound

  all_nodes : n ≡ t.count
  all_nodes = given.of_file.nodes

  in_tree : ascends 0 t.count k ≡ true
  in_tree = set_ascends t k given.of_nodes

  pub pass_begins : (servings : List ℕ) → n ≤ length servings → Serving file n k (set servings 0 0) (set servings 0 0) 1 k
  unfolding range
  pass_begins servings h = record {
    some = omega arith;
    in_file = omega (arith, all_nodes, sound.some);
    kept = refl;
    room = rw (length-set servings 0 0) h;
    still = sym (all_left t.count 0 1 k (omega arith) in_tree);
    written = rw (serving_server t sound.preorder k) (sym (set-set servings 0 0 0));
  }

  module _ (before servings : List ℕ) (v : ℕ) (left : List ℕ) (so_far : Serving file n k before servings v left) (more : v < n) where
    -- the parent has its serving node
    pub pass_parent : (p : ℕ) → p ≡ t.parent v → p < v
    pass_parent p e = omega (arith, parent_earlier t sound.preorder v so_far.some)

    -- the serving node of v, by whether v is a member and by what is written for its parent
    pass_serving : (p x : ℕ) (member : Bool) → p ≡ t.parent v → member ≡ has k v → x ≡ cond member v (get_or servings p 0) → x ≡ serving t k v
    pass_serving p x member e is_member is =
        let read : get_or servings p 0 ≡ serving t k (t.parent v) =
        rw (so_far.written, e) (entry_stored before (serving t k) v (t.parent v) (omega arith) (parent_earlier t sound.preorder v so_far.some)) in
        rw (is_member, read) at is ∙ sym (serving_of_lem t sound.preorder k v so_far.some)

    pub pass_turns : (p x : ℕ) (member : Bool) → p ≡ t.parent v → member ≡ has k v → x ≡ cond member v (get_or servings p 0)
        → {left' : List ℕ} → left' ≡ members_from k (v + 1) → Serving file n k before (set servings v x) (v + 1) left'
    pass_turns p x member e is_member is still = record {
      some = omega arith;
      in_file = omega arith;
      kept = length-set servings v x ∙ so_far.kept;
      room = rw (length-set servings v x) so_far.room;
      still = still;
      written = loop_turns before 0 (serving t k) v so_far.written (omega arith) (pass_serving p x member e is_member is);
    }

  -- node 0 was written twice
  first_twice : (servings : List ℕ) (m : ℕ) → 1 ≤ m
      → sets (set servings 0 0) 0 (map (serving t k) (range 0 m)) ≡ sets servings 0 (map (serving t k) (range 0 m))
  unfolding range
  first_twice servings zero h = absurd (omega arith)
  first_twice servings (suc m) h = ap (λ l. sets l 1 (map (serving t k) (range 1 m))) (set-set servings 0 0 (serving t k 0))

  pub pass_ends : (before servings : List ℕ) (v : ℕ) (left : List ℕ) → Serving file n k (set before 0 0) servings v left → n ≤ v
      → servings ≡ sets before 0 (serving_nodes file k)
  pass_ends before servings v left so_far h =
      let whole : v ≡ t.count = omega (arith, so_far.in_file, all_nodes) in
      so_far.written ∙ first_twice before v so_far.some ∙ ap (λ (m : ℕ). sets before 0 (map (serving t k) (range 0 m))) whole
