-- Laws of a set with one node more, and with more nodes.
use mathlib.Core.Path.{◌≡◌, refl, sym, ap, ◌∙◌}
use mathlib.Core.Bool.{Bool, true, false, cond, ◌||◌, or_assoc, or_comm, or-true}
use mathlib.Core.List.{List, [], ◌∷◌}
use Prim.Native.Nat.{ℕ, suc, ◌+◌, ◌≤◌, ◌<◌}
use native.Mathlib.Omega.{arith}
use lib.Dec.{ltb, eqb}
use lib.ListN.{length}
use borrow.Author.Tests.{ltb-true, ltb-false, eqb-true}
use Rattle.laws.specs.Lists.{has, how_many, bit}
use Rattle.laws.proofs.Bools.{by_test, either}
use Rattle.laws.proofs.Lists.{lacks_head, lacks_tail}
use Rattle.model.specs.File.{Tree}
use Rattle.model.specs.Rules.{ascends, is_set}
use Rattle.model.specs.Greedy.{with_node, with_nodes}
use Rattle.model.proofs.Ascending.{ascends_cons, ascends_lower, set_said_lem}

-- with a node that it lacks it still ascends
pub ascends_with_node : (n a v : ℕ) (k : List ℕ) → a < v → v < n → has k v ≡ false → ascends a n k ≡ true → ascends a n (with_node v k) ≡ true
unfolding with_node ascends
ascends_with_node n a v [] above below lacks h = (ascends_cons n a v []).1 (above, below, refl)
ascends_with_node n a v (u ∷ us) above below lacks h =
    let parts = (ascends_cons n a u us).0 h in
    let other = lacks_head u v us lacks in
    let rest : u < v → ascends u n (with_node v us) ≡ true = λ less. ascends_with_node n u v us less below (lacks_tail u v us lacks) parts.2 in
    by_test (λ b. ascends a n (cond b (v ∷ u ∷ us) (u ∷ with_node v us)) ≡ true) (ltb v u)
    (λ e. (ascends_cons n a v (u ∷ us)).1 (above, below, (ascends_cons n v u us).1 (ltb-true v u e, parts.1, parts.2)))
    (λ e. (ascends_cons n a u (with_node v us)).1 (parts.0, parts.1, rest (omega (arith, ltb-false))))

pub has_with_node : (v u : ℕ) (k : List ℕ) → has (with_node v k) u ≡ (eqb v u || has k u)
unfolding with_node has
has_with_node v u [] = refl
has_with_node v u (x ∷ xs) =
    by_test (λ b. has (cond b (v ∷ x ∷ xs) (x ∷ with_node v xs)) u ≡ (eqb v u || (eqb x u || has xs u))) (ltb v x) (λ _. refl)
    (λ _. rw (has_with_node v u xs, ← or_assoc (eqb x u), or_comm (eqb x u) (eqb v u), or_assoc))

-- and is a set, if it is an open site's
pub with_node_is_set : (t : Tree) (v : ℕ) (k : List ℕ) → 1 ≤ v → v < t.count → t.is_open v ≡ true → has k v ≡ false → is_set t k ≡ true → is_set t (with_node v k) ≡ true
with_node_is_set t v k above below here lacks h =
    let said = (set_said_lem t k).0 h in
    (set_said_lem t (with_node v k)).1 (
      ascends_with_node t.count 0 v k above below lacks said.0,
      λ u m. either (t.is_open u ≡ true) (eqb v u) (has k u) (λ e. rw (eqb-true v u e) at here) (said.1 u) (sym (has_with_node v u k) ∙ m),
    )

-- without a node that it has it still ascends
ascends_without_node : (n a v : ℕ) (k : List ℕ) → ascends a n (with_node v k) ≡ true → ascends a n k ≡ true
unfolding with_node ascends
ascends_without_node n a v [] = λ _. refl
ascends_without_node n a v (u ∷ us) =
    by_test (λ b. ascends a n (cond b (v ∷ u ∷ us) (u ∷ with_node v us)) ≡ true → ascends a n (u ∷ us) ≡ true) (ltb v u)
    (λ _ h. let p = (ascends_cons n a v (u ∷ us)).0 h in ascends_lower n a v (u ∷ us) (omega arith) p.2)
    (λ _ h. let p = (ascends_cons n a u (with_node v us)).0 h in (ascends_cons n a u us).1 (p.0, p.1, ascends_without_node n u v us p.2))

-- and is a set, if it was one
pub without_node_is_set : (t : Tree) (v : ℕ) (k : List ℕ) → is_set t (with_node v k) ≡ true → is_set t k ≡ true
without_node_is_set t v k h =
    let said = (set_said_lem t (with_node v k)).0 h in
    (set_said_lem t k).1 (ascends_without_node t.count 0 v k said.0, λ u m. said.1 u (rw (has_with_node v u k, m, or-true)))

pub length_with_node : (v : ℕ) (k : List ℕ) → length (with_node v k) ≡ suc (length k)
unfolding with_node
length_with_node v [] = refl
length_with_node v (u ∷ us) =
    by_test (λ b. length (cond b (v ∷ u ∷ us) (u ∷ with_node v us)) ≡ suc (suc (length us))) (ltb v u) (λ _. refl)
    (λ _. ap suc (length_with_node v us))

-- it has one more that passes a test, if the node passes
pub how_many_with_node : (p : ℕ → Bool) (v : ℕ) (k : List ℕ) → how_many p (with_node v k) ≡ how_many p k + bit (p v)
unfolding with_node how_many
how_many_with_node p v [] = omega arith
how_many_with_node p v (u ∷ us) =
    by_test (λ b. how_many p (cond b (v ∷ u ∷ us) (u ∷ with_node v us)) ≡ bit (p u) + how_many p us + bit (p v)) (ltb v u)
    (λ _. omega arith) (λ _. omega (arith, how_many_with_node p v us))

pub length_with_nodes : (k vs : List ℕ) → length (with_nodes k vs) ≡ length k + length vs
unfolding with_nodes
length_with_nodes k [] = omega arith
length_with_nodes k (v ∷ vs) = omega (arith, length_with_nodes (with_node v k) vs, length_with_node v k)

pub has_with_nodes : (k vs : List ℕ) (u : ℕ) → has (with_nodes k vs) u ≡ (has vs u || has k u)
unfolding with_nodes has
has_with_nodes k [] u = refl
has_with_nodes k (v ∷ vs) u =
    rw (has_with_nodes (with_node v k) vs u, has_with_node v u k, ← or_assoc (has vs u), or_comm (has vs u) (eqb v u))
