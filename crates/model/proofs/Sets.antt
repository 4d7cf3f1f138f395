-- The enumeration has exactly the sets of at most b nodes: the ascending lists of open sites.
use mathlib.Core.Path.{◌≡◌, refl, sym, ap, ◌∙◌}
use mathlib.Core.Bool.{true}
use mathlib.Core.List.Memᴰ
use mathlib.Core.List.{List, [], ◌∷◌, cons≢nil, Memᴰ}
use mathlib.Core.Logic.{◌↔◌, ◌⊎◌, inl, inr}
use Prim.Native.Nat.{ℕ, zero, suc, ◌-◌, ◌≤◌, ◌<◌}
use native.Mathlib.Decide.{ℕ_discrete}
use native.Mathlib.Omega.{arith}
use lib.ListN.{length}
use Rattle.laws.specs.Lists.{has}
use Rattle.laws.proofs.Bools.{both}
use Rattle.laws.proofs.Lists.{has_cases, has_none, has_head, has_tail, has_other, in_range, has_those, map_has, in_map}
use Rattle.model.specs.File.{Tree}
use Rattle.model.specs.Tree.{sites, open_sites}
use Rattle.model.specs.Rules.{ascends, is_set}
use Rattle.model.specs.Plan.{sets_of, all_sets}
use Rattle.model.proofs.Ascending.{ascends_cons, ascends_lower, ascends_bounds, ascends_range, ascends_those, set_said_lem}

-- K ascends from above a on, below n, and has at most b nodes, all of them of the list
abbrev Of : ℕ → ℕ → ℕ → List ℕ → List ℕ → Type 0
Of n a b l k = (ascends a n k ≡ true) × ((v : ℕ) → has k v ≡ true → has l v ≡ true) × (length k ≤ b)

-- where there is no budget or no node, the empty set is the only one
none_said : (n a b : ℕ) (l k : List ℕ) → ((v : ℕ) → has l v ≡ true → 1 ≤ b → ⊥) → Memᴰ k ([] ∷ []) ↔ Of n a b l k
unfolding ascends
none_said n a b l [] none = (λ _. (refl, λ v m. absurd (has_none v m), omega arith), λ _. Memᴰ.head refl)
none_said n a b l (v ∷ k) none = (
  λ i. absurd (cons≢nil (Memᴰ.eq_of_singleton i)),
  λ h. absurd (none v (h.1 v (has_head v k)) (omega (arith, h.2))),
)

module _ (n a b v : ℕ) (vs : List ℕ) (h : ascends a n (v ∷ vs) ≡ true) where
  first : (a < v) × (v < n) × (ascends v n vs ≡ true)
  first = (ascends_cons n a v vs).0 h

  -- those of the later nodes of an ascending list are of all its nodes
  of_more : (k : List ℕ) → Of n v b vs k → Of n a b (v ∷ vs) k
  of_more k o = (ascends_lower n a v k (omega (arith, first.0)) o.0, λ u m. has_tail v u vs (o.1 u m), o.2)

  -- and so are those with its first node
  of_first : (k : List ℕ) → Of n v b vs k → Of n a (suc b) (v ∷ vs) (v ∷ k)
  of_first k o = (
    (ascends_cons n a v k).1 (first.0, first.1, o.0),
    λ u. has_cases (has (v ∷ vs) u ≡ true) v u k (λ e. rw e (has_head u vs)) (λ m. has_tail v u vs (o.1 u m)),
    omega (arith, o.2),
  )

  -- a node of the list above v is one of the later nodes
  is_later : (u : ℕ) → v < u → has (v ∷ vs) u ≡ true → has vs u ≡ true
  is_later u l m = sym (has_other v u vs (λ e. omega arith)) ∙ m

  -- K has the first node, or is of the later ones
  of_cases : (k : List ℕ) → Of n a b (v ∷ vs) k → Of n v b vs k ⊎ ((l : List ℕ) × (k ≡ v ∷ l) × (ascends v n l ≡ true) × ((u : ℕ) → has l u ≡ true → has vs u ≡ true))
  unfolding ascends
  of_cases [] o = inl (refl, λ u m. absurd (has_none u m), o.2)
  of_cases (u ∷ us) o =
      let parts = (ascends_cons n a u us).0 o.0 in
      elim (ℕ_discrete u v) [
        | yes e ↦ inr (us, rw e, rw e at parts.2, λ w m. is_later w (omega (arith, ascends_bounds n u w us parts.2 m)) (o.1 w (has_tail u w us m)))
        | no e ↦
            let here = has_cases (has vs u ≡ true) v u vs (λ s. absurd (e (sym s))) (λ m. m) (o.1 u (has_head u us)) in
            let above = (ascends_bounds n v u vs first.2 here).0 in
            let up = (ascends_cons n v u us).1 (above, parts.1, parts.2) in
            inl (up, λ w m. is_later w (ascends_bounds n v w (u ∷ us) up m).0 (o.1 w m), o.2)
      ]

-- the sets of at most b of the nodes of an ascending list
sets_said : (n a b : ℕ) (l k : List ℕ) → ascends a n l ≡ true → Memᴰ k (sets_of b l) ↔ Of n a b l k
unfolding sets_of
sets_said n a zero l k h = none_said n a zero l k (λ v m z. omega arith)
sets_said n a (suc b) [] k h = none_said n a (suc b) [] k (λ v m _. has_none v m)
sets_said n a (suc b) (v ∷ vs) k h =
    let later = (first n a b v vs h).2 in
    let without = sets_said n v (suc b) vs k later in (
      λ i.
          elim (Memᴰ.append_cases (sets_of (suc b) vs) i) [
            | inl j ↦ of_more n a (suc b) v vs h k (without.0 j)
            | inr j ↦
                let x = in_map (λ l. v ∷ l) k (sets_of b vs) j in
                rw x.2 (of_first n a b v vs h x.0 ((sets_said n v b vs x.0 later).0 x.1))
          ],
      λ o.
          elim (of_cases n a (suc b) v vs h k o) [
            | inl w ↦ Memᴰ.append_left _ (without.1 w)
            | inr w ↦
                let r = (sets_said n v b vs w.0 later).1 (w.2, w.3, omega (arith, o.2, ap length w.1)) in
                rw w.1 (Memᴰ.append_right (sets_of (suc b) vs) (map_has (λ l. v ∷ l) r))
          ],
    )

-- ---- in a tree

module _ (t : Tree) where
  open_ascends : ascends 0 t.count (open_sites t) ≡ true
  open_ascends = ascends_those t.count t.is_open 0 (sites t) (ascends_range t.count 0 (t.count - 1) (omega arith))

  -- a list of its open sites is a set
  of_open : (b : ℕ) (k : List ℕ) → Of t.count 0 b (open_sites t) k ↔ ((is_set t k ≡ true) × (length k ≤ b))
  of_open b k = (
    λ o. ((set_said_lem t k).1 (o.0, λ v m. (both (t.is_open v) (has (sites t) v) (sym (has_those t.is_open v (sites t)) ∙ o.1 v m)).0), o.2),
    λ h. let said = (set_said_lem t k).0 h.0 in (
      said.0,
      λ v m.
          let site = ascends_bounds t.count 0 v k said.0 m in
          rw (has_those t.is_open v (sites t), said.1 v m) (in_range 1 (t.count - 1) v (omega arith) (omega arith)),
      h.1,
    ),
  )

  pub all_sets_lem : (b : ℕ) (k : List ℕ) → Memᴰ k (all_sets t b) ↔ ((is_set t k ≡ true) × (length k ≤ b))
  all_sets_lem b k =
      let said = sets_said t.count 0 b (open_sites t) k open_ascends in
      let open_said = of_open b k in
      (λ i. open_said.0 (said.0 i), λ h. said.1 (open_said.1 h))
