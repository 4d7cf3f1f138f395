-- Laws of the order of ties and of the rank: how they put sets in order, and the order of ties said without recursion.
use mathlib.Core.Path.{◌≡◌, refl, sym, ap}
use mathlib.Core.Bool.{Bool, true, false, ◌&&◌, or-true, false≢true}
use mathlib.Core.List.{List, [], ◌∷◌}
use mathlib.Core.Logic.Iff
use mathlib.Core.Logic.{◌↔◌, ◌⊎◌, inl, inr, ⊎_elim, ⊎_map}
use Prim.Native.Nat.{ℕ, zero, suc, ◌-◌, ◌<◌}
use native.Mathlib.Decide.{ℕ_discrete}
use native.Mathlib.Omega.{arith}
use lib.Dec.{ltb, eqb}
use lib.ListN.{length}
use borrow.Author.Tests.{ltb-true, lt-ltb, le-ltb, eqb-true, eq-eqb}
use Rattle.laws.specs.Lists.{range, has, bit}
use Rattle.laws.proofs.Statements.{rest_said}
use Rattle.laws.proofs.Bools.{not_both, both, either, one_passes, bit_same, bit_less}
use Rattle.laws.proofs.Lists.{has_cases, has_none, in_range}
use Rattle.model.specs.File.{Tree, Demand}
use Rattle.model.specs.Tree.{sites, at_or_below}
use Rattle.model.specs.Rules.{ascends}
use Rattle.model.specs.Bill.{total}
use Rattle.model.specs.Ties.{smaller_first, lacking_first, members, visits, ties_before, ranks_before}
use Rattle.model.specs.Laws.{Alike, Ahead, Decides}
use Rattle.model.proofs.Ascending.{same_members}

-- ---- the smaller number first, then the rest

pub smaller_said : {a b : ℕ} {rest : Bool} → smaller_first a b rest ≡ true ↔ ((a < b) ⊎ ((a ≡ b) × (rest ≡ true)))
unfolding smaller_first
smaller_said {a} {b} {rest} = (
  either ((a < b) ⊎ ((a ≡ b) × (rest ≡ true))) (ltb a b) (eqb a b && rest) (λ e. inl (ltb-true a b e))
      (λ e. let p = both (eqb a b) rest e in inr (eqb-true a b p.0, p.1)),
  ⊎_elim (λ h. rw (lt-ltb a b h)) (λ h. rw (eq-eqb a b h.0, h.1, or-true)),
)

smaller_same : (a : ℕ) (rest : Bool) → smaller_first a a rest ≡ rest
unfolding smaller_first
smaller_same a rest = rw (le-ltb a a (omega arith), eq-eqb a a refl)

smaller_transitive : (a b c : ℕ) {r s u : Bool} → (r ≡ true → s ≡ true → u ≡ true)
    → smaller_first a b r ≡ true → smaller_first b c s ≡ true → smaller_first a c u ≡ true
smaller_transitive a b c f p q =
    smaller_said.1
    (elim (smaller_said.0 p) [
      | inl h ↦ inl (⊎_elim (λ g. omega arith) (λ g. omega arith) (smaller_said.0 q))
      | inr h ↦ ⊎_map (λ g. omega arith) (λ g. (omega arith, f h.1 g.1)) (smaller_said.0 q)
    ])

-- two numbers of which neither comes first are equal, and the rest prefers neither
smaller_neither : {a b : ℕ} {r s : Bool} → smaller_first a b r ≡ false → smaller_first b a s ≡ false
    → (a ≡ b) × (r ≡ false) × (s ≡ false)
smaller_neither {a} {b} p q =
    let not_less : a < b → ⊥ = λ h. not_both (smaller_said.1 (inl h)) p in
    let not_more : b < a → ⊥ = λ h. not_both (smaller_said.1 (inl h)) q in
    let e : a ≡ b = omega arith in
    (e, rw (e, smaller_same) at p, rw (e, smaller_same) at q)

-- the set that lacks the node comes first: the smaller number, with 1 for a set that has it
lacking_is : (x y rest : Bool) → lacking_first x y rest ≡ smaller_first (bit x) (bit y) rest
unfolding smaller_first
lacking_is true true rest = refl
lacking_is true false rest = refl
lacking_is false true rest = refl
lacking_is false false rest = refl

-- ---- the visit of nodes 1, 2, ..

module _ (t : Tree) where
  visits_cons : (k l : List ℕ) (v : ℕ) (vs : List ℕ) → visits t k l (v ∷ vs)
      ≡ smaller_first (members t l v) (members t k v) (smaller_first (bit (has k v)) (bit (has l v)) (visits t k l vs))
  unfolding visits
  visits_cons k l v vs = ap (smaller_first (members t l v) (members t k v)) (lacking_is (has k v) (has l v) (visits t k l vs))

  visits_irreflexive : (k vs : List ℕ) → visits t k k vs ≡ false
  unfolding visits
  visits_irreflexive k [] = refl
  visits_irreflexive k (v ∷ vs) = simp (visits_cons k k v vs, smaller_same) (visits_irreflexive k vs)

  visits_transitive : (k l m vs : List ℕ) → visits t k l vs ≡ true → visits t l m vs ≡ true → visits t k m vs ≡ true
  unfolding visits
  visits_transitive k l m [] p q = p
  visits_transitive k l m (v ∷ vs) p q =
      let rest = smaller_transitive _ _ _ (visits_transitive k l m vs) in
      rw (visits_cons k m v vs)
      (smaller_transitive _ _ _ (λ q p. rest p q) (rw (visits_cons l m v vs) at q) (rw (visits_cons k l v vs) at p))

  -- of two lists of which neither comes first, both or neither have each node visited
  visits_neither : (k l vs : List ℕ) → visits t k l vs ≡ false → visits t l k vs ≡ false
      → (v : ℕ) → has vs v ≡ true → has k v ≡ has l v
  visits_neither k l [] p q v m = absurd (has_none v m)
  visits_neither k l (u ∷ vs) p q v m =
      let counts = smaller_neither (rw (visits_cons k l u vs) at p) (rw (visits_cons l k u vs) at q) in
      let node = smaller_neither counts.1 counts.2 in
      has_cases (has k v ≡ has l v) u v vs (λ e. rw (← e) (bit_same (has k u) (has l u) node.0))
      (visits_neither k l vs node.1 node.2 v) m

-- ---- the order of ties said without recursion

module _ (t : Tree) (k l : List ℕ) where
  visits_said : (v : ℕ) (vs : List ℕ) → visits t k l (v ∷ vs) ≡ true ↔ (Ahead t k l v ⊎ (Alike t k l v × (visits t k l vs ≡ true)))
  unfolding members at_or_below
  visits_said v vs =
      rw (visits_cons t k l v vs) (
        λ h.
            elim (smaller_said.0 h) [
              | inl a ↦ inl (inl a)
              | inr a ↦
                  ⊎_map (λ b. let c = bit_less (has k v) (has l v) b in inr (sym a.0, c.0, c.1))
                  (λ b. ((sym a.0, bit_same (has k v) (has l v) b.0), b.1)) (smaller_said.0 a.1)
            ],
        λ h.
            smaller_said.1
            (⊎_elim (⊎_map (λ a. a) (λ a. (sym a.0, smaller_said.1 (inl (rw (a.1, a.2) (omega arith))))))
            (λ a. inr (sym a.0.0, smaller_said.1 (inr (ap bit a.0.1, a.1)))) h),
      )

  decides_earlier : (i n v : ℕ) → Alike t k l i → Decides t k l (suc i) n v → Decides t k l i n v
  decides_earlier i n v a w =
      let s = w.site in
      record {
        site = omega arith;
        before = λ u p q. elim (ℕ_discrete i u) [ yes e ↦ rw (← e) a | no e ↦ w.before u (omega arith) q ];
        here = w.here;
      }

  decides_later : (i n v : ℕ) → (i ≡ v → ⊥) → Decides t k l i n v → Decides t k l (suc i) n v
  decides_later i n v e w =
      let s = w.site in
      record { site = omega arith; before = λ u p q. w.before u (omega arith) q; here = w.here }

  -- the first node decides, or K and L are alike there and a later one does
  decides_said : (i n : ℕ) → i < n → (Ahead t k l i ⊎ (Alike t k l i × ((v : ℕ) × Decides t k l (suc i) n v))) ↔ ((v : ℕ) × Decides t k l i n v)
  decides_said i n h = (
    ⊎_elim (λ a. (i, record { site = omega arith; before = λ u p q. absurd (omega arith); here = a }))
        (λ a. (a.1.0, decides_earlier i n a.1.0 a.0 a.1.1)),
    λ a.
        let s = a.1.site in
        elim (ℕ_discrete i a.0) [
          | yes e ↦ inl (rw e a.1.here)
          | no e ↦ inr (a.1.before i (omega arith) (omega arith), (a.0, decides_later i n a.0 e a.1))
        ],
  )

  visits_decided : (m i n : ℕ) → m ≡ n - i → visits t k l (range i m) ≡ true ↔ ((v : ℕ) × Decides t k l i n v)
  unfolding visits range
  visits_decided zero i n e = (λ f. absurd (false≢true f), λ a. let s = a.1.site in absurd (omega arith))
  visits_decided (suc m) i n e =
      Iff.trans (visits_said i (range (suc i) m))
      (Iff.trans (rest_said (visits_decided m (suc i) n (omega arith))) (decides_said i n (omega arith)))

  -- K comes before L exactly when it has fewer nodes, or as many and a node decides for it
  pub ties_said_lem : ties_before t k l ≡ true
      ↔ ((length k < length l) ⊎ ((length k ≡ length l) × ((v : ℕ) × Decides t k l 1 t.count v)))
  unfolding ties_before
  ties_said_lem = Iff.trans smaller_said (rest_said (visits_decided (t.count - 1) 1 t.count refl))

-- ---- the rank

module _ (t : Tree) (d : Demand) where
  pub rank_said_lem : (k l : List ℕ) → ranks_before t d k l ≡ true
      ↔ ((total t d k < total t d l) ⊎ ((total t d k ≡ total t d l) × (ties_before t k l ≡ true)))
  unfolding ranks_before
  rank_said_lem k l = smaller_said

  pub rank_irreflexive_lem : (k : List ℕ) → ranks_before t d k k ≡ false
  unfolding ranks_before ties_before
  rank_irreflexive_lem k = simp smaller_same (visits_irreflexive t k (sites t))

  pub rank_transitive_lem : (k l m : List ℕ) → ranks_before t d k l ≡ true → ranks_before t d l m ≡ true → ranks_before t d k m ≡ true
  unfolding ranks_before ties_before
  rank_transitive_lem k l m = smaller_transitive _ _ _ (smaller_transitive _ _ _ (visits_transitive t k l m (sites t)))

  -- of two lists not each ranks before the other
  pub rank_one_way : (k l : List ℕ) → ranks_before t d k l ≡ true → ranks_before t d l k ≡ true → ⊥
  rank_one_way k l before after = not_both (rank_transitive_lem k l k before after) (rank_irreflexive_lem k)

  -- two ascending lists of nodes of which neither ranks before the other are one
  rank_neither : (k l : List ℕ) → ascends 0 t.count k ≡ true → ascends 0 t.count l ≡ true
      → ranks_before t d k l ≡ false → ranks_before t d l k ≡ false → k ≡ l
  unfolding ranks_before ties_before
  rank_neither k l g h p q =
      let totals = smaller_neither p q in
      let sizes = smaller_neither totals.1 totals.2 in
      same_members t.count 0 k l g h
      (λ v i j. visits_neither t k l (sites t) sizes.1 sizes.2 v (in_range 1 (t.count - 1) v i (omega arith)))

  pub rank_total_lem : (k l : List ℕ) → ascends 0 t.count k ≡ true → ascends 0 t.count l ≡ true → (k ≡ l → ⊥)
      → (ranks_before t d k l ≡ true) ⊎ (ranks_before t d l k ≡ true)
  rank_total_lem k l g h n = one_passes (ranks_before t d k l) (ranks_before t d l k) (λ p q. n (rank_neither k l g h p q))
