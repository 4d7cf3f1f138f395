-- The dynamic program finds the first of the allowed sets. With what the nodes of the tree may be, that is the plan, and its
-- least is the plan's total. With a wish for one node its least is that of the sets that contain the node, or of those that don't.
use mathlib.Core.Path.{◌≡◌, refl, sym, ap, ◌∙◌}
use mathlib.Core.Bool.{Bool, true, not, beq, ◌||◌}
use mathlib.Core.List.{List, [], List-discrete}
use mathlib.Core.Logic.{⊎_elim}
use Prim.Native.Nat.{ℕ, ◌-◌, ◌≤◌, ◌<◌}
use native.Mathlib.Decide.{ℕ_discrete}
use native.Mathlib.Omega.{arith}
use lib.Dec.{eqb}
use lib.ListN.{length}
use borrow.Author.Tests.{eq-eqb, eqb-true}
use Rattle.laws.specs.Lists.{has}
use Rattle.laws.proofs.Bools.{by_test, alike, both}
use Rattle.laws.proofs.Lists.{in_range}
use Rattle.model.specs.File.{Tree, Demand, tree_of, demand_of}
use Rattle.model.specs.Rules.{passed, file_verdict, is_set}
use Rattle.model.specs.Bill.{total}
use Rattle.model.specs.Plan.{plan, plan_total}
use Rattle.model.specs.Calls.{least_is}
use Rattle.model.specs.WithOrWithout.{SetWhere, LeastWhere}
use Rattle.model.specs.Accepted.{Sound}
use Rattle.model.proofs.Accepted.{accepted_sound}
use Rattle.model.proofs.Ascending.{ascends_bounds, set_said_lem, empty_is_set}
use Rattle.model.proofs.Order.{rank_said_lem}
use Rattle.model.proofs.Plans.{only_plan}
use Rattle.best_rows.specs.Guarded.{may_be, wish, grants, may_be_under, AllowedSet, RanksFirstAllowed}
use Rattle.best_rows.specs.TreeRows.{nodes_after, first_child, row_at, server_row}
use Rattle.best_rows.specs.BestAt.{best_at, best_nodes, least_count}
use Rattle.best_rows.proofs.TreeRows.{row_at_first}
use Rattle.best_rows.proofs.RanksFirst.{nodes_found_rank_first, nodes_found_total}

-- the row that begins with the server's first child is the server's row
row_at_server : (t : Tree) → row_at t (first_child t 0) ≡ server_row t
unfolding first_child
row_at_server t = let all : nodes_after t 0 ≡ t.count - 1 = omega arith in rw all (row_at_first t (t.count - 1) 0 0 (omega arith))

-- of the sets of at most b nodes that keep to what is allowed, if there is one, the nodes found rank first, at the least cost found
pub allowed_found : (t : Tree) (d : Demand) → Sound t d → (allows : ℕ → Bool → Bool) (b : ℕ) (l : List ℕ) → AllowedSet t allows b l
    → let m = least_count t d allows b in
    let k = best_nodes t d allows (first_child t 0) 0 m in
    RanksFirstAllowed t d allows b k × (total t d k ≡ best_at t d allows (first_child t 0) 0 m)
unfolding best_nodes best_at least_count
allowed_found t d ok allows b l some =
    let here = row_at_server t in
    (rw (← here) at (nodes_found_rank_first t d ok allows b l some), rw (← here) at (nodes_found_total t d ok allows b l some))

-- ---- the plan: the sets of the tree are the ascending lists of its sites that keep to what its nodes may be

module _ (t : Tree) (b : ℕ) (k : List ℕ) where
  set_allowed : is_set t k ≡ true → length k ≤ b → AllowedSet t (may_be t) b k
  unfolding may_be
  set_allowed g h =
      let said = (set_said_lem t k).0 g in
      record {
        ascending = said.0;
        within = h;
        allowed = λ v _. by_test (λ u. has k v ≡ u → (not u || t.is_open v) ≡ true) (has k v) (λ _. said.1 v) (λ _ _. refl) refl;
      }

  allowed_set : AllowedSet t (may_be t) b k → is_set t k ≡ true
  unfolding may_be
  allowed_set a =
      (set_said_lem t k).1 (
        a.ascending,
        λ v m.
            let site = ascends_bounds t.count 0 v k a.ascending m in
            rw m at (a.allowed v (in_range 1 (t.count - 1) v (omega arith) (omega arith))),
      )

-- for every accepted file and every budget
pub optimum_found : (file : List ℕ) → file_verdict file ≡ passed → (b : ℕ)
    → let t = tree_of file in let d = demand_of file in
    (best_nodes t d (may_be t) (first_child t 0) 0 (least_count t d (may_be t) b) ≡ plan t d b)
    × (best_at t d (may_be t) (first_child t 0) 0 (least_count t d (may_be t) b) ≡ plan_total t d b)
optimum_found file fits b =
    let t = tree_of file in
    let d = demand_of file in
    let found = allowed_found t d (accepted_sound file fits) (may_be t) b [] (set_allowed t b [] (empty_is_set t) (omega arith)) in
    let first = found.0 in
    let is = only_plan t d b _ (record {
      is_a_set = allowed_set t b _ first.fits;
      within = first.fits.within;
      first = λ l g h. first.first l (set_allowed t b l g h);
    }) in
    (is, sym found.1 ∙ ap (total t d) is)

-- ---- a wish for node v: the sets that contain it (u is true), or those that don't (u is false)

module _ (v : ℕ) (u : Bool) (k : List ℕ) where
  -- a set keeps to the wish at every node if it does at v
  wish_granted : has k v ≡ u → (x : ℕ) → grants (wish v u) x (has k x) ≡ true
  wish_granted e x =
      by_test (λ z. eqb x v ≡ z → (not z || beq (has k x) u) ≡ true) (eqb x v)
      (λ _ same. rw (eqb-true x v same, e) (by_test (λ z. beq z z ≡ true) u (λ _. refl) (λ _. refl))) (λ _ _. refl) refl

  granted_wish : grants (wish v u) v (has k v) ≡ true → has k v ≡ u
  granted_wish h = alike (has k v) u (ap not (rw (eq-eqb v v refl) at h))

  module _ (t : Tree) (b : ℕ) where
    where_allowed : SetWhere t b v u k → AllowedSet t (may_be_under t (wish v u)) b k
    where_allowed s =
        let set = set_allowed t b k s.is_a_set s.within in
        record {
          ascending = set.ascending;
          within = set.within;
          allowed = λ x i. rw (wish_granted s.contains x) (set.allowed x i);
        }

    allowed_where : 1 ≤ v → v < t.count → AllowedSet t (may_be_under t (wish v u)) b k → SetWhere t b v u k
    allowed_where some node a = record {
      is_a_set =
          allowed_set t b k
          (record { ascending = a.ascending; within = a.within; allowed = λ x i. (both (grants (wish v u) x (has k x)) _ (a.allowed x i)).1 });
      within = a.within;
      contains =
          granted_wish (both (grants (wish v u) v (has k v)) _ (a.allowed v (in_range 1 (t.count - 1) v some (omega arith)))).0;
    }

-- no allowed set costs less than the first
first_no_dearer : (t : Tree) (d : Demand) (allows : ℕ → Bool → Bool) (b : ℕ) (k : List ℕ) → RanksFirstAllowed t d allows b k
    → (l : List ℕ) → AllowedSet t allows b l → total t d k ≤ total t d l
first_no_dearer t d allows b k r l a =
    elim (List-discrete ℕ_discrete l k) [
      | yes e ↦ omega (arith, ap (total t d) e)
      | no n ↦ ⊎_elim (λ h. omega arith) (λ h. omega arith) ((rank_said_lem t d k l).0 (r.first l a n))
    ]

-- for every accepted file, node and budget: if there is such a set, the least found is the least total of these sets
pub wished_found : (file : List ℕ) → file_verdict file ≡ passed → (b v : ℕ) (u : Bool) → 1 ≤ v → v < (tree_of file).count
    → (l : List ℕ) → SetWhere (tree_of file) b v u l
    → let t = tree_of file in let d = demand_of file in let allows = may_be_under t (wish v u) in
    LeastWhere t d b v u (least_is (best_at t d allows (first_child t 0) 0 (least_count t d allows b)))
wished_found file fits b v u some node l s =
    let t = tree_of file in
    let d = demand_of file in
    let found = allowed_found t d (accepted_sound file fits) (may_be_under t (wish v u)) b l (where_allowed v u l t b s) in (
      λ k r. omega (arith, found.1, first_no_dearer t d _ b _ found.0 k (where_allowed v u k t b r)),
      (_, allowed_where v u _ t b some node found.0.fits, found.1),
    )
