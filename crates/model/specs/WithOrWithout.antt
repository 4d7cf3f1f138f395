-- 02, item 1, "With it or without it": for one node and a budget the least total of the sets that contain the node, and the least of
-- those that don't; the call that answers both; and what holds of the two, said without recursion (`with_or_without_said` in
-- proofs/WithOrWithout).
use Rattle.std.specs.Prelude.{◌≡◌, Bool, true, false, cond, not, List, [], ◌∷◌, ◌↔◌, ◌⊎◌, ℕ, ◌≤◌, ◌<◌, min, length}
use Rattle.laws.specs.Lists.{has}
use Rattle.model.specs.File.{Tree, Demand, tree_of, demand_of}
use Rattle.model.specs.Rules.{Verdict, ◌then◌, file_verdict, is_set, ask_node, scratch_words, ask_scratch}
use Rattle.model.specs.Bill.{total}
use Rattle.model.specs.Plan.{all_sets, plan, plan_total}
use Rattle.model.specs.Calls.{Answer, answer, Least, none, least_is, ScratchAfter}

-- ---- the two minima

-- the lesser of two; none counts as larger than every total
abbrev pub lesser : Least → Least → Least
lesser none y = y
lesser (least_is x) none = least_is x
lesser (least_is x) (least_is y) = least_is (min x y)

module _ (t : Tree) (d : Demand) where
  -- of a list of sets, the least total of those that pass a test
  unfoldable pub least_of : (List ℕ → Bool) → List (List ℕ) → Least
  least_of p [] = none
  least_of p (k ∷ ks) = let r = least_of p ks in cond (p k) (lesser (least_is (total t d k)) r) r

  -- "the least total of all sets of at most b nodes that contain it, or none"
  unfoldable pub with_it : ℕ → ℕ → Least
  with_it b v = least_of (λ k. has k v) (all_sets t b)

  -- "and the least of those that don't"
  unfoldable pub without_it : ℕ → ℕ → Least
  without_it b v = least_of (λ k. not (has k v)) (all_sets t b)

-- ---- the call: "For a named node and a budget b up to k"

-- 16 is asked "after all questions on records, before 13, which is asked as for the plan"
unfoldable pub with_or_without_verdict : List ℕ → ℕ → ℕ → List ℕ → Verdict
with_or_without_verdict file v b scratch = file_verdict file then ask_node file v b then ask_scratch file scratch

-- "the tool's two totals": with the node, and without it
abbrev pub both_least : List ℕ → ℕ → ℕ → Least × Least
both_least file v b = (with_it (tree_of file) (demand_of file) b v, without_it (tree_of file) (demand_of file) b v)

-- what the call guarantees for all arguments; the scratch is all that is lent
pub record WithOrWithoutCall (file : List ℕ) (v b : ℕ) (scratch : List ℕ) (a : Answer (Least × Least)) (scratch' : List ℕ) : Type 0 where
  pub answers : a ≡ answer (with_or_without_verdict file v b scratch) (both_least file v b)
  pub scratch_after : ScratchAfter (with_or_without_verdict file v b scratch) (scratch_words file) scratch scratch'

-- ---- what holds of the two

-- K is one of the sets of at most b nodes that contain v (u is true), or of those that don't (u is false)
pub record SetWhere (t : Tree) (b v : ℕ) (u : Bool) (k : List ℕ) : Type 0 where
  pub is_a_set : is_set t k ≡ true
  pub within : length k ≤ b
  pub contains : has k v ≡ u

-- the least total of the sets with a property: no such set costs less, and one costs it; none: there is no such set
abbrev pub LeastAmong : Tree → Demand → (List ℕ → Type 0) → Least → Type 0
LeastAmong t d P none = (k : List ℕ) → P k → ⊥
LeastAmong t d P (least_is x) = ((k : List ℕ) → P k → x ≤ total t d k) × ((k : List ℕ) × P k × (total t d k ≡ x))

-- the least total of the sets of at most b nodes that contain v, or of those that don't
abbrev pub LeastWhere : Tree → Demand → ℕ → ℕ → Bool → Least → Type 0
LeastWhere t d b v u = LeastAmong t d (SetWhere t b v u)

-- of a node v from 1 to n − 1 and any budget b
pub record WithOrWithoutSaid (t : Tree) (d : Demand) (b v : ℕ) : Type 0 where
  -- "the tool's two totals are shown to be those minima", and no other answer is
  pub with_least : LeastWhere t d b v true (with_it t d b v)
  pub with_only : (m : Least) → LeastWhere t d b v true m → m ≡ with_it t d b v
  pub without_least : LeastWhere t d b v false (without_it t d b v)
  pub without_only : (m : Least) → LeastWhere t d b v false m → m ≡ without_it t d b v
  -- "or none where b is 0", and "a closed node in item 1 has no set that contains it"
  pub with_none : with_it t d b v ≡ none ↔ ((b ≡ 0) ⊎ (t.is_open v ≡ false))
  -- the empty set doesn't contain it
  pub without_some : (y : ℕ) × (without_it t d b v ≡ least_is y)
  -- the smaller of the two is the plan's total
  pub smaller_is_plan : lesser (with_it t d b v) (without_it t d b v) ≡ least_is (plan_total t d b)
  -- "The plan has the node only if the first is no larger than the second", and has it where the first is smaller
  pub plan_has : has (plan t d b) v ≡ true
      → (x : ℕ) × (y : ℕ) × (with_it t d b v ≡ least_is x) × (without_it t d b v ≡ least_is y) × (x ≤ y)
  pub plan_must_have : (x y : ℕ) → with_it t d b v ≡ least_is x → without_it t d b v ≡ least_is y → x < y → has (plan t d b) v ≡ true
