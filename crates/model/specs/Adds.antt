-- 02, item 10: "Take three accepted files alike in all but flows, and in version 2 or 3 cachable bytes, where the third's are the sums of
-- the other two's." What follows for totals, loads and plans (`adds_lawful` in proofs/Adds). The sum of two plan totals is a lower bound
-- of the third's plan total, and no more: the third's plan is one set for both, and each of the two may have a cheaper one of its own.
use Rattle.std.specs.Prelude.{◌≡◌, true, List, ◌↔◌, ◌⊎◌, ℕ, ◌+◌, ◌≤◌, ◌<◌, length}
use Rattle.model.specs.File.{version_of, count_of, budget_of, parent_field, length_field, flow_field, hit_field, cachable_field, open_field, field_of, tree_of, demand_of}
use Rattle.model.specs.Rules.{accepted, is_set}
use Rattle.model.specs.Bill.{total, link_load, serving}
use Rattle.model.specs.Plan.{plan_total}

-- f is alike to h "in all but flows, and in version 2 or 3 cachable bytes"
pub record AlikeButFlows (f h : List ℕ) : Type 0 where
  pub version : version_of f ≡ version_of h
  pub count : count_of f ≡ count_of h
  pub budget : budget_of f ≡ budget_of h
  pub parents : (v : ℕ) → v < count_of h → field_of f parent_field v ≡ field_of h parent_field v
  pub lengths : (v : ℕ) → v < count_of h → field_of f length_field v ≡ field_of h length_field v
  -- and what else is no flow and no cachable bytes: in version 1 the hit, in version 3 the last byte
  pub hits : version_of h ≡ 1 → (v : ℕ) → v < count_of h → field_of f hit_field v ≡ field_of h hit_field v
  pub open_bytes : version_of h ≡ 3 → (v : ℕ) → v < count_of h → field_of f open_field v ≡ field_of h open_field v

-- "three accepted files .. where the third's are the sums of the other two's": f and g, and the third, h
pub record Adds (f g h : List ℕ) : Type 0 where
  pub all_accepted : (accepted f ≡ true) × (accepted g ≡ true) × (accepted h ≡ true)
  pub first_alike : AlikeButFlows f h
  pub second_alike : AlikeButFlows g h
  pub flows : (v : ℕ) → v < count_of h → field_of h flow_field v ≡ field_of f flow_field v + field_of g flow_field v
  -- "and in version 2 or 3 cachable bytes"
  pub cachables : (version_of h ≡ 2) ⊎ (version_of h ≡ 3)
      → (v : ℕ) → v < count_of h → field_of h cachable_field v ≡ field_of f cachable_field v + field_of g cachable_field v

-- ---- the laws, of every three such files

pub record AddsLawful : Type 0 where
  -- what is a set in one of the three is a set in all, and each node has the same serving node
  pub same_sets : (f g h : List ℕ) → Adds f g h
      → (k : List ℕ) → (is_set (tree_of f) k ≡ is_set (tree_of h) k) × (is_set (tree_of g) k ≡ is_set (tree_of h) k)
  pub same_servings : (f g h : List ℕ) → Adds f g h
      → (k : List ℕ) (v : ℕ) → (serving (tree_of f) k v ≡ serving (tree_of h) k v) × (serving (tree_of g) k v ≡ serving (tree_of h) k v)
  -- "every set's total in the third is the sum of its totals in the two", and so is the load above each node
  pub totals_add : (f g h : List ℕ) → Adds f g h
      → (k : List ℕ) → total (tree_of h) (demand_of h) k ≡ total (tree_of f) (demand_of f) k + total (tree_of g) (demand_of g) k
  pub loads_add : (f g h : List ℕ) → Adds f g h
      → (k : List ℕ) (v : ℕ) → link_load (tree_of h) (demand_of h) k v ≡ link_load (tree_of f) (demand_of f) k v + link_load (tree_of g) (demand_of g) k v
  -- "at each budget the third's plan total is at least the sum of the two plan totals"
  pub plan_totals_at_least : (f g h : List ℕ) → Adds f g h
      → (b : ℕ) → plan_total (tree_of f) (demand_of f) b + plan_total (tree_of g) (demand_of g) b ≤ plan_total (tree_of h) (demand_of h) b
  -- and it is that sum just where one set of at most b nodes has in each of the two that file's plan total
  pub sum_reached : (f g h : List ℕ) → Adds f g h
      → (b : ℕ) → plan_total (tree_of h) (demand_of h) b ≡ plan_total (tree_of f) (demand_of f) b + plan_total (tree_of g) (demand_of g) b
      ↔ ((k : List ℕ) × (is_set (tree_of h) k ≡ true) × (length k ≤ b)
      × (total (tree_of f) (demand_of f) k ≡ plan_total (tree_of f) (demand_of f) b)
      × (total (tree_of g) (demand_of g) k ≡ plan_total (tree_of g) (demand_of g) b))
