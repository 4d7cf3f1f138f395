-- Laws of a node's line: what the node costs as a cache and without, where its caches do not fit, and each entry of its line.
use mathlib.Core.Path.{◌≡◌, refl, ◌∙◌}
use mathlib.Core.Bool.{Bool, true, false, cond}
use mathlib.Core.List.{List}
use Prim.Native.Nat.{ℕ, zero, suc, ◌+◌, ◌-◌, ◌≤◌, ◌<◌, min}
use native.Mathlib.Nat.{sub-zero}
use native.Mathlib.Omega.{arith}
use lib.Dec.{ltb}
use lib.ListN.{length, get_or}
use Rattle.laws.specs.Lists.{bit}
use Rattle.laws.proofs.Bools.{by_test}
use Rattle.best_rows.specs.Least.{better}
use Rattle.best_rows.specs.Best.{cap, own_choice, node_best}
use Rattle.best_rows.proofs.Least.{better_min}
use Rattle.best_rows.proofs.Best.{cost_if_is, cost_if_over}
use Rattle.lines.specs.Line.{entry_of, NodeParts, pay, children, line_cost_if, line_takes, line_node, line_own, empty_best}
use Rattle.lines.proofs.Entries.{entry_inside, entry_past, stored_within}

-- the first entry of its children's line, where it is no cache
pub first_within_lem : {cached uncached : List ℕ} {member other : ℕ} → NodeParts cached uncached member other → get_or uncached 0 0 ≤ cap
first_within_lem {uncached = uncached} parts = stored_within uncached 0 parts.uncached_line parts.uncached_line.some

module _ (cached uncached : List ℕ) (member other n : ℕ) where
  pub cost_without_caches : n ≡ 0 → line_cost_if cached uncached member other n true ≡ cap
  cost_without_caches e = cost_if_over bit (pay member other) (children cached uncached) n true (omega arith)

  pub cost_member : 0 < n → line_cost_if cached uncached member other n true ≡ member + entry_of cached (n - 1)
  cost_member h = cost_if_is bit (pay member other) (children cached uncached) n true h

  pub cost_other : line_cost_if cached uncached member other n false ≡ other + entry_of uncached n
  cost_other = cost_if_is bit (pay member other) (children cached uncached) n false (omega arith) ∙ rw sub-zero

  pub node_is_lesser : line_node cached uncached member other n
      ≡ min (line_cost_if cached uncached member other n true) (line_cost_if cached uncached member other n false)
  unfolding line_node node_best own_choice
  node_is_lesser = omega (arith, better_min (line_cost_if cached uncached member other n) false true)

  pub node_within : NodeParts cached uncached member other → line_node cached uncached member other n ≤ cap + cap
  node_within parts = omega (arith, node_is_lesser, cost_other, parts.uncached_line.within n, parts.pays.1)

  -- more caches than its children's line has entries do not fit
  pub node_none : NodeParts cached uncached member other → length cached < n → cap ≤ line_node cached uncached member other n
  node_none parts h =
      omega (arith, node_is_lesser, cost_other, cost_member (omega arith), entry_past cached (n - 1) (omega arith), entry_past uncached n (omega (arith, parts.alike)))

  -- the node's entry, from those of its children if it is a cache (without caches it is none) and if it is none
  pub own_without_caches : n ≡ 0 → line_own cached uncached member other n ≡ min (min cap (member + cap)) (other + entry_of uncached n)
  unfolding line_own
  own_without_caches e = omega (arith, node_is_lesser, cost_other, cost_without_caches e)

  pub own_with_caches : 0 < n → line_own cached uncached member other n
      ≡ min (min cap (member + entry_of cached (n - 1))) (other + entry_of uncached n)
  unfolding line_own
  own_with_caches h = omega (arith, node_is_lesser, cost_other, cost_member h)

  -- so an entry that is stored from the children's lines is the node's: the first one, one that both lines have, and the one after
  module _ (parts : NodeParts cached uncached member other) {x : ℕ} where
    pub own_first : n ≡ 0 → x ≡ min (min cap (member + cap)) (other + get_or uncached n 0) → x ≡ line_own cached uncached member other n
    own_first e is = omega (arith, own_without_caches e, entry_inside uncached n (omega (arith, parts.uncached_line.some)))

    pub own_next : 0 < n → n < length cached → x ≡ min (min cap (member + get_or cached (n - 1) 0)) (other + get_or uncached n 0)
        → x ≡ line_own cached uncached member other n
    own_next h k is =
        omega (arith, own_with_caches h, entry_inside cached (n - 1) (omega arith), entry_inside uncached n (omega (arith, parts.alike)))

    pub own_last : 0 < n → n ≡ length cached → x ≡ min (min cap (member + get_or cached (n - 1) 0)) (other + cap)
        → x ≡ line_own cached uncached member other n
    own_last h k is =
        omega (arith, own_with_caches h, entry_inside cached (n - 1) (omega arith), entry_past uncached n (omega (arith, parts.alike)))

  -- the node is a cache if that costs less
  pub takes_if_less : {with without : ℕ} {less : Bool} → with ≡ line_cost_if cached uncached member other n true
      → without ≡ line_cost_if cached uncached member other n false → less ≡ ltb with without → less ≡ line_takes cached uncached member other n
  unfolding line_takes own_choice better
  takes_if_less hw ho hl =
      let less = ltb (line_cost_if cached uncached member other n true) (line_cost_if cached uncached member other n false) in
      rw (hl, hw, ho) (by_test (λ b. b ≡ cond b true false) less (λ _. refl) (λ _. refl))

-- ---- the empty row

pub empty_none : (m : ℕ) → m ≡ 0 → empty_best m ≡ 0
unfolding empty_best
empty_none m h = rw h

pub empty_some : (m : ℕ) → 0 < m → empty_best m ≡ cap
unfolding empty_best
empty_some zero h = absurd (omega arith)
empty_some (suc m) h = refl

-- a node without children: with no cache, with one, and with more
module _ (cached uncached : List ℕ) (member other n : ℕ) (cached-none : (m : ℕ) → entry_of cached m ≡ empty_best m)
    (uncached-none : (m : ℕ) → entry_of uncached m ≡ empty_best m) where
  abbrev least : ℕ
  least = line_node cached uncached member other n

  leaf_other : least ≡ min (line_cost_if cached uncached member other n true) (other + empty_best n)
  leaf_other = omega (arith, node_is_lesser cached uncached member other n, cost_other cached uncached member other n, uncached-none n)

  leaf_both : 0 < n → least ≡ min (member + empty_best (n - 1)) (other + cap)
  leaf_both h = omega (arith, leaf_other, cost_member cached uncached member other n h, cached-none (n - 1), empty_some n h)

  pub leaf_none : n ≡ 0 → least ≡ min cap other
  leaf_none e = omega (arith, leaf_other, cost_without_caches cached uncached member other n e, empty_none n e)

  pub leaf_one : n ≡ 1 → least ≡ min member (other + cap)
  leaf_one e = omega (arith, leaf_both (omega arith), empty_none (n - 1) (omega arith))

  pub leaf_more : 1 < n → cap ≤ least
  leaf_more h = omega (arith, leaf_both (omega arith), empty_some (n - 1) (omega arith))
