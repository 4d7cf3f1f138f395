-- 02, item 4: one client's cost in four situations, to be held beside 004, section II-A: "The cost c_{s,c} (in bytes × distance) of
-- demand f_{s,c} using a cache in location v_k is
--     c_{s,c} = f_{s,c} · [p_{s,c} · d(v_c, v_k) + (1 − p_{s,c}) · (d(v_c, v_k) + d(v_k, v_s))]."
-- Below f is the flow, p its hit ratio, c the client, v the cache and s the server; d(c) stands for d(c, s). The cache is on the
-- route, so d(c, v) = d(c) − d(v). It is the serving node, where the formula is least (law a). What is left of it:
--     no cache at all, so v is s   f · d(c)
--     p = 0                        f · (d(c, v) + d(v, s)) = f · d(c)
--     p = 1                        f · d(c, v) = f · (d(c) − d(v))
--     else                         f · d(c) − f · p · d(v), the whole formula
-- In thousandths f is `whole` and f · p is `cachable`, in a file of any version.
use Rattle.std.specs.Prelude.{◌≡◌, true, cond, List, ◌↔◌, ◌⊎◌, ℕ, ◌+◌, ◌*◌, ◌-◌, ◌<◌, eqb}
use Rattle.laws.specs.Lists.{has}
use Rattle.model.specs.File.{Tree, ratio, bytes, Demand}
use Rattle.model.specs.Tree.{server, at_or_below, distance}
use Rattle.model.specs.Rules.{is_set}
use Rattle.model.specs.Bill.{whole, cachable, price, cost, serving}

-- "no cache on the route; nothing cachable; everything cachable; and part of it cachable"
pub data Situation : Type 0 where
  no_cache : Situation
  nothing : Situation
  everything : Situation
  partly : Situation

-- ---- one client that asks for `all`, of which `part` is cachable

-- "the first that holds", where v serves it: no cache is on its route just where that is the server
unfoldable pub first_situation : ℕ → ℕ → ℕ → Situation
first_situation all part v = cond (eqb v server) no_cache (cond (eqb part 0) nothing (cond (eqb part all) everything partly))

-- what each costs at distance x from the server, where the serving node is at distance y: "The first two leave out the cache's
-- distance, the third the hit or cachable bytes."
unfoldable pub cost_in : Situation → ℕ → ℕ → ℕ → ℕ → ℕ
cost_in no_cache all part x y = all * x
cost_in nothing all part x y = all * x
cost_in everything all part x y = all * (x - y)
cost_in partly all part x y = all * x - part * y

-- 004's formula, where d(c, v) is `way` and d(v, s) is `rest`
unfoldable pub paper_cost : ℕ → ℕ → ℕ → ℕ → ℕ
paper_cost all part way rest = part * way + (all - part) * (way + rest)

-- ---- the client at c, with caches at K

-- its situation, with its serving node
unfoldable pub situation : Tree → Demand → List ℕ → ℕ → Situation
situation t d k c = first_situation (whole d c) (cachable d c) (serving t k c)

-- a cache is on its route
abbrev pub CacheOnRoute : Tree → List ℕ → ℕ → Type 0
CacheOnRoute t k c = (u : ℕ) × (has k u ≡ true) × (at_or_below t u c ≡ true)

-- what each situation says: no cache is on the route; or one is, and nothing, everything or a part is cachable
abbrev pub Holds : Tree → Demand → List ℕ → ℕ → Situation → Type 0
Holds t d k c no_cache = CacheOnRoute t k c → ⊥
Holds t d k c nothing = CacheOnRoute t k c × (cachable d c ≡ 0)
Holds t d k c everything = CacheOnRoute t k c × (0 < cachable d c) × (cachable d c ≡ whole d c)
Holds t d k c partly = CacheOnRoute t k c × (0 < cachable d c) × (cachable d c < whole d c)

-- ---- the laws, for every accepted file (`situations_lawful` in proofs/Situations)

pub record SituationsLawful (t : Tree) (d : Demand) : Type 0 where
  -- of the four the client's situation holds, and no other does
  pub situation_said : (k : List ℕ) (c : ℕ) → is_set t k ≡ true → Holds t d k c (situation t d k c)
  pub situation_only : (k : List ℕ) (c : ℕ) (x : Situation) → is_set t k ≡ true → Holds t d k c x → x ≡ situation t d k c
  -- in version 1 nothing is cachable at hit 0 and everything at hit 1,000, from version 2 on no byte and all of the flow; at flow 0 both
  -- are so, whatever the hit, and `nothing` is the first
  pub ratio_nothing : (c p : ℕ) → d.share c ≡ ratio p → cachable d c ≡ 0 ↔ ((d.flow c ≡ 0) ⊎ (p ≡ 0))
  pub ratio_everything : (c p : ℕ) → d.share c ≡ ratio p → cachable d c ≡ whole d c ↔ ((d.flow c ≡ 0) ⊎ (p ≡ 1000))
  pub bytes_nothing : (c b : ℕ) → d.share c ≡ bytes b → cachable d c ≡ 0 ↔ (b ≡ 0)
  pub bytes_everything : (c b : ℕ) → d.share c ≡ bytes b → cachable d c ≡ whole d c ↔ (b ≡ d.flow c)
  -- "Each is shown equal to the cost as stated"
  pub no_cache_cost : (k : List ℕ) (c : ℕ) → situation t d k c ≡ no_cache → cost t d k c ≡ whole d c * distance t c
  pub nothing_cost : (k : List ℕ) (c : ℕ) → situation t d k c ≡ nothing → cost t d k c ≡ whole d c * distance t c
  pub everything_cost : (k : List ℕ) (c : ℕ) → situation t d k c ≡ everything
      → cost t d k c ≡ whole d c * (distance t c - distance t (serving t k c))
  pub partly_cost : (k : List ℕ) (c : ℕ) → situation t d k c ≡ partly
      → cost t d k c ≡ whole d c * distance t c - cachable d c * distance t (serving t k c)
  -- and so are the four together
  pub cost_said : (k : List ℕ) (c : ℕ)
      → cost_in (situation t d k c) (whole d c) (cachable d c) (distance t c) (distance t (serving t k c)) ≡ cost t d k c
  -- 004's formula is the price at every node v of the route
  pub paper_said : (c v : ℕ) → at_or_below t v c ≡ true
      → paper_cost (whole d c) (cachable d c) (distance t c - distance t v) (distance t v) ≡ price t d c v

-- "The first two leave out the cache's distance, the third the hit or cachable bytes": of any numbers (`left_out` there)
pub record LeftOut : Type 0 where
  pub first : (all part other x y z : ℕ) → cost_in no_cache all part x y ≡ cost_in no_cache all other x z
  pub second : (all part other x y z : ℕ) → cost_in nothing all part x y ≡ cost_in nothing all other x z
  pub third : (all part other x y : ℕ) → cost_in everything all part x y ≡ cost_in everything all other x y
