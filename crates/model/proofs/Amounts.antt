-- Price and load by amounts: what a client asks for, and what of it is cachable. From here on no law asks in which of the two
-- ways a file says what is cachable.
use mathlib.Core.Path.{◌≡◌, refl, sym, ap, ap₂, ◌∙◌}
use mathlib.Core.Bool.{true, false, cond}
use mathlib.Core.List.{List}
use mathlib.Core.Logic.{◌↔◌, ◌⊎◌}
use Prim.Native.Nat.{ℕ, ◌*◌, ◌-◌, ◌≤◌}
use native.Mathlib.Nat.{mul_comm, mul_assoc, mul-sub, mul-le-mul_right, mul-le-mul_left}
use native.Mathlib.Omega.{arith}
use borrow.Author.Tests.{leb-true}
use Rattle.laws.specs.Lists.{has, any_of}
use Rattle.laws.proofs.Numbers.{products_same}
use Rattle.model.specs.File.{Tree, Share, ratio, bytes, Demand, most_flow, most_hit, has_ratios, flow_field, hit_field, cachable_field, field_of, share_of, demand_of}
use Rattle.model.specs.Tree.{route, distance}
use Rattle.model.specs.Rules.{passed, ask_share}
use Rattle.model.specs.Bill.{thousandths, cachable_amount, served_price, served_load, whole, cachable, up_to, price, client_load}
use Rattle.model.specs.Children.{relieved}
use Rattle.model.proofs.Verdicts.{ask_passed}

-- ---- one client of flow f, by what of it is cachable

-- what rule 11 says of a ratio, and rule 17 of cachable bytes
pub ratio_within : (i f p : ℕ) {s : Share} → s ≡ ratio p → ask_share i f s ≡ passed → p ≤ most_hit
ratio_within i f p e h = leb-true p most_hit (ask_passed 11 i _ (rw e at h))

pub bytes_within : (i f b : ℕ) {s : Share} → s ≡ bytes b → ask_share i f s ≡ passed → b ≤ f
bytes_within i f b e h = leb-true b f (ask_passed 17 i _ (rw e at h))

-- so no more is cachable than is asked for
amount_part : (i f : ℕ) (s : Share) → ask_share i f s ≡ passed → cachable_amount f s ≤ f * thousandths
amount_part i f (ratio p) h = mul-le-mul_left f (ratio_within i f p refl h)
amount_part i f (bytes b) h = omega (arith, bytes_within i f b refl h)

price_amount : (f : ℕ) (s : Share) (x y : ℕ) → served_price f s x y ≡ f * thousandths * x - cachable_amount f s * y
price_amount f (ratio p) x y =
    mul-sub f (thousandths * x) (p * y) ∙ sym (ap₂ ◌-◌ (mul_assoc f thousandths x) (mul_assoc f p y))
price_amount f (bytes b) x y =
    mul-sub thousandths (f * x) (b * y)
    ∙ sym (ap₂ ◌-◌ (ap (λ (z : ℕ). z * x) (mul_comm f thousandths) ∙ mul_assoc thousandths f x) (mul_assoc thousandths b y))

load_amount : (f : ℕ) (s : Share) → f * thousandths - cachable_amount f s ≡ served_load f s
load_amount f (ratio p) = sym (mul-sub f thousandths p)
load_amount f (bytes b) = omega arith

module _ (d : Demand) (c : ℕ) where
  pub whole_bound : d.flow c ≤ most_flow → whole d c ≤ most_flow * thousandths
  unfolding whole
  whole_bound h = mul-le-mul_right thousandths h

  pub cachable_part : (i : ℕ) → ask_share i (d.flow c) (d.share c) ≡ passed → cachable d c ≤ whole d c
  unfolding whole cachable
  cachable_part i h = amount_part i (d.flow c) (d.share c) h

  -- where nothing is cachable, and where everything is
  pub ratio_nothing_lem : (p : ℕ) → d.share c ≡ ratio p → cachable d c ≡ 0 ↔ ((d.flow c ≡ 0) ⊎ (p ≡ 0))
  unfolding cachable
  ratio_nothing_lem p e = let none : d.flow c * 0 ≡ 0 = omega arith in rw e (rw none at (products_same (d.flow c) p 0))

  pub ratio_everything_lem : (p : ℕ) → d.share c ≡ ratio p → cachable d c ≡ whole d c ↔ ((d.flow c ≡ 0) ⊎ (p ≡ 1000))
  unfolding whole cachable
  ratio_everything_lem p e = rw e (products_same (d.flow c) p thousandths)

  pub bytes_nothing_lem : (b : ℕ) → d.share c ≡ bytes b → cachable d c ≡ 0 ↔ (b ≡ 0)
  unfolding cachable
  bytes_nothing_lem b e = rw e (λ h. omega arith, λ h. omega arith)

  pub bytes_everything_lem : (b : ℕ) → d.share c ≡ bytes b → cachable d c ≡ whole d c ↔ (b ≡ d.flow c)
  unfolding whole cachable
  bytes_everything_lem b e = rw e (λ h. omega arith, λ h. omega arith)

  -- what is not cachable is the load where a cache serves
  pub relieved_is : relieved d c ≡ served_load (d.flow c) (d.share c)
  unfolding whole cachable
  relieved_is = load_amount (d.flow c) (d.share c)

  module _ (t : Tree) where
    pub price_amounts : (v : ℕ) → price t d c v ≡ whole d c * distance t c - cachable d c * distance t v
    unfolding price whole cachable
    price_amounts v = price_amount (d.flow c) (d.share c) (distance t c) (distance t v)

    pub load_amounts : (k : List ℕ) (v : ℕ) → client_load t d k v c ≡ cond (any_of (has k) (up_to v (route t c))) (relieved d c) (whole d c)
    unfolding client_load whole
    load_amounts k v = rw relieved_is

-- ---- in a file: the hit in version 1, and else the cachable bytes

module _ (s : List ℕ) (i : ℕ) where
  pub share_ratio : has_ratios s ≡ true → (demand_of s).share i ≡ ratio (field_of s hit_field i)
  unfolding share_of
  share_ratio e = rw e

  pub share_bytes : has_ratios s ≡ false → (demand_of s).share i ≡ bytes (field_of s cachable_field i)
  unfolding share_of
  share_bytes e = rw e

  pub cachable_ratio : has_ratios s ≡ true → cachable (demand_of s) i ≡ field_of s flow_field i * field_of s hit_field i
  unfolding cachable
  cachable_ratio e = rw (share_ratio e)

  pub cachable_bytes : has_ratios s ≡ false → cachable (demand_of s) i ≡ thousandths * field_of s cachable_field i
  unfolding cachable
  cachable_bytes e = rw (share_bytes e)
