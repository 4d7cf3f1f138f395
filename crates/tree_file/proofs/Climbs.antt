-- Climbing a route by the file's own parents: what stays from node to node.
use mathlib.Core.Path.{◌≡◌, refl, sym, ◌∙◌}
use mathlib.Core.Bool.{true, false}
use mathlib.Core.List.{List, [], ◌∷◌}
use Prim.Native.Nat.{ℕ, zero, suc, ◌≤◌, ◌<◌}
use native.Mathlib.Nat.{mul-le-mul_left}
use native.Mathlib.Omega.{arith}
use Rattle.laws.specs.Lists.{has}
use Rattle.laws.proofs.Lists.{has_head, has_other}
use Rattle.model.specs.File.{tree_of, record_length}
use Rattle.model.specs.Tree.{route}
use Rattle.model.proofs.Routes.{route_server, parent_before_to, route_up_to}
use Rattle.fields.specs.Table.{InFile}
use Rattle.tree_file.specs.Checks.{Climbable}

-- x is met going up from v
pub record Climbing (file : List ℕ) (v x : ℕ) : Type 0 where
  pub climbable : Climbable file v
  pub under : x ≤ v

module _ (file : List ℕ) (v : ℕ) where
  pub climb_begins : Climbable file v → Climbing file v v
  climb_begins r = record { climbable = r; under = omega arith }

  -- an earlier record stands in the file too
  pub earlier_in_file : (x : ℕ) → x ≤ v → InFile file v → InFile file x
  earlier_in_file x h here =
      record { node = omega (arith, here.node); long = omega (arith, here.long, mul-le-mul_left (record_length file) h) }

  pub record_below : (x : ℕ) → Climbing file v x → InFile file x
  record_below x k = earlier_in_file x k.under k.climbable.here

  -- one link up, from a node other than the server
  pub parent_less : (x y : ℕ) → Climbing file v x → (x ≡ 0 → ⊥) → y ≡ (tree_of file).parent x → y < x
  parent_less zero y k z e = absurd (z refl)
  parent_less (suc x) y k z e =
      omega (arith, parent_before_to (tree_of file) (suc v) k.climbable.preorder x (omega (arith, k.under)))

  climb_turns : (x y : ℕ) → Climbing file v x → (x ≡ 0 → ⊥) → y ≡ (tree_of file).parent x → Climbing file v y
  climb_turns x y k z e = record { climbable = k.climbable; under = omega (arith, parent_less x y k z e, k.under) }

  pub route_turns : (x y : ℕ) → Climbing file v x → (x ≡ 0 → ⊥) → y ≡ (tree_of file).parent x → route (tree_of file) x ≡ x ∷ route (tree_of file) y
  route_turns zero y k z e = absurd (z refl)
  route_turns (suc x) y k z e =
      rw e (route_up_to (tree_of file) (suc v) k.climbable.preorder x (omega (arith, k.under)))

  route_here : (x : ℕ) → Climbing file v x → has (route (tree_of file) x) x ≡ true
  route_here zero k = rw (route_server (tree_of file)) (has_head 0 [])
  route_here (suc x) k = rw (route_turns (suc x) _ k (λ e. omega arith) refl) (has_head (suc x) _)

  -- ---- is a on the route?

  -- no node from v up to before x is a
  abbrev pub Seeking : ℕ → ℕ → Type 0
  Seeking a x = Climbing file v x × (has (route (tree_of file) v) a ≡ has (route (tree_of file) x) a)

  pub seek_turns : (a x y : ℕ) → Seeking a x → (x ≡ 0 → ⊥) → (x ≡ a → ⊥) → y ≡ (tree_of file).parent x → Seeking a y
  seek_turns a x y k z n e =
      (climb_turns x y k.0 z e, k.1 ∙ rw (route_turns x y k.0 z e) (has_other x a (route (tree_of file) y) n))

  pub seek_misses : (a x : ℕ) → Seeking a x → x ≡ 0 → (x ≡ a → ⊥) → false ≡ has (route (tree_of file) v) a
  unfolding has
  seek_misses a x k z n = sym (k.1 ∙ rw (z, route_server (tree_of file)) (has_other 0 a [] (λ e. n (z ∙ e))))

  pub seek_meets : (a x : ℕ) → Seeking a x → x ≡ a → true ≡ has (route (tree_of file) v) a
  seek_meets a x k e = sym (k.1 ∙ rw (← e) (route_here x k.0))
