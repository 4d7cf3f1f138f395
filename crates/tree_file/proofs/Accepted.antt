-- What an accepted file allows: its header and every record can be read, and every route climbed.
use mathlib.Core.Path.{◌≡◌, refl, ap, ◌∙◌}
use mathlib.Core.List.{List}
use Prim.Native.Nat.{ℕ, ◌+◌, ◌≤◌, ◌<◌, max}
use native.Mathlib.Nat.{zero-add}
use native.Mathlib.Numerals.{add-one}
use native.Mathlib.Omega.{arith}
use lib.ListN.{length}
use Rattle.laws.specs.Lists.{range, greatest}
use Rattle.laws.proofs.Lists.{greatest_snoc}
use Rattle.model.specs.File.{tree_of, demand_of, count_of, budget_of, header_length, most_nodes}
use Rattle.model.specs.Tree.{depth, height}
use Rattle.model.specs.Rules.{passed, file_verdict}
use Rattle.model.proofs.Accepted.{record_before, accepted_header, accepted_sound}
use Rattle.model.proofs.Bounds.{height_bound}
use Rattle.fields.specs.Table.{InFile}
use Rattle.fields.specs.declared.Tree as code
use Rattle.tree_file.specs.Checks.{AcceptedSizes, SizesHold, Climbable}

module _ (file : List ℕ) (ok : file_verdict file ≡ passed) where
  pub accepted_long : header_length ≤ length file
  accepted_long = omega (arith, (accepted_header file ok).exact)

  pub accepted_in_file : (v : ℕ) → v < count_of file → InFile file v
  accepted_in_file v h =
      let head = accepted_header file ok in
      record { node = omega (arith, head.few); long = omega (arith, head.exact, record_before file h) }

  pub accepted_climbable : (v : ℕ) → v < count_of file → Climbable file v
  accepted_climbable v h =
      record { here = accepted_in_file v h; preorder = λ i _. (accepted_sound file ok).preorder i }

-- n and k found are the file's
pub sizes_count : {file : List ℕ} {sizes : code.Tree} → AcceptedSizes file sizes → sizes.nodes ≡ count_of file
sizes_count of = ap (λ z. z.nodes) of.of_file

pub sizes_budget : {file : List ℕ} {sizes : code.Tree} → AcceptedSizes file sizes → sizes.budget ≡ budget_of file
sizes_budget of = ap (λ z. z.budget) of.of_file

-- n, k and h of an accepted file are small
pub sizes_hold : {file : List ℕ} {sizes : code.Tree} → AcceptedSizes file sizes → SizesHold sizes
sizes_hold {file} of =
    let head = accepted_header file of.accepted in
    rw of.of_file (record {
      some = head.some;
      nodes = head.few;
      budget = head.budget;
      height = height_bound (tree_of file) (demand_of file) (accepted_sound file of.accepted);
    })

-- ---- the height, as it is found

module _ (file : List ℕ) (n : ℕ) where
  -- the greatest depth of the nodes before v
  pub record Tallest (v tallest : ℕ) : Type 0 where
    pub some : v ≤ n
    pub few : n ≤ most_nodes
    pub highest : tallest ≡ greatest (depth (tree_of file)) (range 0 v)

  pub tallest_begins : file_verdict file ≡ passed → n ≡ count_of file → Tallest 0 0
  unfolding greatest range
  tallest_begins ok e = record { some = omega arith; few = omega (arith, (accepted_header file ok).few); highest = refl }

  pub tallest_turns : (v tallest x taller : ℕ) → Tallest v tallest → v < n → x ≡ depth (tree_of file) v → taller ≡ max tallest x → Tallest (v + 1) taller
  tallest_turns v tallest x taller k h e m =
      record {
        some = omega arith;
        few = k.few;
        highest = rw (add-one v, greatest_snoc (depth (tree_of file)) 0 v, zero-add v) (omega (arith, k.highest));
      }

  pub tallest_ends : (v tallest : ℕ) → Tallest v tallest → n ≤ v → n ≡ count_of file → tallest ≡ height (tree_of file)
  unfolding height
  tallest_ends v tallest k h e =
      let whole : v ≡ count_of file = omega (arith, k.some) in
      k.highest ∙ ap (λ (m : ℕ). greatest (depth (tree_of file)) (range 0 m)) whole
