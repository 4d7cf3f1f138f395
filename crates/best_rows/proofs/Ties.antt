-- The order of ties by node numbers is the order on rows: what comes first there is not preceded here.
use mathlib.Core.Path.{◌≡◌, refl}
use mathlib.Core.Bool.{Bool, true, false, false≢true}
use mathlib.Core.List.{List, []}
use mathlib.Core.Logic.{⊎_elim}
use Prim.Native.Nat.{ℕ, zero, suc, ◌+◌, ◌-◌, ◌≤◌}
use native.Mathlib.Omega.{arith}
use Rattle.laws.specs.Lists.{has}
use Rattle.model.specs.File.{Tree}
use Rattle.model.specs.Tree.{sites}
use Rattle.model.specs.Rules.{ascends}
use Rattle.model.specs.Ties.{lacking_first, visits}
use Rattle.model.specs.Preorder.{Preorder}
use Rattle.model.proofs.Order.{smaller_said}
use Rattle.best_rows.specs.Rows.{row_nodes, choice_of, favour, Before}
use Rattle.best_rows.specs.TreeRows.{row_after, server_row}
use Rattle.best_rows.specs.BestAt.{one, prefer}
use Rattle.best_rows.proofs.TreeRows.{row_after_cases}
use Rattle.best_rows.proofs.Cover.{server_row_whole}
use Rattle.best_rows.proofs.Below.{members_is_row_count}

-- where a set comes first that is not favoured at the node, both or neither have it and the rest decides
lacking_alike : (x y rest : Bool) → lacking_first x y rest ≡ true → favour prefer x ≤ favour prefer y → (y ≡ x) × (rest ≡ true)
lacking_alike true true rest e h = (refl, e)
lacking_alike true false rest e h = absurd (false≢true e)
lacking_alike false true rest e h = absurd (omega arith)
lacking_alike false false rest e h = (refl, e)

module _ (t : Tree) (pre : Preorder t) (k l : List ℕ) (g : ascends 0 t.count k ≡ true) (h : ascends 0 t.count l ≡ true) where
  -- where k comes before l on a row, or is like l there and so is the rest, l is not before k on its nodes and the rest
  row_not_preceded : (m i p : ℕ) → i + m ≡ t.count - 1 → (rest : Type 0) (vs : List ℕ) → (visits t l k vs ≡ true → rest → ⊥)
      → visits t l k (row_nodes (row_after t m i p) vs) ≡ true
      → Before one prefer (row_after t m i p) (choice_of k (row_after t m i p)) (choice_of l (row_after t m i p)) rest → ⊥
  unfolding row_after row_nodes choice_of visits
  row_not_preceded zero i p e rest vs never = never
  row_not_preceded (suc m) i p e rest vs never =
      row_after_cases t (λ r. visits t l k (row_nodes r vs) ≡ true → Before one prefer r (choice_of k r) (choice_of l r) rest → ⊥) m i p
      (λ _ before-k before-l.
      let in_k = members_is_row_count t pre k g i m e in
      let in_l = members_is_row_count t pre l h i m e in
      ⊎_elim (λ more. omega (arith, before-l.0))
      (λ same.
      let tie = before-l.1 (omega arith) in
      let alike = lacking_alike (has l (suc i)) (has k (suc i)) _ same.1 tie.0 in
      row_not_preceded m (suc i) (suc i) (omega arith) _ (row_nodes (row_after t m (suc i) p) vs)
      (row_not_preceded m (suc i) p (omega arith) rest vs never) alike.1 (tie.1 alike.0))
      (smaller_said.0 before-k))
      (λ _. row_not_preceded m (suc i) p (omega arith) rest vs never)

  pub not_preceded : Before one prefer (server_row t) (choice_of k (server_row t)) (choice_of l (server_row t)) (Unit {0})
      → visits t l k (sites t) ≡ true → ⊥
  unfolding visits
  not_preceded before-l before-k =
      row_not_preceded (t.count - 1) 0 0 (omega arith) (Unit {0}) [] (λ e _. false≢true e)
      (rw (server_row_whole t pre (t.count - 1)) before-k) before-l
