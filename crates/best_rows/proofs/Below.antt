-- The nodes at or below a node are the node and those of the row of its children, so a row counts the members of a set there, and the
-- row that begins with a node has just the nodes that rule 13 counts.
use mathlib.Core.Path.{◌≡◌, refl, sym, ap, ◌∙◌}
use mathlib.Core.Bool.{Bool, true, false, cond, and-true}
use mathlib.Core.List.{List, [], ◌∷◌}
use Prim.Native.Nat.{ℕ, zero, suc, ◌+◌, ◌-◌, ◌≤◌, ◌<◌}
use native.Mathlib.Nat.{zero-add, suc-add}
use native.Mathlib.Omega.{arith}
use lib.Dec.{eqb}
use lib.ListN.{length}
use borrow.Author.Tests.{eq-eqb}
use Rattle.laws.specs.Lists.{range, sum, has, those, how_many}
use Rattle.laws.proofs.Bools.{by_test}
use Rattle.laws.proofs.Lists.{has_head, has_other, has_those, in_range}
use Rattle.laws.proofs.Counts.{length_those, how_many_those}
use Rattle.model.specs.File.{Tree}
use Rattle.model.specs.Tree.{nodes, sites, route, at_or_below, nodes_of_row}
use Rattle.model.specs.Rules.{ascends}
use Rattle.model.specs.Ties.{members}
use Rattle.model.specs.Preorder.{Preorder}
use Rattle.model.proofs.Routes.{route_server, parent_before, route_up, by_route, route_before}
use Rattle.model.proofs.Ascending.{ascends_range, ascends_those, same_members}
use Rattle.best_rows.specs.Rows.{Row, empty, node, row_nodes, row_size, choice_of, row_count}
use Rattle.best_rows.specs.TreeRows.{row_after, server_row, nodes_after, row_at}
use Rattle.best_rows.specs.BestAt.{one}
use Rattle.best_rows.proofs.TreeRows.{row_after_cases}
use Rattle.best_rows.proofs.Cover.{length_row_nodes, rows_along, rows_cover, server_row_whole}

-- what a row counts of a set, with what a list behind it has of the set, is what they have together
row_counts : (k : List ℕ) (r : Row) (l : List ℕ) → row_count one r (choice_of k r) + how_many (has k) l ≡ how_many (has k) (row_nodes r l)
unfolding row_count choice_of row_nodes how_many
row_counts k empty l = omega arith
row_counts k (node v a b) l = omega (arith, row_counts k a (row_nodes b l), row_counts k b l)

-- an ascending list of sites is those of the sites that it has
list_is_those : (t : Tree) (k : List ℕ) → ascends 0 t.count k ≡ true → k ≡ those (has k) (sites t)
list_is_those t k g =
    let n = t.count in
    same_members n 0 k (those (has k) (sites t)) g (ascends_those n (has k) 0 (sites t) (ascends_range n 0 (n - 1) (omega arith)))
    (λ v i j. rw (has_those (has k) v (sites t), in_range 1 (n - 1) v i (omega arith), and-true))

-- the nodes of a row in front of a list, all or none
abbrev all_or_none : Bool → Row → List ℕ → List ℕ
all_or_none w r l = cond w (row_nodes r l) l

all_or_none_node : (w : Bool) (v : ℕ) (a b : Row) (l : List ℕ)
    → let below = all_or_none w a (all_or_none w b l) in cond w (v ∷ below) below ≡ all_or_none w (node v a b) l
unfolding row_nodes
all_or_none_node true v a b l = refl
all_or_none_node false v a b l = refl

module _ (t : Tree) (pre : Preorder t) where
  module _ (v : ℕ) where
    -- of the nodes of a row after v, all are at or below v or none is
    row_below : (w : Bool) (m i p : ℕ) (l : List ℕ) → v ≤ i → has (route t p) v ≡ w
        → those (at_or_below t v) (row_nodes (row_after t m i p) l) ≡ all_or_none w (row_after t m i p) (those (at_or_below t v) l)
    unfolding row_after row_nodes those at_or_below
    row_below true zero i p l h e = refl
    row_below false zero i p l h e = refl
    row_below w (suc m) i p l h e =
        row_after_cases t (λ r. those (at_or_below t v) (row_nodes r l) ≡ all_or_none w r (those (at_or_below t v) l)) m i p
        (λ c.
        let on : has (route t (suc i)) v ≡ w =
        ap (λ l. has l v) (route_up t pre i) ∙ has_other (suc i) v (route t (t.parent (suc i))) (λ x. omega arith) ∙ rw c e in
        rw (on, row_below w m (suc i) (suc i) (row_nodes (row_after t m (suc i) p) l) (omega arith) on, row_below w m (suc i) p l (omega arith) e)
        (all_or_none_node w (suc i) (row_after t m (suc i) (suc i)) (row_after t m (suc i) p) (those (at_or_below t v) l)))
        (λ _. row_below w m (suc i) p l (omega arith) e)

    -- none of the rows of the nodes before v is
    none_along : (m u : ℕ) → u < v → those (at_or_below t v) (rows_along t m v (route t u)) ≡ []
    unfolding rows_along those
    none_along m =
        by_route t pre (λ u. u < v → those (at_or_below t v) (rows_along t m v (route t u)) ≡ [])
        (rw (route_server t) (λ h. row_below false m v 0 [] (omega arith) (route_before t pre v 0 h)))
        (λ u ih. rw (route_up t pre u) (λ h.
        row_below false m v (suc u) _ (omega arith) (route_before t pre v (suc u) h) ∙ ih (omega (arith, parent_before t pre u))))

    -- no node before v is
    none_before : (x y a : ℕ) → a + x ≡ v → those (at_or_below t v) (range a (x + y)) ≡ those (at_or_below t v) (range v y)
    unfolding those range at_or_below
    none_before zero y a e = let same : a ≡ v = omega arith in rw (zero-add y, same)
    none_before (suc x) y a e = rw (suc-add, route_before t pre v a (omega arith)) (none_before x y (suc a) (omega arith))

  -- the sites at or below a node are the node and those of the row of its children
  sites_below : (i m : ℕ) → i + suc m ≡ t.count - 1
      → those (at_or_below t (suc i)) (sites t) ≡ suc i ∷ row_nodes (row_after t m (suc i) (suc i)) []
  unfolding those rows_along range at_or_below
  sites_below i m e =
      let v = suc i in
      let self : has (route t v) v ≡ true = rw (route_up t pre i) (has_head v (route t (t.parent v))) in
      let above = none_along v m (t.parent v) (omega (arith, parent_before t pre i)) in
      rw (← e, none_before v i (suc m) 1 (omega arith), self, ← (rows_cover t pre m v), route_up t pre i)
      (rw (row_below v true m v v _ (omega arith) self, above))

  -- ---- so the row that begins with a node has those at or below it and its later siblings

  nodes_below : (i m : ℕ) → i + suc m ≡ t.count - 1
      → how_many (at_or_below t (suc i)) (nodes t) ≡ 1 + row_size (row_after t m (suc i) (suc i))
  unfolding how_many range at_or_below
  nodes_below i m e =
      let all : t.count ≡ suc (t.count - 1) = omega arith in
      let few = ap length (sites_below i m e) in
      ap (λ (n : ℕ). how_many (at_or_below t (suc i)) (range 0 n)) all
      ∙ ap (λ b. cond b 1 0 + how_many (at_or_below t (suc i)) (sites t)) (route_before t pre (suc i) 0 (omega arith))
      ∙ (omega (arith, few, length_those (at_or_below t (suc i)) (sites t), length_row_nodes (row_after t m (suc i) (suc i)) []))

  -- of p's children among the n nodes after i, and below them
  nodes_of_children : (n i p : ℕ) → i + n ≡ t.count - 1
      → sum (λ s. how_many (at_or_below t s) (nodes t)) (those (λ s. eqb (t.parent s) p) (range (suc i) n)) ≡ row_size (row_after t n i p)
  unfolding sum those range row_after row_size
  nodes_of_children zero i p e = refl
  nodes_of_children (suc n) i p e =
      let rest = nodes_of_children n (suc i) p (omega arith) in
      let later = those (λ s. eqb (t.parent s) p) (range (suc (suc i)) n) in
      by_test (λ b. sum (λ s. how_many (at_or_below t s) (nodes t)) (cond b (suc i ∷ later) later)
      ≡ row_size (cond b (node (suc i) (row_after t n (suc i) (suc i)) (row_after t n (suc i) p)) (row_after t n (suc i) p))) (eqb (t.parent (suc i)) p)
      (λ _. omega (arith, rest, nodes_below i n e)) (λ _. rest)

  pub nodes_of_row_lem : (v : ℕ) → 0 < v → v < t.count → nodes_of_row t v ≡ row_size (row_at t v)
  unfolding nodes_of_row sum those range row_at row_size
  nodes_of_row_lem zero h l = absurd (omega arith)
  nodes_of_row_lem (suc i) h l =
      let v = suc i in
      let m = nodes_after t v in
      let all : t.count - v ≡ suc m = omega arith in
      rw (all, eq-eqb (t.parent v) (t.parent v) refl)
      (omega (arith, nodes_below i m (omega arith), nodes_of_children m v (t.parent v) (omega arith)))

  -- ---- so the row of a node's children counts the members below it, and the server's row all members

  pub members_is_row_count : (k : List ℕ) → ascends 0 t.count k ≡ true → (i m : ℕ) → i + suc m ≡ t.count - 1
      → members t k (suc i) ≡ one (suc i) (has k (suc i)) + row_count one (row_after t m (suc i) (suc i)) (choice_of k (row_after t m (suc i) (suc i)))
  unfolding members how_many
  members_is_row_count k g i m e =
      let r = row_after t m (suc i) (suc i) in
      ap (how_many (at_or_below t (suc i))) (list_is_those t k g)
      ∙ how_many_those (at_or_below t (suc i)) (has k) (sites t)
      ∙ ap (how_many (has k)) (sites_below i m e)
      ∙ omega (arith, row_counts k r [])

  pub length_is_row_count : (k : List ℕ) → ascends 0 t.count k ≡ true → length k ≡ row_count one (server_row t) (choice_of k (server_row t))
  unfolding how_many
  length_is_row_count k g =
      ap length (list_is_those t k g)
      ∙ length_those (has k) (sites t)
      ∙ ap (how_many (has k)) (sym (server_row_whole t pre (t.count - 1)))
      ∙ omega (arith, row_counts k (server_row t) [])
