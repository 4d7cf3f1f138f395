-- Where records stand in preorder: the server's row holds every node from 1 on, in order, and every row has fewer nodes than the
-- tree.
use mathlib.Core.Path.{◌≡◌, refl, sym, ap, ◌∙◌}
use mathlib.Core.Bool.{true, false}
use mathlib.Core.List.{List, [], ◌∷◌}
use Prim.Native.Nat.{ℕ, zero, suc, ◌+◌, ◌≤◌, ◌<◌}
use native.Mathlib.Decide.{dec_le}
use native.Mathlib.Omega.{arith}
use lib.ListN.{length}
use Rattle.laws.specs.Lists.{range, has}
use Rattle.laws.proofs.Bools.{by_test, not_both}
use Rattle.laws.proofs.Lists.{has_cases, has_none, has_tail, has_other, length_range}
use Rattle.model.specs.File.{Tree}
use Rattle.model.specs.Tree.{route}
use Rattle.model.specs.Preorder.{Preorder}
use Rattle.model.proofs.Routes.{route_server, parent_before, route_up, by_route, route_before}
use Rattle.best_rows.specs.Rows.{Row, empty, node, row_nodes, row_size}
use Rattle.best_rows.specs.TreeRows.{row_after, nodes_after, row_at}
use Rattle.best_rows.proofs.TreeRows.{row_after_cases, row_after_child, row_after_other}

pub length_row_nodes : (r : Row) (l : List ℕ) → length (row_nodes r l) ≡ row_size r + length l
unfolding row_nodes row_size
length_row_nodes empty l = omega arith
length_row_nodes (node v a b) l = omega (arith, length_row_nodes a (row_nodes b l), length_row_nodes b l)

module _ (t : Tree) where
  -- the nodes in the rows of the children of a list's nodes, among the n nodes after i
  unfoldable pub rows_along : ℕ → ℕ → List ℕ → List ℕ
  rows_along n i [] = []
  rows_along n i (v ∷ vs) = row_nodes (row_after t n i v) (rows_along n i vs)

  along_none : (i : ℕ) (l : List ℕ) → rows_along zero i l ≡ []
  unfolding rows_along row_nodes row_after
  along_none i [] = refl
  along_none i (v ∷ vs) = along_none i vs

  module _ (pre : Preorder t) where
    -- no later node is on a route
    route_back : (u v : ℕ) → has (route t v) u ≡ true → u ≤ v
    route_back u v m = elim (dec_le u v) [ yes h ↦ h | no h ↦ absurd (not_both m (route_before t pre u v (omega arith))) ]

    -- the route of a node on a route is on it
    route_of_route : (u v w : ℕ) → has (route t v) u ≡ true → has (route t w) v ≡ true → has (route t w) u ≡ true
    route_of_route u v w e =
        by_route t pre (λ w. has (route t w) v ≡ true → has (route t w) u ≡ true)
        (rw (route_server t) (has_cases _ 0 v [] (λ i. rw (← i, route_server t) at e) (λ i. absurd (has_none v i))))
        (λ w ih. rw (route_up t pre w) (has_cases _ (suc w) v (route t (t.parent (suc w)))
        (λ i. rw (← i, route_up t pre w) at e)
        (λ i. has_tail (suc w) u (route t (t.parent (suc w))) (ih i)))) w

    -- one link down: what is not on the route of the node before is not on the route of the next
    off_route_next : (i p : ℕ) → p ≤ i → has (route t i) p ≡ false → has (route t (suc i)) p ≡ false
    off_route_next i p h off =
        rw (route_up t pre i, has_other (suc i) p (route t (t.parent (suc i))) (λ e. omega arith))
        (by_test (λ b. b ≡ false) (has (route t (t.parent (suc i))) p)
        (λ e. absurd (not_both (route_of_route p (t.parent (suc i)) i e (pre i)) off)) (λ _. refl))

    -- a node that is not on the route of node i has no children after it
    no_row_off_route : (n i p : ℕ) → p ≤ i → has (route t i) p ≡ false → row_after t n i p ≡ empty
    unfolding row_after
    no_row_off_route zero i p h off = refl
    no_row_off_route (suc n) i p h off =
        row_after_cases t (λ r. r ≡ empty) n i p (λ e. absurd (not_both (rw e at (pre i)) off))
        (λ _. no_row_off_route n (suc i) p (omega arith) (off_route_next i p h off))

    -- to pass the next node changes no row of the nodes before its parent
    along_before : (n i v : ℕ) → v < t.parent (suc i) → rows_along (suc n) i (route t v) ≡ rows_along n (suc i) (route t v)
    unfolding rows_along
    along_before n i =
        by_route t pre (λ v. v < t.parent (suc i) → rows_along (suc n) i (route t v) ≡ rows_along n (suc i) (route t v))
        (rw (route_server t) (λ l. rw (row_after_other t n i 0 (λ e. omega arith))))
        (λ v ih. rw (route_up t pre v) (λ l. rw (row_after_other t n i (suc v) (λ e. omega arith), ih (omega (arith, parent_before t pre v)))))

    -- a node after the parent of the next node has no children after that
    no_row_after : (n i v : ℕ) → v ≤ i → t.parent (suc i) < v → row_after t (suc n) i v ≡ empty
    no_row_after n i v h l =
        row_after_other t n i v (λ e. omega arith)
        ∙ no_row_off_route n (suc i) v (omega arith)
        (rw (route_up t pre i, has_other (suc i) v (route t (t.parent (suc i))) (λ e. omega arith)) (route_before t pre v (t.parent (suc i)) l))

    -- the next node comes first, then its own row and those of its parent's route
    along_next : (n i v : ℕ) → v ≤ i → has (route t v) (t.parent (suc i)) ≡ true
        → rows_along (suc n) i (route t v) ≡ suc i ∷ rows_along n (suc i) (suc i ∷ route t (t.parent (suc i)))
    unfolding rows_along row_nodes
    along_next n i =
        let p = t.parent (suc i) in
        by_route t pre (λ v. v ≤ i → has (route t v) p ≡ true → rows_along (suc n) i (route t v) ≡ suc i ∷ rows_along n (suc i) (suc i ∷ route t p))
        (rw (route_server t) (λ _. has_cases _ 0 p [] (λ e. rw (row_after_child t n i 0 (sym e), ← e, route_server t)) (λ m. absurd (has_none p m))))
        (λ v ih. let up = parent_before t pre v in
        rw (route_up t pre v) (λ h. has_cases _ (suc v) p (route t (t.parent (suc v)))
        (λ e. rw (row_after_child t n i (suc v) (sym e), along_before n i (t.parent (suc v)) (omega arith), ← e, route_up t pre v))
        (λ m. rw (no_row_after n i (suc v) h (omega (arith, route_back p (t.parent (suc v)) m))) (ih (omega arith) m))))

    -- the rows of the nodes on the route of i hold just the nodes after i
    pub rows_cover : (n i : ℕ) → rows_along n i (route t i) ≡ range (suc i) n
    unfolding range
    rows_cover zero i = along_none i (route t i)
    rows_cover (suc n) i = along_next n i i (omega arith) (pre i) ∙ ap (λ l. suc i ∷ l) (rw (← (route_up t pre i)) (rows_cover n (suc i)))

    -- the server's row holds just the nodes from 1 on
    pub server_row_whole : (n : ℕ) → row_nodes (row_after t n 0 0) [] ≡ range 1 n
    unfolding rows_along
    server_row_whole n = rw (route_server t) at (rows_cover n 0)

    -- ---- how many nodes a row has

    -- the rows along a route begin with the row of its first node's children
    along_first : (n i v : ℕ) → (rest : List ℕ) × (rows_along n i (route t v) ≡ row_nodes (row_after t n i v) rest)
    unfolding rows_along
    along_first n i zero = ([], rw (route_server t))
    along_first n i (suc v) = (rows_along n i (route t (t.parent (suc v))), rw (route_up t pre v))

    row_on_route : (n i v : ℕ) → row_size (row_after t n i v) ≤ length (rows_along n i (route t v))
    row_on_route n i v = let along = along_first n i v in rw (along.1, length_row_nodes (row_after t n i v) along.0) (omega arith)

    -- a row has fewer nodes than the tree
    pub row_size_within : (v : ℕ) → v < t.count → row_size (row_at t v) < t.count
    unfolding row_at row_size rows_along
    row_size_within zero h = omega arith
    row_size_within (suc i) h =
        let v = suc i in
        let m = nodes_after t v in
        let all = rw (route_up t pre i, length_row_nodes (row_after t m v v) (rows_along m v (route t (t.parent v))), length_range (suc v) m) at (ap length (rows_cover m v)) in
        omega (arith, all, row_on_route m v (t.parent v))
