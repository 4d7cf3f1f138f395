-- The rows of a tree by node numbers. Node 0, the server, is in no row, so 0 stands for "no node".
use Rattle.std.specs.Prelude.{◌≡◌, cond, ◌⊎◌, ℕ, zero, suc, ◌-◌, ◌<◌, eqb}
use Rattle.laws.specs.Lists.{range, first_that}
use Rattle.model.specs.File.{Tree}
use Rattle.best_rows.specs.Rows.{Row, empty, node}

module _ (t : Tree) where
  -- the row of p's children among the n nodes after node i
  unfoldable pub row_after : ℕ → ℕ → ℕ → Row
  row_after zero i p = empty
  row_after (suc n) i p =
      let rest = row_after n (suc i) p in
      cond (eqb (t.parent (suc i)) p) (node (suc i) (row_after n (suc i) (suc i)) rest) rest

  -- the row of the server's children, and so of every site
  abbrev pub server_row : Row
  server_row = row_after (t.count - 1) 0 0

  -- the first child of p among the n nodes after node i, 0 if there is none
  unfoldable pub first_after : ℕ → ℕ → ℕ → ℕ
  first_after n i p = first_that (λ u. eqb (t.parent u) p) 0 (range (suc i) n)

  -- how many nodes stand after v
  abbrev pub nodes_after : ℕ → ℕ
  nodes_after v = t.count - 1 - v

  unfoldable pub first_child : ℕ → ℕ
  first_child v = first_after (nodes_after v) v v

  unfoldable pub next_sibling : ℕ → ℕ
  next_sibling v = first_after (nodes_after v) v (t.parent v)

  -- the row that begins with node v
  unfoldable pub row_at : ℕ → Row
  row_at zero = empty
  row_at (suc i) =
      let v = suc i in
      node v (row_after (nodes_after v) v v) (row_after (nodes_after v) v (t.parent v))

  -- u is no node, or a child of p after v
  abbrev pub NoneOrChild : ℕ → ℕ → ℕ → Type 0
  NoneOrChild v p u = (u ≡ 0) ⊎ ((v < u) × (u < t.count) × (t.parent u ≡ p))
