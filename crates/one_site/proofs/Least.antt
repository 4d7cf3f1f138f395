-- From the server's line to the least total of the sets that contain a node, or of those that don't; and both.
use mathlib.Core.Path.{◌≡◌, refl, sym, ap, ap₂}
use mathlib.Core.Bool.{Bool, true, false, ◌&&◌}
use mathlib.Core.List.{List, [], ◌∷◌}
use mathlib.Core.Logic.{◌⊎◌, inl, inr}
use Prim.Native.Nat.{ℕ, ◌+◌, min}
use native.Mathlib.Numerals.{add-one}
use native.Mathlib.Omega.{arith}
use lib.Dec.{leb}
use borrow.Author.Tests.{leb-true, leb-false}
use Rattle.laws.proofs.Bools.{by_test, both}
use Rattle.model.specs.File.{tree_of, demand_of}
use Rattle.model.specs.Calls.{Least, none, least_is}
use Rattle.model.specs.WithOrWithout.{without_it, both_least, LeastWhere}
use Rattle.model.proofs.WithOrWithout.{empty_where, single_where, with_or_without_said}
use Rattle.best_rows.specs.Least.{first_least, running_min}
use Rattle.best_rows.specs.Best.{cap}
use Rattle.best_rows.specs.Guarded.{wish, may_be_under}
use Rattle.best_rows.specs.TreeRows.{first_child}
use Rattle.best_rows.specs.BestAt.{best_at, least_count}
use Rattle.best_rows.proofs.Least.{running_min_is}
use Rattle.best_rows.proofs.Table.{best_at_within_cap}
use Rattle.best_rows.proofs.Optimum.{wished_found}
use Rattle.node_words.specs.Words.{word_of, child_word}
use Rattle.lines.specs.Line.{entry_of}
use Rattle.lines.proofs.RunningMin.{running_min_same}
use Rattle.places.specs.declared.Place.{Place}
use Rattle.table.specs.Table.{line_in, FullTable}
use Rattle.table.proofs.Server.{server_line_lem}
use Rattle.one_site.specs.Site.{AskedSite, SomeSet}

-- ---- one turn of the loop over a line's entries

pub least_begins : (f : ℕ → ℕ) → cap ≡ running_min cap f 0
unfolding running_min
least_begins f = refl

pub least_next : (f : ℕ → ℕ) (n : ℕ) {x : ℕ} → x ≡ running_min cap f n → min x (f n) ≡ running_min cap f (n + 1)
unfolding running_min
least_next f n e = rw (add-one n, e)

-- ---- the least of the server's line

module _ {file : List ℕ} {v b : ℕ} (u : Bool) {places : List Place} {s l : List ℕ} (asked : AskedSite file v b)
    (table : FullTable file (may_be_under (tree_of file) (wish v u)) places s) (e : l ≡ line_in places s (word_of s 0 child_word) 0) where
  -- the costs that it holds
  abbrev server_best : ℕ → ℕ
  server_best = best_at (tree_of file) (demand_of file) (may_be_under (tree_of file) (wish v u)) (first_child (tree_of file) 0) 0

  least_found_lem : {x : ℕ} → x ≡ running_min cap (entry_of l) (b + 1)
      → x ≡ server_best (least_count (tree_of file) (demand_of file) (may_be_under (tree_of file) (wish v u)) b)
  unfolding least_count
  least_found_lem f =
      let t = tree_of file in
      let held = server_line_lem table e in
      let same = running_min_same cap (entry_of l) server_best (b + 1) (λ i h. ap (min cap) (held.is i (omega (arith, asked.budget)))) in
      let is : running_min cap server_best (b + 1) ≡ min cap (server_best (first_least server_best b)) = rw (add-one b) (running_min_is server_best cap b) in
      omega (arith, f, same, is, best_at_within_cap t (demand_of file) (may_be_under t (wish v u)) (first_child t 0) 0 (first_least server_best b))

  -- it is the least total of these sets, where there is one
  pub least_where_found : {x : ℕ} → x ≡ running_min cap (entry_of l) (b + 1) → SomeSet (tree_of file) b v u
      → LeastWhere (tree_of file) (demand_of file) b v u (least_is x)
  least_where_found f some =
      rw (least_found_lem f) (wished_found file asked.accepted b v u asked.site asked.node some.0 some.1)

-- ---- both

module _ {file : List ℕ} {v b : ℕ} (asked : AskedSite file v b) where
  -- the empty set doesn't contain the node, and the set of the node alone does, where it is open and b is not 0
  pub some_without : SomeSet (tree_of file) b v false
  some_without = ([], empty_where (tree_of file) b v)

  pub some_with : (leb 1 b && (tree_of file).is_open v) ≡ true → SomeSet (tree_of file) b v true
  some_with h =
      let told = both (leb 1 b) _ h in
      (v ∷ [], single_where (tree_of file) b v asked.site asked.node (leb-true 1 b told.0) told.1)

  module _ {y : ℕ} (lacking : LeastWhere (tree_of file) (demand_of file) b v false (least_is y)) where
    without_is : least_is y ≡ without_it (tree_of file) (demand_of file) b v
    without_is = (with_or_without_said (tree_of file) (demand_of file) b v asked.site asked.node).without_only (least_is y) lacking

    pub both_are : {x : ℕ} → LeastWhere (tree_of file) (demand_of file) b v true (least_is x) → (least_is x, least_is y) ≡ both_least file v b
    both_are {x} having =
        ap₂ (λ (p q : Least). (p, q))
        ((with_or_without_said (tree_of file) (demand_of file) b v asked.site asked.node).with_only (least_is x) having) without_is

    pub without_alone : (leb 1 b && (tree_of file).is_open v) ≡ false → (none, least_is y) ≡ both_least file v b
    without_alone h =
        let said = with_or_without_said (tree_of file) (demand_of file) b v asked.site asked.node in
        let why = by_test (λ z. leb 1 b ≡ z → (z && (tree_of file).is_open v) ≡ false → (b ≡ 0) ⊎ ((tree_of file).is_open v ≡ false)) (leb 1 b)
        (λ _ _ o. inr o) (λ _ n _. let low = leb-false 1 b n in inl (omega arith)) refl h in
        ap₂ (λ (p q : Least). (p, q)) (sym (said.with_none.1 why)) without_is
