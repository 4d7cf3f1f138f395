-- Two counts at once: at most k members, of which at most q are outside a standing set. One number carries both.
-- Nothing cites it yet: it is for 02, item 14.
use Rattle.std.specs.Prelude.{Bool, cond, ◌&&◌, ℕ, ◌+◌, ◌*◌, ◌%◌, leb}
use Rattle.model.specs.File.{most_nodes}
use Rattle.best_rows.specs.Least.{first_least}
use Rattle.best_rows.specs.Rows.{Row, Choice, Site}
use Rattle.best_rows.specs.Best.{cap, best, choose}
use Rattle.best_rows.specs.BestAt.{one}

module _ (outside : ℕ → Bool) where
  -- a member outside counts for one
  abbrev pub one_outside : ℕ → Bool → ℕ
  one_outside v u = cond (u && outside v) 1 0

  -- every member counts for one, and one outside for as much as there can be nodes besides
  abbrev pub both_counts : ℕ → Bool → ℕ
  both_counts v u = one v u + most_nodes * one_outside v u

  module _ {C : Type 0} (p : Bool) (s : ℕ → Site C) (r : Row) (c : C) (k : ℕ) where
    -- the least with both counts as n says, if that is at most k members
    unfoldable pub best_of_few : ℕ → ℕ
    best_of_few n = cond (leb (n % most_nodes) k) (best both_counts p s r c n) cap

    -- the choice of least cost with at most k members, of which at most q are outside
    abbrev pub choose_moved : ℕ → Choice r
    choose_moved q = choose both_counts p s r c (first_least best_of_few (k + most_nodes * q))
