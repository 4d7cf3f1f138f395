-- The ranking call answer by answer: each refusal, and the set that ranks first.
use mathlib.Core.Path.{◌≡◌, sym}
use mathlib.Core.Bool.{Bool, cond}
use mathlib.Core.List.{List}
use Prim.Native.Nat.{ℕ}
use Rattle.model.specs.File.{tree_of, demand_of}
use Rattle.std.specs.Prelude.{Result}
use Rattle.std.specs.Result.{IsErrAnd}
use Rattle.model.specs.Rules.{passed}
use Rattle.model.specs.Ties.{ranks_before}
use Rattle.model.specs.Calls.{answered, first, second, rank_verdict, ranking}
use Rattle.compare.specs.Answers.{ranking_of}
use Rattle.tree_file.specs.declared.rules.Refusal.{Refusal}
use Rattle.tree_file.specs.Refusals.{broken_by}
use Rattle.tree_file.proofs.Rulings.{answered_as}
use Rattle.compare.specs.declared.Ranking.{Ranking}

-- no rule is broken: the second set where it ranks before the first, else the first
pub ranking_answered : (file k l : List ℕ) → passed ≡ rank_verdict file k l → {b : Bool} → ranks_before (tree_of file) (demand_of file) l k ≡ b
    → answered (cond b second first) ≡ ranking file k l
unfolding ranking
ranking_answered file k l all e = rw (sym all, e)

-- a rule is broken
pub ranking_refused : (file k l : List ℕ) (r : Result Ranking Refusal) (e : Refusal) → IsErrAnd r (λ y. y ≡ e) → broken_by e ≡ rank_verdict file k l
    → ranking_of r ≡ ranking file k l
unfolding ranking
ranking_refused file k l r e h breaks = answered_as _ r e _ h breaks
