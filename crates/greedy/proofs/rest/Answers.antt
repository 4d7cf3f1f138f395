-- `rest`: the same total and node 0 for every step that is left.
use mathlib.Core.Path.{◌≡◌, ap, ◌∙◌}
use mathlib.Core.List.{map}
use Prim.Native.Nat.{◌+◌, ◌-◌}
use native.Mathlib.Omega.{arith}
use lib.Seq.{sets}
use Rattle.laws.specs.Lists.{range}
use Rattle.greedy.proofs.Runs.{part_filled}
use Rattle.greedy.proofs.rest.Goals as goal

pub returns : goal.returns
returns c = let left : c.args.k + 1 - (c.args.b + 1) ≡ c.args.k - c.args.b = omega arith in
    record {
      totals_filled = part_filled _ _ (c.args.b + 1) _ _ (omega arith) (c.fill-2.ensures.after (λ y e. e))
          ∙ ap (λ j. sets c.args.totals.now (c.args.b + 1) (map (λ _. c.args.total.0) (range 0 j))) left;
      nodes_filled = part_filled _ _ c.args.b _ _ (omega arith) (c.fill.ensures.after (λ y e. e));
    }
