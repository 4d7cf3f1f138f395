-- `costs`: what a node and its children cost with n caches at or below the node, by whether the node is one of them.
use mathlib.Core.Path.{sym, ◌∙◌}
use Prim.Native.Nat.{◌-◌}
use native.Mathlib.Omega.{arith}
use Rattle.best_rows.specs.Best.{cap}
use Rattle.lines.proofs.Node.{cost_without_caches, cost_member, cost_other}
use Rattle.lines.proofs.NodeLines.costs.Goals as goal

pub add-other-requires : goal.add-other-requires
unfolding cap
add-other-requires c = let parts = c.args.self.now.parts in
    omega (arith, parts.uncached_line.within c.args.n, parts.pays)

pub returns-then-n-eq0 : goal.returns-then-n-eq0
unfolding cap
returns-then-n-eq0 c = record {
  member_value = sym (cost_without_caches _ _ _ _ _ (omega arith));
  other_value = rw c.entry.ensures at c.add-other.ensures ∙ sym (cost_other _ _ _ _ _);
}

pub add-requires : goal.add-requires
unfolding cap
add-requires c = let parts = c.args.self.now.parts in
    omega (arith, parts.cached_line.within (c.args.n - 1), parts.pays)

pub returns : goal.returns
returns c = record {
  member_value = rw c.entry-2.ensures at c.add.ensures ∙ sym (cost_member _ _ _ _ _ (omega arith));
  other_value = rw c.entry.ensures at c.add-other.ensures ∙ sym (cost_other _ _ _ _ _);
}
