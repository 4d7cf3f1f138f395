-- `own_line`: stores the first entries of a node's line.
use mathlib.Core.Path.{◌≡◌, refl, ◌∙◌}
use Prim.Native.Nat.{◌+◌, ◌-◌}
use native.Mathlib.Omega.{arith}
use lib.ListN.{length, length-set}
use Rattle.laws.proofs.FrontValues.{entries_next}
use Rattle.best_rows.specs.Best.{cap}
use Rattle.lines.proofs.Entries.{stored_within, by_entries}
use Rattle.lines.proofs.Node.{first_within_lem, own_first, own_next, own_last}
use Rattle.lines.proofs.NodeLines.own_line.Goals as goal

pub own_entry-requires : goal.own_entry-requires
unfolding cap
own_entry-requires c = let parts = c.args.self.now.parts in (parts.pays.0, parts.pays.1, omega arith, first_within_lem parts)

pub loop-n-init : goal.loop-n-init
unfolding cap
loop-n-init c = entries_next _ _ 0 _ (λ j h. absurd (omega arith)) (omega arith) (own_first _ _ _ _ 0 c.args.self.now.parts refl c.own_entry.ensures)

pub own_entry-requires-in-loop-n : goal.own_entry-requires-in-loop-n
own_entry-requires-in-loop-n c = let parts = c.args.self.now.parts in (
  parts.pays.0,
  parts.pays.1,
  stored_within _ (c.loop-n.n - 1) parts.cached_line (omega arith),
  stored_within _ c.loop-n.n parts.uncached_line (omega (arith, parts.alike)),
)

pub loop-n-preserved : goal.loop-n-preserved
loop-n-preserved c =
    let long : length c.loop-n.line ≡ length c.args.line.now = c.loop-n.auto.line ∙ simp length-set in
    entries_next _ _ c.loop-n.n _ c.loop-n.invariant (omega arith) (own_next _ _ _ _ c.loop-n.n c.args.self.now.parts (omega arith) (omega arith) c.own_entry-in-loop-n.ensures)

pub own_entry-requires-then-w-end : goal.own_entry-requires-then-w-end
unfolding cap
own_entry-requires-then-w-end c = let parts = c.args.self.now.parts in
    (parts.pays.0, parts.pays.1, stored_within _ (length c.args.self.now.cached.now - 1) parts.cached_line (omega (arith, parts.cached_line.some)), omega arith)

pub returns-then-w-end : goal.returns-then-w-end
unfolding cap
returns-then-w-end c =
    let long : length c.loop-n.line ≡ length c.args.line.now = c.loop-n.auto.line ∙ simp length-set in
    let w = length c.args.self.now.cached.now in
    let all : (c.loop-n.n ≡ w) × (length c.args.line.now ≡ w + 1) = (omega (arith, c.args.self.now.parts.cached_line.some), omega (arith, c.requires.1)) in
    rw all.1
    (by_entries _ _ (w + 1) (omega (arith, length-set c.loop-n.line w c.own_entry-then-w-end.result.0))
    (entries_next _ _ w _ (rw all.0 at c.loop-n.invariant) (omega arith)
    (own_last _ _ _ _ w c.args.self.now.parts c.args.self.now.parts.cached_line.some refl c.own_entry-then-w-end.ensures)))

pub returns-else-w-end : goal.returns-else-w-end
returns-else-w-end c =
    let long : length c.loop-n.line ≡ length c.args.line.now = c.loop-n.auto.line ∙ simp length-set in
    let all : c.loop-n.n ≡ length c.args.line.now = omega (arith, c.args.self.now.parts.cached_line.some, c.requires) in
    by_entries _ _ _ long (rw all at c.loop-n.invariant)
