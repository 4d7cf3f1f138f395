-- `put_lines`: appends the line of every budget.
use mathlib.Core.Path.{◌≡◌}
use mathlib.Core.List.{flat_map}
use Prim.Native.Nat.{suc, ◌*◌}
use native.Mathlib.Numerals.{add-one}
use native.Mathlib.Omega.{arith}
use borrow.Author.Rules.{rules}
use Rattle.laws.specs.Lists.{range}
use Rattle.laws.proofs.Rows.{flat_snoc}
use Rattle.text_bytes.proofs.Appended.{append_keeps_length}
use Rattle.report_text.specs.Lines.{line_room}
use Rattle.report_text.proofs.Rooms.{within_none, within_next}
use Rattle.report_text.proofs.put_lines.Goals as goal

pub loop-b-init : goal.loop-b-init
unfolding flat_map range
loop-b-init c = within_none (0 * line_room) _ _

pub put_line-end-requires : goal.put_line-end-requires
put_line-end-requires c = record {
  report_buffers = c.requires.report_buffers;
  b_le_k = (search rules, omega (arith, append_keeps_length c.loop-b.invariant.appended));
}

pub loop-b-preserved : goal.loop-b-preserved
loop-b-preserved c = within_next c.loop-b.b (rw add-one (flat_snoc _ _)) c.loop-b.invariant c.put_line-end.ensures

pub shape_of-text : goal.shape_of-text
shape_of-text c = append_keeps_length c.loop-b.invariant.appended

pub returns : goal.returns
returns c = let all : c.loop-b.b ≡ suc c.args.k = omega arith in
    record { appended = rw all at c.loop-b.invariant.appended; within = omega arith }
