-- `put_line`: appends the line of a budget.
use native.Mathlib.Nat.{add-sub_cancel_left}
use native.Mathlib.Omega.{arith}
use Rattle.std.proofs.lemmas.List.{length-take}
use Rattle.model.specs.Report.{set_of_row}
use Rattle.text_bytes.proofs.Appended.{append_then}
use Rattle.report_text.proofs.Lines.{budget_line_pieces, row_there}
use Rattle.report_text.proofs.put_line.Goals as goal

pub overflow_mul-b : goal.overflow_mul-b
overflow_mul-b c = omega (arith, row_there c.requires.report_buffers c.requires.b_le_k.0)

pub put_nodes-end-requires : goal.put_nodes-end-requires
put_nodes-end-requires c = rw (add-sub_cancel_left, length-take) (omega arith)

pub returns : goal.returns
unfolding set_of_row
returns c =
    let nodes = rw add-sub_cancel_left at c.put_nodes-end.ensures.appended in
    let fits = rw (add-sub_cancel_left, length-take) at c.put_nodes-end.ensures.within in
    record {
      appended = rw budget_line_pieces (append_then (append_then (append_then (append_then c.put_number-end.ensures.appended c.put_word-end.ensures.appended) c.put_word-end-2.ensures.appended) nodes) c.put_byte.ensures);
      within = omega (arith, fits, c.put_number-end.ensures.within, c.put_word-end.ensures.within, c.put_word-end-2.ensures.within, c.put_byte.ensures.ended);
    }
