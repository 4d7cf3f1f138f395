-- `report_lines`: the text of a report, by value.
use native.Mathlib.Omega.{arith}
use Rattle.report_text.proofs.Texts.{appended_text_within, memory_reported, memory_lines}
use Rattle.report_text.proofs.report_lines.Goals as goal

pub put_lines-length-requires : goal.put_lines-length-requires
put_lines-length-requires c = record {
  report_buffers = memory_reported _ c.requires.0 c.requires.1 c.report_of-report.ensures;
  lines_room_in_bounds = omega arith;
}

pub returns : goal.returns
returns c = rw (memory_lines _ c.requires.1 c.report_of-report.ensures) at (appended_text_within c.put_lines-length.ensures (omega arith))
