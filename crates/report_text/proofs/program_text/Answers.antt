-- `program_text`: what the program prints, for every input.
use Rattle.report_text.proofs.Texts.{accepted_answer, accepted_text, refused_text}
use Rattle.report_text.proofs.program_text.Goals as goal

pub report_lines-requires : goal.report_lines-requires
report_lines-requires c = accepted_answer _ c.in-Ok.ensures

pub returns-in-Ok : goal.returns-in-Ok
returns-in-Ok c = rw (accepted_text _ c.in-Ok.ensures) c.report_lines.ensures

pub returns-in-Err : goal.returns-in-Err
returns-in-Err c = rw (refused_text _ c.in-Err.ensures) c.refusal_line.ensures
