-- `refusal_line`: the line of a refusal, by value.
use native.Mathlib.Omega.{arith}
use Rattle.report_text.proofs.Texts.{appended_text_within}
use Rattle.report_text.proofs.refusal_line.Goals as goal

pub returns : goal.returns
returns c = appended_text_within c.put_refusal-length.ensures (omega arith)
