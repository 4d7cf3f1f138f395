-- `put_word`: appends a space and a number.
use borrow.Author.Rules.{rules}
use Rattle.text_bytes.proofs.Appended.{append_then}
use Rattle.report_text.proofs.put_word.Goals as goal

pub returns : goal.returns
returns c = record { appended = append_then c.put_byte-digits.ensures c.put_number.ensures.appended; within = search rules }
