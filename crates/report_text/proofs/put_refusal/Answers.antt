-- `put_refusal`: the line of a refusal.
use borrow.Author.Rules.{rules}
use Rattle.text_bytes.proofs.Appended.{append_then}
use Rattle.report_text.proofs.Lines.{refusal_pieces}
use Rattle.report_text.proofs.put_refusal.Goals as goal

pub returns : goal.returns
returns c = record {
  appended = rw (refusal_pieces, ← c.number.ensures, ← c.from.ensures, ← c.from-2.ensures) (append_then (append_then (append_then c.put_bytes-end.ensures c.put_word-end.ensures.appended) c.put_word-end-2.ensures.appended) c.put_byte.ensures);
  within = search rules;
}
