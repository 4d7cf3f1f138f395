use Rattle.std.proofs.Common.{rules, ◌∙◌}
use Rattle.kterc.proofs.Look.{written}
use Rattle.kterc.proofs.print_report.Goals as goal

pub returns : goal.returns
returns g c = written _ _ _ _ _ _ _ c.write_all.ensures.bytes (c.bytes.ensures ∙ c.program_text-text.ensures) (search rules) c.in_ok-n.ensures.bytes
