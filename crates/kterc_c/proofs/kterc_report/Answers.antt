-- `kterc_report`: both answers together.
use Rattle.kterc_c.proofs.Named.{report_told}
use Rattle.kterc_c.proofs.kterc_report.Goals as goal

pub returns : goal.returns
returns c = let whole = report_told c.code_of.ensures c.report.ensures in
    record { value = whole.0; fact = whole.1 }
