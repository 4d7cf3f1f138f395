-- `report_of`: the report call's answers, in memory that passes rules 13 and 14.
use mathlib.Core.Path.{refl, ◌∙◌}
use Rattle.program_report.proofs.Rules.{program_accepted}
use Rattle.program_report.proofs.Memory.{memory_enough, written, is_unrefused}
use Rattle.program_report.proofs.report_of.Goals as goal

pub unwrap-requires : goal.unwrap-requires
unwrap-requires c =
    let ok = program_accepted _ c.requires in
    is_unrefused _ (c.report-ruling.ensures.verdict ∙ memory_enough _ ok.1 _ ok.0 refl refl refl refl refl)

pub returns : goal.returns
returns c = let ok = program_accepted _ c.requires in written _ c.report-ruling.ensures (memory_enough _ ok.1 _ ok.0 refl refl refl refl refl)
