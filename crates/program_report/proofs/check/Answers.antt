-- `check`: the first look, the rules about the file, and the limits of rule 15.
use mathlib.Core.Path.{sym, ◌∙◌}
use Rattle.model.proofs.Verdicts.{answered_passed, refused_broken}
use Rattle.tree_file.proofs.Rulings.{asked, passes, stops, answered_as}
use Rattle.program_report.proofs.Rules.{verdict_told, limits_told, sizes_answered}
use Rattle.program_report.proofs.check.Goals as goal

pub returns-in_err-ask : goal.returns-in_err-ask
returns-in_err-ask c = answered_as _ _ _ _ c.from_residual.ensures.1 (stops _ _ c.in_err-ask.ensures ∙ verdict_told _)

pub returns-in_err-tree : goal.returns-in_err-tree
returns-in_err-tree c =
    answered_as _ _ _ _ c.from_residual-in_err-tree.ensures.1
    (passes _ c.in_ok-ask.ensures (stops _ _ (sym (refused_broken _ _ c.in_err-tree.ensures))) ∙ verdict_told _)

pub returns-in_err-ask-2 : goal.returns-in_err-ask-2
returns-in_err-ask-2 c =
    answered_as _ _ _ _ c.from_residual-in_err-ask-2.ensures.1
    (passes _ c.in_ok-ask.ensures
    (passes _ (sym (answered_passed _ _ c.in_ok-tree.ensures).0) (asked _ _ c.in_err-ask-2.ensures (c.is_small.ensures ∙ limits_told _ c.in_ok-tree.ensures)))
    ∙ verdict_told _)

pub returns : goal.returns
returns c =
    sizes_answered _ c.in_ok-tree.ensures
    (passes _ c.in_ok-ask.ensures
    (passes _ (sym (answered_passed _ _ c.in_ok-tree.ensures).0) (asked _ _ c.in_ok-ask-2.ensures (c.is_small.ensures ∙ limits_told _ c.in_ok-tree.ensures)))
    ∙ verdict_told _)
