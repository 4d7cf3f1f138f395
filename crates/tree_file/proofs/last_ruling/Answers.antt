-- The rules of a record past 10: 11 in version 1, else 17 and then 24.
use mathlib.Core.Path.{◌≡◌, sym, ◌∙◌}
use mathlib.Core.Bool.{true, false}
use Rattle.model.specs.File.{has_ratios}
use Rattle.tree_file.proofs.Records.{ratio_asked, bytes_asked}
use Rattle.tree_file.proofs.Rulings.{asked, passes, stops, refused_as}
use Rattle.tree_file.proofs.last_ruling.Goals as goal

pub returns-then-has_ratios : goal.returns-then-has_ratios
returns-then-has_ratios c =
    let ratios : has_ratios c.args.file.now ≡ true = sym c.has_ratios.ensures ∙ c.if-has_ratios.true in
    asked _ _ c.ask_of.ensures c.is_within.ensures ∙ sym (ratio_asked _ _ ratios)

pub returns-in_err-ask_of : goal.returns-in_err-ask_of
returns-in_err-ask_of c =
    let no_ratios : has_ratios c.args.file.now ≡ false = sym c.has_ratios.ensures ∙ c.if-has_ratios.false in
    refused_as _ _ c.from_residual.ensures.1 (stops _ _ (asked _ _ c.in_err-ask_of.ensures c.cachable_holds.ensures) ∙ sym (bytes_asked _ _ no_ratios))

pub returns : goal.returns
returns c =
    let no_ratios : has_ratios c.args.file.now ≡ false = sym c.has_ratios.ensures ∙ c.if-has_ratios.false in
    passes _ (asked _ _ c.in_ok-ask_of.ensures c.cachable_holds.ensures) (asked _ _ c.ask_of-3.ensures c.open_holds.ensures) ∙ sym (bytes_asked _ _ no_ratios)
