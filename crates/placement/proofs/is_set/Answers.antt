-- `is_set`: rule 12: the members ascend, and each is open.
use mathlib.Core.Path.{◌≡◌, sym, ◌∙◌}
use mathlib.Core.Bool.{true}
use native.Mathlib.Omega.{arith}
use Rattle.std.proofs.Common.{rules, tests}
use Rattle.std.proofs.lemmas.Grind.{get_or_default_zero}
use Rattle.std.proofs.lemmas.Iterator.{YieldsList-from_slice}
use Rattle.std.proofs.lemmas.Iterator.Adapters.{serves_from_places}
use Rattle.std.proofs.lemmas.Iterator.Search.{all_from_yields_List}
use Rattle.model.specs.File.{tree_of}
use Rattle.model.specs.Rules.{ascends}
use Rattle.model.proofs.Ascending.{not_ascending, set_by_open}
use Rattle.fields.specs.Table.{InFile}
use Rattle.placement.proofs.Members.{all_asked, entry_in_set}
use Rattle.placement.proofs.is_set.Goals as goal

-- each member is a node of the file
pub all-requires-clause-callable : goal.all-requires-clause-callable
all-requires-clause-callable c =
    let up : ascends 0 c.args.n c.args.set.now ≡ true = sym c.ascending.ensures ∙ c.if-ascending.true in
    serves_from_places (YieldsList-from_slice c.args.set.now cc) (λ x q k. search (rules, tests))
    (λ x i l e.
    let known = entry_in_set _ 0 _ i l up in
    let here : InFile c.args.file.now x.now = c.requires.records x.now (omega (arith, e, get_or_default_zero c.args.set.now i x.now l, known.1)) in
    search (rules, here))

pub returns-then-ascending : goal.returns-then-ascending
returns-then-ascending c =
    let is_open = (tree_of c.args.file.now).is_open in
    let each = all_from_yields_List is_open _ _ c.all.result c.all.ensures.ran (YieldsList-from_slice c.args.set.now cc) (λ x b q k. search (rules, tests)) in
    each ∙ all_asked is_open c.args.set.now ∙ sym (set_by_open _ _ c.requires.nodes (sym c.ascending.ensures ∙ c.if-ascending.true))

pub returns-else-ascending : goal.returns-else-ascending
returns-else-ascending c = c.if-ascending.false ∙ sym (not_ascending _ _ c.requires.nodes (sym c.ascending.ensures ∙ c.if-ascending.false))
