-- The questions of the call, one after the other: the rules about the file, rule 16, rule 13.
use mathlib.Core.Path.{◌≡◌, refl, sym, ap, ◌∙◌}
use mathlib.Core.Bool.{Bool, false, ◌&&◌}
use mathlib.Core.List.{List}
use Prim.Native.Nat.{ℕ, ◌<◌}
use lib.Dec.{leb, ltb}
use lib.ListN.{length}
use borrow.Author.Tests.{leb-true, lt-leb}
use Rattle.std.specs.Result.{IsErrAnd}
use Rattle.std.specs.Prelude.{Result}
use Rattle.laws.specs.Fronts.{FrontOnly}
use Rattle.model.specs.File.{count_of, budget_of}
use Rattle.model.specs.Rules.{passed, ask, file_verdict, ask_node, scratch_words}
use Rattle.model.specs.Calls.{answered, refused, answer, Least}
use Rattle.model.specs.WithOrWithout.{both_least, with_or_without_verdict, WithOrWithoutCall}
use Rattle.model.proofs.CallLaws.{calls_lawful}
use Rattle.model.proofs.Verdicts.{ask_passed, then_passed, answered_passed, refused_broken}
use Rattle.fields.specs.declared.Tree as code
use Rattle.tree_file.specs.declared.rules.Refusal.{Refusal}
use Rattle.tree_file.specs.Refusals.{rule_number}
use Rattle.tree_file.specs.Checks.{sizes_of}
use Rattle.tree_file.proofs.Rulings.{passes, answered_as}
use Rattle.lent.specs.Lent.{LentRoom}
use Rattle.lent.proofs.Asked.{answered_sizes}
use Rattle.one_site.specs.declared.Leasts.{Leasts}
use Rattle.one_site.specs.Site.{site_verdict, AskedSite}
use Rattle.one_site.specs.Answers.{both_of, leasts_of}

-- ---- rule 16, as tests in code ask it

module _ (v n : ℕ) (rest : Bool) where
  -- the server is no site
  pub node_zero_lem : v < 1 → false ≡ (leb 1 v && ltb v n && rest)
  node_zero_lem h = rw (lt-leb 1 v h)

-- ---- what the check answers

module _ (file : List ℕ) (v b : ℕ) {sizes : code.Tree} (e : answered sizes ≡ answer (file_verdict file) (sizes_of file)) where
  -- rule 16 with the sizes found is that of the file
  pub site_of_file : {x : Bool} → x ≡ (leb 1 v && ltb v sizes.nodes && leb b sizes.budget) → x ≡ (leb 1 v && ltb v (count_of file) && leb b (budget_of file))
  site_of_file h = rw (answered_sizes file e).of_file at h

  -- both rules hold too
  pub site_held : (words : ℕ) → passed ≡ ask_node file v b → passed ≡ ask 13 0 (leb (scratch_words file) words)
      → answered sizes ≡ answer (site_verdict file v b words) (sizes_of file)
  unfolding site_verdict
  site_held words h k =
      let ok = (answered_sizes file e).accepted in
      e ∙ ap (λ a. answer a (sizes_of file)) (ok ∙ passes _ (sym ok) (passes _ h k))

-- ---- the call

module _ (file : List ℕ) (v b : ℕ) (scratch : List ℕ) where
  pub verdict_is : with_or_without_verdict file v b scratch ≡ site_verdict file v b (length scratch)
  unfolding with_or_without_verdict site_verdict
  verdict_is = refl

  -- a refusal changes nothing
  pub site_refused : (r : Result Leasts Refusal) (e : Refusal) → IsErrAnd r (λ y. y ≡ e)
      → refused (rule_number e.rule) e.record ≡ answer (site_verdict file v b (length scratch)) (sizes_of file)
      → WithOrWithoutCall file v b scratch (leasts_of r) scratch
  site_refused r e h k =
      let told = verdict_is ∙ refused_broken (site_verdict file v b (length scratch)) (sizes_of file) k in
      record { answers = answered_as both_of r e (both_least file v b) h (sym told); scratch_after = rw told refl }

  -- what the questions say where they have passed
  module _ {sizes : code.Tree} (e : answered sizes ≡ answer (site_verdict file v b (length scratch)) (sizes_of file)) where
    all_passed : site_verdict file v b (length scratch) ≡ passed
    all_passed = (answered_passed (site_verdict file v b (length scratch)) (sizes_of file) e).0

    each_passed : (file_verdict file ≡ passed) × (ask_node file v b ≡ passed) × (ask 13 0 (leb (scratch_words file) (length scratch)) ≡ passed)
    unfolding site_verdict
    each_passed =
        let first = then_passed (file_verdict file) _ all_passed in
        let second = then_passed (ask_node file v b) _ first.1 in
        (first.0, second.0, second.1)

    pub site_room_lem : LentRoom file sizes scratch
    site_room_lem =
        record {
          of_file = record { accepted = each_passed.0; of_file = (answered_passed (site_verdict file v b (length scratch)) (sizes_of file) e).1 };
          room = leb-true (scratch_words file) (length scratch) (ask_passed 13 0 _ each_passed.2);
        }

    pub site_asked : AskedSite file v b
    site_asked =
        let holds = ((calls_lawful file).node_asked v b).0 each_passed.1 in
        record { accepted = each_passed.0; site = holds.0; node = holds.1; budget = holds.2 }

    pub site_answered : {a : Least × Least} {scratch' : List ℕ} → a ≡ both_least file v b
        → FrontOnly (scratch_words file) scratch scratch' → WithOrWithoutCall file v b scratch (answered a) scratch'
    site_answered h f =
        let told = verdict_is ∙ all_passed in
        record { answers = rw (told, h); scratch_after = rw told (f.long, f.rest) }
