-- The program's questions: its first look, the rules about the file, and the rest of rule 15.
use mathlib.Core.Path.{◌≡◌, refl, ap}
use mathlib.Core.Bool.{Bool, true, false, ◌&&◌}
use mathlib.Core.List.{List}
use Prim.Native.Nat.{ℕ, ◌≤◌, ◌<◌}
use native.Mathlib.Omega.{arith}
use lib.Dec.{leb, ltb}
use lib.ListN.{length, take}
use lib.Seq.{length-take-le, take_all}
use borrow.Author.Tests.{ltb-true, ltb-false}
use Rattle.laws.proofs.Bools.{by_test}
use Rattle.model.specs.Rules.{passed, ◌then◌, file_verdict, ask_program}
use Rattle.model.specs.Calls.{answered, answer}
use Rattle.model.specs.Report.{first_look, program_nodes, program_height, program_budget, is_small, verdict_within, program_verdict}
use Rattle.model.proofs.Verdicts.{ask_passed, then_passed, answered_passed}
use Rattle.fields.specs.declared.Tree as code
use Rattle.tree_file.specs.Checks.{sizes_of}

-- a file that the program accepts
pub program_accepted : (file : List ℕ) → program_verdict file ≡ passed → (file_verdict file ≡ passed) × (is_small file ≡ true)
unfolding verdict_within
program_accepted file e =
    let look = then_passed (ask_program (ltb (length file) first_look)) _ e in
    let rules = then_passed (file_verdict file) _ look.1 in
    (rules.0, ask_passed 15 0 (is_small file) rules.1)

module _ (input : List ℕ) where
  -- what is asked of the first look is asked of the whole input: with all bytes of the look there the first question refuses
  pub verdict_told : (ask_program (ltb (length input) first_look) then file_verdict input then ask_program (is_small input)) ≡ program_verdict (take first_look input)
  unfolding verdict_within
  verdict_told =
      by_test (λ b. ltb (length input) first_look ≡ b
      → (ask_program b then file_verdict input then ask_program (is_small input)) ≡ program_verdict (take first_look input)) (ltb (length input) first_look)
      (λ _ e. let short = ltb-true (length input) first_look e in rw (take_all first_look input (omega arith), e))
      (λ _ e. rw (length-take-le first_look input (ltb-false (length input) first_look e)))
      refl

  -- n, k and h found are judged as the file's
  pub limits_told : {sizes : code.Tree} → answered sizes ≡ answer (file_verdict input) (sizes_of input)
      → (leb sizes.nodes program_nodes && leb sizes.height program_height && leb sizes.budget program_budget) ≡ is_small input
  limits_told e = rw (answered_passed (file_verdict input) (sizes_of input) e).1

  -- all rules hold
  pub sizes_answered : {sizes : code.Tree} → answered sizes ≡ answer (file_verdict input) (sizes_of input) → passed ≡ program_verdict (take first_look input)
      → answered sizes ≡ answer (program_verdict (take first_look input)) (sizes_of input)
  sizes_answered e h = rw (← h) (ap answered (answered_passed (file_verdict input) (sizes_of input) e).1)
