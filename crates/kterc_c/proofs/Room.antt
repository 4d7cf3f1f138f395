-- No room for what is written: the rules that were checked, then rule 14, which is broken.
use mathlib.Core.Path.{◌≡◌, refl}
use Prim.Native.Nat.{ℕ}
use Rattle.std.specs.Prelude.{Result, Ok, Err}
use Rattle.model.specs.Rules.{Verdict, broken, passed, ◌then◌}
use Rattle.model.specs.Calls.{answer}
use Rattle.model.proofs.Verdicts.{answered_passed, refused_broken}
use Rattle.fields.specs.declared.Tree as code
use Rattle.tree_file.specs.declared.rules.Refusal.{Refusal}
use Rattle.tree_file.specs.Refusals.{verdict_of}
use Rattle.tree_file.specs.Checks.{answer_of}

-- the verdict of rules that were checked, with rule 14 after it
pub short_after : (checked : Result code.Tree Refusal) (v : Verdict) (sizes : code.Tree) → answer_of checked ≡ answer v sizes
    → (verdict_of checked then broken 14 0) ≡ (v then broken 14 0)
short_after (Ok x) v sizes e = rw (answered_passed v sizes e).0
short_after (Err r) v sizes e = rw (refused_broken v sizes e)

-- a verdict that ends in a refusal is one
pub ends_refused : (a : Verdict) (q i : ℕ) → (p : ℕ) × (j : ℕ) × ((a then broken q i) ≡ broken p j)
ends_refused passed q i = (q, i, refl)
ends_refused (broken p j) q i = (p, j, refl)
