-- Questions asked one after the other by `?`: a step that refuses refuses the whole, one that passes leaves the rest.
use mathlib.Core.Path.{◌≡◌, sym, ap, ◌∙◌}
use mathlib.Core.Bool.{Bool, true, false, ◌&&◌}
use Prim.Native.Nat.{ℕ}
use Rattle.std.specs.Result.{IsErrAnd}
use Rattle.std.specs.Prelude.{Result}
use Rattle.std.proofs.lemmas.Result.{err_from_is_err_and}
use Rattle.model.specs.Rules.{Verdict, passed, ask, ◌then◌}
use Rattle.model.proofs.Verdicts.{broken≢passed}
use Rattle.model.specs.Calls.{answer}
use Rattle.tree_file.specs.declared.rules.Refusal.{Refusal}
use Rattle.tree_file.specs.Refusals.{broken_by, verdict_of, answer_by}

-- a question asked of a test is one asked of what the test says
pub asked : {v : Verdict} (q i : ℕ) {b c : Bool} → v ≡ ask q i b → b ≡ c → v ≡ ask q i c
asked q i h e = h ∙ ap (ask q i) e

-- a question that passes leaves the rest
pub passes : {v x : Verdict} (w : Verdict) → passed ≡ v → x ≡ w → x ≡ v then w
passes w h k = k ∙ ap (λ v. v then w) h

-- one that does not is the whole
pub stops : {v : Verdict} (e : Refusal) (w : Verdict) → broken_by e ≡ v → broken_by e ≡ v then w
stops e w h = ap (λ v. v then w) h

-- two tests of one question, asked one after the other
pub both_pass : (q i : ℕ) (b c : Bool) → passed ≡ ask q i b → passed ≡ ask q i c → passed ≡ ask q i (b && c)
both_pass q i true c h k = k
both_pass q i false c h k = absurd (broken≢passed (sym h))

pub first_breaks : (e : Refusal) (q i : ℕ) (b c : Bool) → broken_by e ≡ ask q i b → broken_by e ≡ ask q i (b && c)
first_breaks e q i true c h = absurd (broken≢passed h)
first_breaks e q i false c h = h

pub second_breaks : (e : Refusal) (q i : ℕ) (b c : Bool) → passed ≡ ask q i b → broken_by e ≡ ask q i c → broken_by e ≡ ask q i (b && c)
second_breaks e q i true c h k = k
second_breaks e q i false c h k = absurd (broken≢passed (sym h))

-- at the exit of a `?` the ruling is that of the step
pub refused_as : {A : Type 0} (r : Result A Refusal) (e : Refusal) {v : Verdict} → IsErrAnd r (λ y. y ≡ e) → broken_by e ≡ v → verdict_of r ≡ v
refused_as r e h k = let p = err_from_is_err_and r h in rw (p.1, p.2) k

-- and so is the answer
pub answered_as : {A B : Type 0} (f : A → B) (r : Result A Refusal) (e : Refusal) {v : Verdict} (x : B) → IsErrAnd r (λ y. y ≡ e) → broken_by e ≡ v
    → answer_by f r ≡ answer v x
answered_as f r e x h k = let p = err_from_is_err_and r h in rw (p.1, p.2) (ap (λ v. answer v x) k)
