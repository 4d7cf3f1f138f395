-- The report on the first look at a file is the report on the file.
use Rattle.std.proofs.Common.{◌≡◌, ℕ, List, take, take-take, le_refl, ap, ◌∙◌, subst, refl, OnOk, IfSome, Ok, Err, None, Some}
use Rattle.std.specs.declared.result.Result.{Result}
use Rattle.std.specs.declared.option.Option.{Option}
use Rattle.std.specs.Io.KnownBytes.{Appends}
use Rattle.model.specs.Report.{first_look, text_within, program_text}

same_look : (file : List ℕ) → program_text (take first_look file) ≡ program_text file
unfolding text_within
same_look file = rw (take-take first_look first_look file (le_refl first_look)) refl

-- what was written, from what was read
pub written : {T E : Type 0} (r : Result T E) (left old new : Option (List ℕ)) (text bytes : List ℕ) (room : ℕ)
    → OnOk r (Appends old new text) → text ≡ program_text bytes → room ≡ first_look → IfSome left (λ file. bytes ≡ take room file)
    → OnOk r (IfSome left (λ file. Appends old new (program_text file)))
written (Err e) left old new text bytes room wrote told look read = tt
written (Ok u) None old new text bytes room wrote told look read = tt
written (Ok u) (Some file) old new text bytes room wrote told look read =
    subst (Appends old new) (told ∙ ap program_text (read ∙ ap (λ n. take n file) look) ∙ same_look file) wrote
