-- Rules 13 and 14 after the rules about the file.
use mathlib.Core.Path.{◌≡◌, sym, ap, ap₂, ◌∙◌}
use mathlib.Core.Bool.{Bool, false, ◌&&◌}
use mathlib.Core.List.{List}
use Prim.Native.Nat.{ℕ, suc, ◌+◌, ◌≤◌, ◌<◌}
use native.Mathlib.Omega.{arith}
use lib.Dec.{leb}
use lib.ListN.{length}
use borrow.Author.Tests.{leb-true, le-leb, lt-leb}
use Rattle.model.specs.Rules.{passed, broken, ask, ◌then◌, file_verdict, accepted, scratch_words, ask_scratch, ask_buffers}
use Rattle.model.specs.Calls.{answered, refused, answer}
use Rattle.model.specs.Hosts.{words_asked}
use Rattle.model.proofs.Verdicts.{ask_passed, then_passed, then_grouped, answered_passed, refused_broken}
use Rattle.fields.specs.declared.Tree as code
use Rattle.tree_file.specs.Checks.{sizes_of, AcceptedSizes, SizesHold}
use Rattle.tree_file.proofs.Accepted.{sizes_hold}
use Rattle.tree_file.proofs.Rulings.{passes}
use Rattle.lent.specs.Lent.{lent_verdict, LentRoom}

-- ---- rule 13

module _ (file : List ℕ) where
  pub answered_sizes : {sizes : code.Tree} → answered sizes ≡ answer (file_verdict file) (sizes_of file) → AcceptedSizes file sizes
  answered_sizes e = let told = answered_passed (file_verdict file) (sizes_of file) e in record { accepted = told.0; of_file = told.1 }

  module _ {sizes : code.Tree} (e : answered sizes ≡ answer (file_verdict file) (sizes_of file)) where
    pub words_of_accepted : {asked : ℕ} → asked ≡ scratch_words file → asked ≡ words_asked file
    unfolding words_asked accepted
    words_of_accepted h = rw (answered_sizes e).accepted h

    -- rule 13 holds too
    pub scratch_held : (words : ℕ) → passed ≡ ask 13 0 (leb (scratch_words file) words) → answered sizes ≡ answer (lent_verdict file words) (sizes_of file)
    unfolding lent_verdict
    scratch_held words h =
        let ok = (answered_sizes e).accepted in
        e ∙ ap (λ v. answer v (sizes_of file)) (ok ∙ passes _ (sym ok) h)

    -- and where the scratch is too short, rule 13 refuses
    pub scratch_short_lem : (words : ℕ) → leb (scratch_words file) words ≡ false → refused 13 0 ≡ answer (lent_verdict file words) (sizes_of file)
    unfolding lent_verdict
    scratch_short_lem words h = rw ((answered_sizes e).accepted, h)

  pub words_of_refused_lem : (q i : ℕ) → refused q i ≡ answer (file_verdict file) (sizes_of file) → 0 ≡ words_asked file
  unfolding words_asked accepted
  words_of_refused_lem q i e = rw (refused_broken (file_verdict file) (sizes_of file) e)

  lent_accepted : (words : ℕ) → lent_verdict file words ≡ passed → (file_verdict file ≡ passed) × (scratch_words file ≤ words)
  unfolding lent_verdict
  lent_accepted words e =
      let both = then_passed (file_verdict file) (ask 13 0 (leb (scratch_words file) words)) e in
      (both.0, leb-true (scratch_words file) words (ask_passed 13 0 _ both.1))

  -- where these rules hold, the sizes found are the file's
  pub lent_told : {words : ℕ} {sizes : code.Tree} → answered sizes ≡ answer (lent_verdict file words) (sizes_of file)
      → (file_verdict file ≡ passed) × (scratch_words file ≤ words) × (sizes ≡ sizes_of file)
  lent_told {words} e =
      let told = answered_passed (lent_verdict file words) (sizes_of file) e in
      let ok = lent_accepted words told.0 in
      (ok.0, ok.1, told.1)

  lent_accepted_sizes : (words : ℕ) {sizes : code.Tree} → answered sizes ≡ answer (lent_verdict file words) (sizes_of file) → AcceptedSizes file sizes
  lent_accepted_sizes words e = let told = lent_told e in record { accepted = told.0; of_file = told.2 }

  pub lent_sizes : (words : ℕ) {sizes : code.Tree} → answered sizes ≡ answer (lent_verdict file words) (sizes_of file) → SizesHold sizes
  lent_sizes words e = sizes_hold (lent_accepted_sizes words e)

  pub lent_room_lem : (s : List ℕ) {sizes : code.Tree} → answered sizes ≡ answer (lent_verdict file (length s)) (sizes_of file) → LentRoom file sizes s
  lent_room_lem s e = record { of_file = lent_accepted_sizes (length s) e; room = (lent_told e).1 }

-- ---- rule 14

-- the verdict of a call with lent scratch and buffers: a refusal before rule 14 stands, and else rule 14 decides
module _ (file scratch : List ℕ) (long : Bool) where
  pub rules_grouped : (file_verdict file then ask_scratch file scratch then ask_buffers long) ≡ (lent_verdict file (length scratch) then ask_buffers long)
  unfolding lent_verdict
  rules_grouped = sym (then_grouped (file_verdict file) (ask_scratch file scratch) (ask_buffers long))

  pub refused_before_buffers : {q i : ℕ} → refused q i ≡ answer (lent_verdict file (length scratch)) (sizes_of file)
      → broken q i ≡ (file_verdict file then ask_scratch file scratch then ask_buffers long)
  refused_before_buffers e =
      sym (rules_grouped ∙ ap (λ v. v then ask_buffers long) (refused_broken (lent_verdict file (length scratch)) (sizes_of file) e))

  pub buffers_decide : {sizes : code.Tree} {b : Bool} → answered sizes ≡ answer (lent_verdict file (length scratch)) (sizes_of file) → long ≡ b
      → ask_buffers b ≡ (file_verdict file then ask_scratch file scratch then ask_buffers long)
  buffers_decide e h =
      sym (rules_grouped ∙ ap₂ (λ v x. v then ask_buffers x) (answered_passed (lent_verdict file (length scratch)) (sizes_of file) e).0 h)

-- k + 1 totals, as they are asked before the rest of a call's buffers
module _ (k totals : ℕ) (rest : Bool) where
  pub totals_short : totals < k + 1 → false ≡ (leb (suc k) totals && rest)
  totals_short h = rw (lt-leb (suc k) totals (omega arith))

  pub totals_long_lem : k + 1 ≤ totals → rest ≡ (leb (suc k) totals && rest)
  totals_long_lem h = rw (le-leb (suc k) totals (omega arith))
