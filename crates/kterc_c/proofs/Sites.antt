-- The call of a host for one node, answer by answer.
use mathlib.Core.Path.{◌≡◌, refl, sym, ap, ◌∙◌}
use mathlib.Core.List.{List, [], ◌∷◌, ◌++◌}
use Prim.Native.Nat.{ℕ, ◌≤◌, ◌<◌}
use lib.ListN.{length, drop, set}
use borrow.Author.Tests.{le-leb, lt-leb}
use Rattle.laws.proofs.Stores.{sets_front}
use Rattle.model.specs.Rules.{Verdict, passed, broken, ◌then◌, long_enough, ask_buffers}
use Rattle.model.specs.Calls.{answered, refused, Least}
use Rattle.model.specs.WithOrWithout.{with_or_without_verdict, WithOrWithoutCall}
use Rattle.model.specs.Hosts.{total_or_none, HostWithOrWithoutMemory, host_with_or_without_verdict, HostWithOrWithoutCall}
use Rattle.model.proofs.Verdicts.{then_none, answered_passed, refused_broken}
use Rattle.std.specs.Prelude.{Result, ⊤}
use Rattle.std.specs.Result.{IsErrAnd}
use Rattle.tree_file.specs.declared.rules.Refusal.{Refusal}
use Rattle.tree_file.specs.Refusals.{rule_number, verdict_of}
use Rattle.tree_file.proofs.Rulings.{refused_as}
use Rattle.one_site.specs.Site.{site_verdict}
use Rattle.one_site.proofs.Asked.{verdict_is}
use Rattle.kterc_c.proofs.Room.{ends_refused}

module _ (file : List ℕ) (v b : ℕ) (memory : HostWithOrWithoutMemory) where
  -- the questions before 14 are those of the call without a buffer
  questions : host_with_or_without_verdict file v b memory
      ≡ (with_or_without_verdict file v b memory.scratch then ask_buffers (long_enough 2 memory.totals))
  unfolding host_with_or_without_verdict
  questions = refl

  -- no room for both totals
  pub both_no_room : {x : Verdict} → x ≡ (site_verdict file v b (length memory.scratch) then broken 14 0) → length memory.totals < 2
      → HostWithOrWithoutCall file v b memory x memory
  both_no_room e h =
      let end = ends_refused (site_verdict file v b (length memory.scratch)) 14 0 in
      let verdict = rw (verdict_is file v b memory.scratch, lt-leb 2 (length memory.totals) h) at questions in
      rw (e ∙ end.2) (record { verdict = sym (verdict ∙ end.2); scratch_after = refl; totals_after = refl })

  module _ (room : 2 ≤ length memory.totals) where
    same_questions : host_with_or_without_verdict file v b memory ≡ with_or_without_verdict file v b memory.scratch
    same_questions = rw (le-leb 2 (length memory.totals) room) at questions ∙ then_none (with_or_without_verdict file v b memory.scratch)

    pub found_refused : (r : Result ⊤ Refusal) (e : Refusal) {left : List ℕ} → IsErrAnd r (λ y. y ≡ e)
        → WithOrWithoutCall file v b memory.scratch (refused (rule_number e.rule) e.record) left
        → HostWithOrWithoutCall file v b memory (verdict_of r) record { scratch = left; totals = memory.totals }
    found_refused r e h call =
        let told = refused_broken (with_or_without_verdict file v b memory.scratch) _ call.answers in
        rw (refused_as r e h refl) (record { verdict = sym (same_questions ∙ told); scratch_after = rw told at call.scratch_after; totals_after = refl })

    -- both are written, the first as none where it is none
    pub found_written : (x y : Least) {left : List ℕ} → WithOrWithoutCall file v b memory.scratch (answered (x, y)) left
        → HostWithOrWithoutCall file v b memory passed record { scratch = left; totals = set (set memory.totals 0 (total_or_none x)) 1 (total_or_none y) }
    found_written x y call =
        let told = answered_passed (with_or_without_verdict file v b memory.scratch) _ call.answers in
        record {
          verdict = sym (same_questions ∙ told.0);
          scratch_after = rw told.0 at call.scratch_after;
          totals_after =
              sets_front memory.totals (total_or_none x ∷ total_or_none y ∷ []) room
              ∙ ap (λ (p : Least × Least). (total_or_none p.0 ∷ total_or_none p.1 ∷ []) ++ drop 2 memory.totals) told.1;
        }
