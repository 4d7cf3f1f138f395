-- The bill call of a host, answer by answer.
use mathlib.Core.Path.{◌≡◌, refl, sym, ap, ◌∙◌}
use mathlib.Core.Bool.{Bool}
use mathlib.Core.List.{List, [], ◌∷◌, ◌++◌}
use Prim.Native.Nat.{ℕ, ◌≤◌, ◌<◌}
use lib.ListN.{length, drop, set}
use borrow.Author.Tests.{le-leb, lt-leb}
use Rattle.laws.proofs.Stores.{sets_front}
use Rattle.std.specs.Prelude.{Result, ⊤}
use Rattle.std.specs.Result.{IsErrAnd}
use Rattle.tree_file.specs.declared.rules.Refusal.{Refusal}
use Rattle.tree_file.specs.Refusals.{rule_number, verdict_of}
use Rattle.tree_file.proofs.Rulings.{refused_as}
use Rattle.model.specs.File.{tree_of}
use Rattle.model.specs.Rules.{Verdict, passed, broken, ask, ◌then◌, file_verdict, is_set, ask_set}
use Rattle.model.specs.Calls.{answered, refused, after, BillMemory, bill_verdict, BillCall}
use Rattle.model.specs.Hosts.{HostBillMemory, host_bill_verdict, HostBillCall}
use Rattle.model.proofs.Verdicts.{answered_passed, refused_broken, then_grouped}

-- a verdict that ends in a refusal is one
refusal_stays : (a b : Verdict) (q i : ℕ) (written old : List ℕ) → old ≡ after (a then b then broken q i) written old
refusal_stays passed passed q i written old = refl
refusal_stays passed (broken p j) q i written old = refl
refusal_stays (broken p j) b q i written old = refl

-- the rules that a bill asks, with rule 14 after them
pub rules_and_room : {v : Verdict} (a b : Verdict) → v ≡ (a then b) → (v then broken 14 0) ≡ (a then b then broken 14 0)
rules_and_room a b e = rw e (then_grouped a b (broken 14 0))

-- after the rules about the file, rule 12 is asked of what the test of the set says
module _ (file k : List ℕ) (rest : Verdict) where
  pub set_asked_lem : {b : Bool} → passed ≡ file_verdict file → is_set (tree_of file) k ≡ b → (ask 12 0 b then rest) ≡ (file_verdict file then ask_set file k then rest)
  set_asked_lem ok asked = rw (← ok, asked)

-- ---- the call

module _ (file k : List ℕ) (memory : HostBillMemory) where
  -- no room for the total
  pub bill_no_room : {v : Verdict} → v ≡ (file_verdict file then ask_set file k then broken 14 0) → length memory.totals < 1
      → HostBillCall file k memory v memory
  unfolding host_bill_verdict
  bill_no_room e h =
      rw e
      record {
        verdict = rw (lt-leb 1 (length memory.totals) h);
        totals_after = refusal_stays (file_verdict file) (ask_set file k) 14 0 _ memory.totals;
        servings_after = refusal_stays (file_verdict file) (ask_set file k) 14 0 _ memory.servings;
        loads_after = refusal_stays (file_verdict file) (ask_set file k) 14 0 _ memory.loads;
      }

  -- what the bill is lent
  abbrev buffers : BillMemory
  buffers = record { servings = memory.servings; loads = memory.loads }

  module _ (room : 1 ≤ length memory.totals) where
    -- with room for the total the questions are those of the bill
    same_questions : host_bill_verdict file k memory ≡ bill_verdict file k buffers
    unfolding host_bill_verdict bill_verdict
    same_questions = rw (le-leb 1 (length memory.totals) room)

    -- a refusal of the bill is the call's
    pub bill_refused_lem : {q i : ℕ} {left : BillMemory} → BillCall file k buffers (refused q i) left
        → HostBillCall file k memory (broken q i) record { totals = memory.totals; servings = left.servings; loads = left.loads }
    bill_refused_lem call =
        let told = refused_broken (bill_verdict file k buffers) _ call.answers in
        record {
          verdict = sym (same_questions ∙ told);
          totals_after = refl;
          servings_after = rw told at call.servings_after;
          loads_after = rw told at call.loads_after;
        }

    -- and so is the ruling at the exit of a `?`
    pub bill_refused : (r : Result ⊤ Refusal) (e : Refusal) {left : BillMemory} → IsErrAnd r (λ y. y ≡ e)
        → BillCall file k buffers (refused (rule_number e.rule) e.record) left
        → HostBillCall file k memory (verdict_of r) record { totals = memory.totals; servings = left.servings; loads = left.loads }
    bill_refused r e h call = rw (refused_as r e h refl) (bill_refused_lem call)

    pub bill_billed : {x : ℕ} {left : BillMemory} → BillCall file k buffers (answered x) left
        → HostBillCall file k memory passed record { totals = set memory.totals 0 x; servings = left.servings; loads = left.loads }
    bill_billed {x} call =
        let told = answered_passed (bill_verdict file k buffers) _ call.answers in
        record {
          verdict = sym (same_questions ∙ told.0);
          totals_after = sets_front memory.totals (x ∷ []) room ∙ ap (λ y. (y ∷ []) ++ drop 1 memory.totals) told.1;
          servings_after = rw told.0 at call.servings_after;
          loads_after = rw told.0 at call.loads_after;
        }
