-- A host reads the whole verdict from its code: 0 just where no rule is broken, else the number and the record.
use mathlib.Core.Path.{◌≡◌, refl, sym}
use mathlib.Core.Bool.{Bool, true, false, cond, ◌&&◌}
use mathlib.Core.List.{List}
use Prim.Native.Nat.{ℕ, zero, suc, ◌/◌, ◌%◌, ◌<◌}
use native.Mathlib.Omega.{arith}
use lib.Dec.{leb, ltb}
use borrow.Author.Tests.{ltb-true}
use Rattle.laws.proofs.Bools.{by_test, both}
use Rattle.model.specs.File.{Share, ratio, bytes, most_hit, has_open_bytes, open_field, field_of}
use Rattle.model.specs.Rules.{Verdict, passed, broken, ask, ◌then◌, ask_share, ask_open, record_verdict, records_verdict, file_verdict}
use Rattle.model.specs.Calls.{rank_verdict, PlanMemory, plan_verdict, GreedyMemory, greedy_verdict}
use Rattle.model.specs.WithOrWithout.{with_or_without_verdict}
use Rattle.model.specs.Report.{ReportMemory, report_verdict}
use Rattle.model.specs.Hosts.{code_unit, code_of, first_code, HostBillMemory, host_bill_verdict, HostWithOrWithoutMemory, host_with_or_without_verdict, HostLeastBudgetMemory, host_least_budget_verdict}
use Rattle.model.proofs.Verdicts.{broken≢passed}

pub code_reads : (q i : ℕ) → q < code_unit → (code_of (broken q i) % code_unit ≡ q) × (code_of (broken q i) / code_unit ≡ i)
code_reads q i h = (omega arith, omega arith)

-- ---- the number of a broken rule is one byte, and neither 0 nor one of those that answer first, second and none

abbrev is_number : ℕ → Bool
is_number q = ltb 0 q && ltb q first_code

pub record Numbered (v : Verdict) : Type 0 where
  pub number : (q i : ℕ) → v ≡ broken q i → is_number q ≡ true

pub numbered_within : {q i : ℕ} → Numbered (broken q i) → (0 < q) × (q < first_code)
numbered_within {q} {i} h = let p = both (ltb 0 q) (ltb q first_code) (h.number q i refl) in (ltb-true 0 q p.0, ltb-true q first_code p.1)

pub code_none : (v : Verdict) → Numbered v → code_of v ≡ 0 → v ≡ passed
code_none passed h e = refl
code_none (broken q i) h e = absurd (omega (arith, (numbered_within h).0))

pub code_below : (v : Verdict) → Numbered v → code_of v % code_unit < first_code
code_below passed h = omega arith
code_below (broken q i) h = omega (arith, (numbered_within h).1)

both_numbered : (a b : Verdict) → Numbered a → Numbered b → Numbered (a then b)
both_numbered passed b h g = g
both_numbered (broken q i) b h g = h

passed_numbered : Numbered passed
passed_numbered = record { number = λ p j e. absurd (broken≢passed (sym e)) }

ask_numbered : (q i : ℕ) (b : Bool) → is_number q ≡ true → Numbered (ask q i b)
ask_numbered q i true h = passed_numbered
ask_numbered q i false h = record { number = λ p j e. cc }

share_numbered : (i f : ℕ) (s : Share) → Numbered (ask_share i f s)
share_numbered i f (ratio p) = ask_numbered 11 i (leb p most_hit) refl
share_numbered i f (bytes b) = ask_numbered 17 i (leb b f) refl

open_numbered : (file : List ℕ) (i : ℕ) → Numbered (ask_open file i)
open_numbered file i =
    let holds = leb (field_of file open_field i) open_field.most in
    by_test (λ b. Numbered (cond b (ask 24 i holds) passed)) (has_open_bytes file) (λ _. ask_numbered 24 i holds refl) (λ _. passed_numbered)

record_numbered : (file : List ℕ) (i : ℕ) → Numbered (record_verdict file i)
unfolding record_verdict
record_numbered file i = search (both_numbered, ask_numbered, share_numbered, open_numbered) depth 8

records_numbered : (file : List ℕ) (n : ℕ) → Numbered (records_verdict file n)
unfolding records_verdict
records_numbered file zero = passed_numbered
records_numbered file (suc i) = both_numbered _ _ (records_numbered file i) (record_numbered file i)

file_numbered : (file : List ℕ) → Numbered (file_verdict file)
unfolding file_verdict
file_numbered file = search (both_numbered, ask_numbered, records_numbered) depth 8

-- ---- the calls

module _ (file : List ℕ) where
  pub bill_numbered : (k : List ℕ) (memory : HostBillMemory) → Numbered (host_bill_verdict file k memory)
  unfolding host_bill_verdict
  bill_numbered k memory = search (both_numbered, ask_numbered, file_numbered)

  pub rank_numbered : (k l : List ℕ) → Numbered (rank_verdict file k l)
  unfolding rank_verdict
  rank_numbered k l = search (both_numbered, ask_numbered, file_numbered)

  pub plan_numbered : (memory : PlanMemory) → Numbered (plan_verdict file memory)
  unfolding plan_verdict
  plan_numbered memory = search (both_numbered, ask_numbered, file_numbered)

  pub greedy_numbered : (memory : GreedyMemory) → Numbered (greedy_verdict file memory)
  unfolding greedy_verdict
  greedy_numbered memory = search (both_numbered, ask_numbered, file_numbered)

  pub report_numbered : (memory : ReportMemory) → Numbered (report_verdict file memory)
  unfolding report_verdict
  report_numbered memory = search (both_numbered, ask_numbered, file_numbered)

  pub with_or_without_numbered : (v b : ℕ) (memory : HostWithOrWithoutMemory) → Numbered (host_with_or_without_verdict file v b memory)
  unfolding host_with_or_without_verdict with_or_without_verdict
  with_or_without_numbered v b memory = search (both_numbered, ask_numbered, file_numbered)

  pub least_budget_numbered : (memory : HostLeastBudgetMemory) → Numbered (host_least_budget_verdict file memory)
  unfolding host_least_budget_verdict
  least_budget_numbered memory = search (both_numbered, ask_numbered, file_numbered)
