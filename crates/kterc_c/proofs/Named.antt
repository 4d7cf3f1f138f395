-- What a call promises of its own verdict it promises of the verdict that its definition names.
use mathlib.Core.Path.{◌≡◌, ap, ◌∙◌}
use mathlib.Core.List.{List}
use Prim.Native.Nat.{ℕ}
use Rattle.model.specs.Rules.{Verdict}
use Rattle.model.specs.Calls.{PlanMemory, plan_verdict, PlanCall, GreedyMemory, greedy_verdict, GreedyCall}
use Rattle.model.specs.Report.{ReportMemory, report_verdict, ReportCall}
use Rattle.model.specs.Hosts.{code_of, HostBillMemory, host_bill_verdict, HostBillCall, HostWithOrWithoutMemory, host_with_or_without_verdict, HostWithOrWithoutCall}

-- the code is that of the verdict, and the call keeps its record with that verdict
abbrev Told : (Verdict → Type 0) → ℕ → Verdict → Type 0
Told Call code v = (code ≡ code_of v) × Call v

module _ {code : ℕ} {v : Verdict} (told : code ≡ code_of v) {file : List ℕ} where
  pub bill_told : {k : List ℕ} {memory memory' : HostBillMemory} → HostBillCall file k memory v memory'
      → Told (λ x. HostBillCall file k memory x memory') code (host_bill_verdict file k memory)
  bill_told call = (told ∙ ap code_of call.verdict, rw call.verdict at call)

  pub plan_told : {memory memory' : PlanMemory} → PlanCall file memory v memory'
      → Told (λ x. PlanCall file memory x memory') code (plan_verdict file memory)
  plan_told call = (told ∙ ap code_of call.verdict, rw call.verdict at call)

  pub greedy_told : {memory memory' : GreedyMemory} → GreedyCall file memory v memory'
      → Told (λ x. GreedyCall file memory x memory') code (greedy_verdict file memory)
  greedy_told call = (told ∙ ap code_of call.verdict, rw call.verdict at call)

  pub report_told : {memory memory' : ReportMemory} → ReportCall file memory v memory'
      → Told (λ x. ReportCall file memory x memory') code (report_verdict file memory)
  report_told call = (told ∙ ap code_of call.verdict, rw call.verdict at call)

  pub with_without_told : {node budget : ℕ} {memory memory' : HostWithOrWithoutMemory} → HostWithOrWithoutCall file node budget memory v memory'
      → Told (λ x. HostWithOrWithoutCall file node budget memory x memory') code (host_with_or_without_verdict file node budget memory)
  with_without_told call = (told ∙ ap code_of call.verdict, rw call.verdict at call)
