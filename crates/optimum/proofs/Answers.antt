-- The plan call, answer by answer: a refusal writes nothing, and what is written is the plan.
use mathlib.Core.Path.{◌≡◌, refl, ◌∙◌}
use mathlib.Core.Bool.{Bool, true, ◌&&◌}
use mathlib.Core.List.{List}
use Prim.Native.Nat.{ℕ, suc, ◌+◌, ◌*◌, ◌≤◌}
use native.Mathlib.Nat.{mul-le-mul}
use native.Mathlib.Numerals.{add-one}
use native.Mathlib.Omega.{arith}
use lib.Dec.{leb}
use lib.ListN.{length}
use lib.Seq.{sets}
use borrow.Author.Tests.{leb-true}
use Rattle.laws.specs.Fronts.{FrontOnly}
use Rattle.laws.proofs.Bools.{both}
use Rattle.laws.proofs.Stores.{sets_front}
use Rattle.model.specs.File.{budget_of, most_budget}
use Rattle.model.specs.Rules.{passed, broken, ask, scratch_words}
use Rattle.model.specs.Calls.{answered, refused, answer, after, plan_totals, plan_rows, PlanMemory, plan_buffers_long, plan_verdict, PlanCall}
use Rattle.model.proofs.Written.{length_plan_totals, length_plan_rows}
use Rattle.fields.specs.declared.Tree as code
use Rattle.std.specs.Prelude.{Result, ⊤}
use Rattle.std.specs.Result.{IsErrAnd}
use Rattle.tree_file.specs.declared.rules.Refusal.{Refusal}
use Rattle.tree_file.specs.Refusals.{broken_by, verdict_of}
use Rattle.tree_file.specs.Checks.{sizes_of}
use Rattle.tree_file.proofs.Rulings.{refused_as}
use Rattle.lent.specs.Lent.{lent_verdict}
use Rattle.lent.proofs.Asked.{lent_told, refused_before_buffers, buffers_decide, totals_long_lem}
use Rattle.optimum.specs.Budgets.{Buffers}

-- ---- what is written stands in front of the entries beyond it

module _ {file totals rows : List ℕ} (l : Buffers file totals rows) where
  pub totals_after_lem : {totals' : List ℕ} → totals' ≡ sets totals 0 (plan_totals file) → totals' ≡ after passed (plan_totals file) totals
  totals_after_lem e = e ∙ sets_front totals (plan_totals file) (omega (arith, length_plan_totals file, l.totals_long))

  pub rows_after_lem : {rows' : List ℕ} → rows' ≡ sets rows 0 (plan_rows file) → rows' ≡ after passed (plan_rows file) rows
  rows_after_lem e =
      e ∙ sets_front rows (plan_rows file) (omega (arith, length_plan_rows file, rw (add-one (budget_of file)) at l.rows_long))

-- ---- each answer

module _ (file : List ℕ) (memory : PlanMemory) where
  -- a refusal changes nothing
  refused_whole : {q i : ℕ} → broken q i ≡ plan_verdict file memory → PlanCall file memory (broken q i) memory
  refused_whole e = record { verdict = e; scratch_after = refl; totals_after = refl; rows_after = refl }

  pub plan_refused : (r : Result ⊤ Refusal) (e : Refusal) → IsErrAnd r (λ y. y ≡ e) → broken_by e ≡ plan_verdict file memory
      → PlanCall file memory (verdict_of r) memory
  plan_refused r e h k = rw (refused_as r e h refl) (refused_whole k)

  -- the rules before rule 14 refuse
  pub plan_refused_lem : {q i : ℕ} → refused q i ≡ answer (lent_verdict file (length memory.scratch)) (sizes_of file)
      → PlanCall file memory (broken q i) memory
  unfolding plan_verdict
  plan_refused_lem e = refused_whole (refused_before_buffers file memory.scratch (plan_buffers_long file memory.totals memory.rows) e)

  pub plan_before_buffers : {q i : ℕ} → refused q i ≡ answer (lent_verdict file (length memory.scratch)) (sizes_of file) → broken q i ≡ plan_verdict file memory
  plan_before_buffers e = (plan_refused_lem e).verdict

  module _ {sizes : code.Tree} (e : answered sizes ≡ answer (lent_verdict file (length memory.scratch)) (sizes_of file)) where
    -- rule 14, as it is asked with the sizes found
    abbrev both_long : Bool
    both_long = leb (suc sizes.budget) (length memory.totals) && leb (suc sizes.budget * sizes.budget) (length memory.rows)

    long_is : {b : Bool} → both_long ≡ b → plan_buffers_long file memory.totals memory.rows ≡ b
    long_is h = rw (lent_told file e).2 at h

    pub plan_asks_buffers : ask 14 0 both_long ≡ plan_verdict file memory
    unfolding plan_verdict
    plan_asks_buffers = buffers_decide file memory.scratch _ e (long_is refl)

    module _ (h : both_long ≡ true) where
      pub plan_long_lem : Buffers file memory.totals memory.rows
      plan_long_lem =
          let k = budget_of file in
          let l = both (leb (suc k) (length memory.totals)) (leb (suc k * k) (length memory.rows)) (long_is h) in
          record { totals_long = rw (add-one k) (leb-true _ _ l.0); rows_long = rw (add-one k) (leb-true _ _ l.1) }

      -- all rules hold
      pub plan_written : {memory' : PlanMemory} → FrontOnly (scratch_words file) memory.scratch memory'.scratch
          → memory'.totals ≡ sets memory.totals 0 (plan_totals file) → memory'.rows ≡ sets memory.rows 0 (plan_rows file)
          → PlanCall file memory passed memory'
      unfolding plan_verdict
      plan_written s t r =
          record {
            verdict = buffers_decide file memory.scratch _ e (long_is h);
            scratch_after = (s.long, s.rest);
            totals_after = totals_after_lem plan_long_lem t;
            rows_after = rows_after_lem plan_long_lem r;
          }

-- ---- rule 14, as it is asked

pub rows_asked : (k totals rows : ℕ) → k + 1 ≤ totals → leb ((k + 1) * k) rows ≡ (leb (suc k) totals && leb (suc k * k) rows)
rows_asked k totals rows h = rw (add-one k) (totals_long_lem k totals (leb (suc k * k) rows) h)

pub rows_small : {k : ℕ} → k ≤ most_budget → (k + 1) * k ≤ (most_budget + 1) * most_budget
rows_small h = mul-le-mul {n₂ = most_budget + 1} (omega arith) h
