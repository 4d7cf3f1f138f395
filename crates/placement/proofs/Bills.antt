-- The bill call answer by answer: each refusal, and the total with both buffers written.
use mathlib.Core.Path.{◌≡◌, sym, ap, ◌∙◌}
use mathlib.Core.Bool.{true}
use mathlib.Core.List.{List}
use Prim.Native.Nat.{ℕ, ◌≤◌}
use native.Mathlib.Omega.{arith}
use lib.ListN.{length}
use lib.Dec.{leb}
use borrow.Author.Tests.{leb-true}
use Rattle.std.specs.Prelude.{Result}
use Rattle.std.specs.Result.{IsErrAnd}
use Rattle.std.proofs.lemmas.Result.{err_from_is_err_and}
use Rattle.laws.proofs.Stores.{sets_front}
use Rattle.model.specs.File.{tree_of, count_of}
use Rattle.model.specs.Rules.{passed, broken, ask, ask_buffers, file_verdict, is_set}
use Rattle.model.specs.Calls.{answered, refused, BillMemory, bill_buffers_long, bill_verdict, serving_nodes, link_loads, BillCall}
use Rattle.model.proofs.Accepted.{accepted_sound}
use Rattle.model.proofs.Written.{length_serving_nodes, length_link_loads}
use Rattle.model.proofs.Verdicts.{ask_passed}
use Rattle.units.specs.declared.Total.{Total}
use Rattle.tree_file.specs.declared.rules.Refusal.{Refusal}
use Rattle.tree_file.specs.Refusals.{broken_by}
use Rattle.tree_file.proofs.Accepted.{accepted_long, accepted_in_file}
use Rattle.tree_file.proofs.Rulings.{both_pass}
use Rattle.placement.specs.Passes.{AcceptedFile, Billable, Walkable}
use Rattle.placement.specs.Answers.{bill_answer, BillWritten}

-- an accepted file, its n read from the header
pub accepted_file_lem : (file : List ℕ) {n : ℕ} → passed ≡ file_verdict file → n ≡ count_of file → AcceptedFile file n
accepted_file_lem file ok nodes =
    record {
      sound = accepted_sound file (sym ok);
      nodes = nodes;
      header = accepted_long file (sym ok);
      records = λ v h. accepted_in_file file (sym ok) v (omega arith);
    }

-- a set of its nodes
pub set_of_file : (file k : List ℕ) {n : ℕ} → passed ≡ file_verdict file → n ≡ count_of file → is_set (tree_of file) k ≡ true → Billable file n k
set_of_file file k ok nodes is_set = record { of_file = accepted_file_lem file ok nodes; of_nodes = is_set }

-- a test of sizes that was asked and passed
asked_le : (q i a b : ℕ) → passed ≡ ask q i (leb a b) → a ≤ b
asked_le q i a b h = leb-true a b (ask_passed q i (leb a b) (sym h))

module _ (file k : List ℕ) (memory : BillMemory) where
  -- a rule is broken
  bill_refused_lem : {q i : ℕ} → bill_verdict file k memory ≡ broken q i → BillCall file k memory (refused q i) memory
  bill_refused_lem e = record { answers = rw e; servings_after = rw e; loads_after = rw e }

  pub bill_refused : (r : Result Total Refusal) (e : Refusal) → IsErrAnd r (λ y. y ≡ e) → broken_by e ≡ bill_verdict file k memory
      → BillCall file k memory (bill_answer r) memory
  bill_refused r e h breaks = let p = err_from_is_err_and r h in rw (p.1, p.2) (bill_refused_lem (sym breaks))

  module _ {n : ℕ} (nodes : n ≡ count_of file) (h : passed ≡ ask 14 0 (leb n (length memory.servings))) (g : passed ≡ ask 14 0 (leb n (length memory.loads))) where
    pub buffers_walkable : AcceptedFile file n → Walkable file n memory.servings memory.loads
    buffers_walkable given = record { of_file = given; servings_long = asked_le 14 0 n _ h; loads_long = asked_le 14 0 n _ g }

    pub buffers_pass : passed ≡ ask_buffers (bill_buffers_long file memory.servings memory.loads)
    buffers_pass = both_pass 14 0 _ _ (rw nodes at h) (rw nodes at g)

    -- no rule is broken
    pub bill_answered : {x : ℕ} {memory' : BillMemory} → passed ≡ bill_verdict file k memory
        → BillWritten file k memory.servings memory.loads x memory'.servings memory'.loads → BillCall file k memory (answered x) memory'
    bill_answered all w = record {
      answers = rw (sym all) (ap answered w.total_is);
      servings_after = rw (sym all) (w.servings_are ∙ sets_front memory.servings (serving_nodes file k) (omega (arith, length_serving_nodes file k, asked_le 14 0 n _ h)));
      loads_after = rw (sym all) (w.loads_are ∙ sets_front memory.loads (link_loads file k) (omega (arith, length_link_loads file k, asked_le 14 0 n _ g)));
    }
