-- The greedy call, answer by answer: a refusal writes nothing, and what is written is the greedy rule's.
use mathlib.Core.Path.{◌≡◌, refl, sym, ap, ◌∙◌}
use mathlib.Core.Bool.{Bool, true, ◌&&◌}
use mathlib.Core.List.{List}
use Prim.Native.Nat.{ℕ, suc, ◌*◌, ◌≤◌}
use native.Mathlib.Numerals.{add-one}
use native.Mathlib.Omega.{arith}
use lib.Dec.{leb}
use lib.ListN.{length}
use borrow.Author.Tests.{leb-true}
use Rattle.laws.proofs.Bools.{both}
use Rattle.laws.proofs.Fronts.{front_only_past}
use Rattle.model.specs.File.{count_of}
use Rattle.model.specs.Rules.{Verdict, passed, broken, ask, scratch_words}
use Rattle.model.specs.Calls.{answered, refused, answer, GreedyMemory, greedy_buffers_long, greedy_verdict, GreedyCall}
use Rattle.model.proofs.Verdicts.{ask_passed}
use Rattle.fields.specs.declared.Tree as code
use Rattle.tree_file.specs.Checks.{sizes_of}
use Rattle.lent.specs.Lent.{lent_verdict}
use Rattle.lent.proofs.Asked.{lent_told, refused_before_buffers, buffers_decide}
use Rattle.node_words.specs.Words.{node_words}
use Rattle.greedy.specs.Run.{GreedyRoom, GreedyWritten}

-- the words of the nodes are among those that rule 13 asks for
pub nodes_fit : (file : List ℕ) → node_words * count_of file ≤ scratch_words file
unfolding scratch_words
nodes_fit file = omega arith

-- room in a scratch is room in one as long
pub room_still : {file : List ℕ} {n k : ℕ} {scratch scratch' totals nodes : List ℕ} → GreedyRoom file n k scratch totals nodes
    → length scratch' ≡ length scratch → GreedyRoom file n k scratch' totals nodes
room_still g e =
    record {
      room = record { accepted = g.room.accepted; count = g.room.count; room = rw e g.room.room };
      budget = g.budget;
      totals_long = g.totals_long;
      nodes_long = g.nodes_long;
    }

module _ (file : List ℕ) (memory : GreedyMemory) where
  refused_whole : {q i : ℕ} → broken q i ≡ greedy_verdict file memory → GreedyCall file memory (broken q i) memory
  refused_whole e = record { verdict = e; scratch_after = refl; totals_after = refl; nodes_after = refl }

  -- the rules before rule 14 refuse
  pub greedy_refused_lem : {q i : ℕ} → refused q i ≡ answer (lent_verdict file (length memory.scratch)) (sizes_of file)
      → GreedyCall file memory (broken q i) memory
  unfolding greedy_verdict
  greedy_refused_lem e = refused_whole (refused_before_buffers file memory.scratch (greedy_buffers_long file memory.totals memory.nodes) e)

  module _ {sizes : code.Tree} (e : answered sizes ≡ answer (lent_verdict file (length memory.scratch)) (sizes_of file)) where
    sizes_are : sizes ≡ sizes_of file
    sizes_are = (lent_told file e).2

    -- rule 14, as it is asked with the sizes found
    abbrev both_long : Bool
    both_long = leb (suc sizes.budget) (length memory.totals) && leb sizes.budget (length memory.nodes)

    long_is : greedy_buffers_long file memory.totals memory.nodes ≡ both_long
    long_is = rw sizes_are refl

    -- it decides
    decides : {v : Verdict} → v ≡ ask 14 0 both_long → v ≡ greedy_verdict file memory
    unfolding greedy_verdict
    decides h = h ∙ buffers_decide file memory.scratch _ e long_is

    pub greedy_short : {q i : ℕ} → broken q i ≡ ask 14 0 both_long → GreedyCall file memory (broken q i) memory
    greedy_short h = refused_whole (decides h)

    pub long_asked : passed ≡ ask 14 0 both_long → both_long ≡ true
    long_asked h = ask_passed 14 0 both_long (sym h)

    module _ (h : both_long ≡ true) where
      pub greedy_room_lem : GreedyRoom file sizes.nodes sizes.budget memory.scratch memory.totals memory.nodes
      greedy_room_lem =
          let told = lent_told file e in
          let fit = both (leb (suc sizes.budget) (length memory.totals)) (leb sizes.budget (length memory.nodes)) h in
          record {
            room = record {
              accepted = told.0;
              count = ap (λ x. x.nodes) sizes_are;
              room = rw sizes_are (omega (arith, told.1, nodes_fit file));
            };
            budget = ap (λ x. x.budget) sizes_are;
            totals_long = rw (add-one sizes.budget) (leb-true _ _ fit.0);
            nodes_long = leb-true sizes.budget (length memory.nodes) fit.1;
          }

      -- all rules hold
      pub greedy_written : {memory' : GreedyMemory}
          → GreedyWritten file sizes.nodes memory.scratch memory.totals memory.nodes memory'.scratch memory'.totals memory'.nodes
          → GreedyCall file memory passed memory'
      greedy_written done =
          record {
            verdict = decides (sym (ap (ask 14 0) h));
            scratch_after =
                (done.front.long, front_only_past (node_words * sizes.nodes) (scratch_words file) (rw sizes_are (nodes_fit file)) done.front);
            totals_after = done.totals_after;
            nodes_after = done.nodes_after;
          }
