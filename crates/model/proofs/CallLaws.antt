-- The laws of the calls hold of every file.
use mathlib.Core.Path.{◌≡◌, refl, sym, ap, ◌∙◌}
use mathlib.Core.Bool.{Bool, true, false, cond, ◌&&◌}
use mathlib.Core.List.{List}
use mathlib.Core.Logic.{◌↔◌, inl, inr}
use Prim.Native.Nat.{ℕ, ◌-◌, ◌+◌, ◌≤◌, ◌<◌}
use native.Mathlib.Decide.{dec_lt}
use native.Mathlib.Omega.{arith}
use lib.Dec.{leb, ltb}
use lib.ListN.{length, get_or, drop}
use lib.Seq.{get_or-drop}
use borrow.Author.Tests.{leb-true, le-leb, ltb-true, lt-ltb}
use Rattle.laws.proofs.Bools.{both}
use Rattle.model.specs.File.{Tree, Demand, tree_of, demand_of, count_of, budget_of}
use Rattle.model.specs.Rules.{Verdict, passed, ◌then◌, file_verdict, is_set, ask_set, ask_node, scratch_words, ask_scratch, long_enough}
use Rattle.model.specs.Bill.{total_limit, total, link_total}
use Rattle.model.specs.Ties.{ranks_before}
use Rattle.model.specs.Plan.{plan, plan_total}
use Rattle.model.specs.Greedy.{greedy_total}
use Rattle.model.specs.Calls.{answered, refused, Least, none, least_is, ScratchAfter, Winner, named, first, second, BillMemory, bill_verdict, rank_verdict, ranking, plan_buffers_long, greedy_buffers_long}
use Rattle.model.specs.WithOrWithout.{with_it, with_or_without_verdict, without_it, both_least, WithOrWithoutCall, SetWhere, LeastAmong, LeastWhere}
use Rattle.model.specs.LeastBudget.{least_budget, least_budget_verdict}
use Rattle.model.specs.Report.{HoldsOptimum}
use Rattle.model.specs.Hosts.{code_of, HostBillMemory, host_bill_verdict, no_total, total_or_none, HostWithOrWithoutMemory, HostWithOrWithoutCall}
use Rattle.model.specs.Laws.{RanksFirst}
use Rattle.model.specs.CallLaws.{RankingSaid, CodeSaid, StaysFrom, LeastTold, CallsLawful}
use Rattle.model.proofs.Verdicts.{ask_passed, then_passed, answered_passed, refused_broken}
use Rattle.model.proofs.Accepted.{accepted_sound}
use Rattle.model.proofs.Bounds.{total_bound}
use Rattle.model.proofs.Words.{words_fewer_lem, words_most_lem}
use Rattle.model.proofs.Order.{rank_said_lem}
use Rattle.model.proofs.Plans.{only_plan}
use Rattle.model.proofs.WithOrWithout.{with_least_lem, without_least_lem, without_some_lem}
use Rattle.model.proofs.Codes.{Numbered, numbered_within, code_reads, code_none, code_below, bill_numbered, rank_numbered, plan_numbered, greedy_numbered, report_numbered, with_or_without_numbered, least_budget_numbered}
use Rattle.model.proofs.Asked.{bill_asked_lem, host_bill_asked_lem, rank_asked_lem, plan_asked_lem, greedy_asked_lem, report_asked_lem, least_budget_asked_lem, host_least_budget_asked_lem}
use Rattle.model.proofs.Targets.{least_budget_answers_lem, least_budget_found_lem, least_budget_none_found, least_budget_keeps_lem, target_told_lem}
use Rattle.model.proofs.Told.{rank_told_lem, record_told_lem}
use Rattle.model.proofs.Decimals.{decimal_reads}
use Rattle.model.proofs.Written.{length_serving_nodes, length_link_loads, length_plan_totals, length_plan_row, length_plan_rows, length_greedy_totals, length_greedy_row}

-- ---- rule 12, right after the rules about the file

module _ (file set : List ℕ) where
  set_asked_lem : (rest : Verdict) → (file_verdict file then ask_set file set then rest) ≡ passed → (is_set (tree_of file) set ≡ true) × (rest ≡ passed)
  set_asked_lem rest h =
      let asked = then_passed (ask_set file set) rest (then_passed (file_verdict file) _ h).1 in
      (ask_passed 12 0 (is_set (tree_of file) set) asked.0, asked.1)

  billed_is_set_lem : (memory : BillMemory) → bill_verdict file set memory ≡ passed → is_set (tree_of file) set ≡ true
  unfolding bill_verdict
  billed_is_set_lem memory h = (set_asked_lem _ h).0

  host_billed_is_set_lem : (memory : HostBillMemory) → host_bill_verdict file set memory ≡ passed → is_set (tree_of file) set ≡ true
  unfolding host_bill_verdict
  host_billed_is_set_lem memory h = (set_asked_lem _ h).0

ranked_are_sets_lem : (file k l : List ℕ) → rank_verdict file k l ≡ passed → (is_set (tree_of file) k ≡ true) × (is_set (tree_of file) l ≡ true)
unfolding rank_verdict
ranked_are_sets_lem file k l h = let asked = set_asked_lem file k (ask_set file l) h in (asked.0, ask_passed 12 0 (is_set (tree_of file) l) asked.1)

-- ---- rule 16

node_asked_lem : (file : List ℕ) (v b : ℕ) → ask_node file v b ≡ passed ↔ ((1 ≤ v) × (v < count_of file) × (b ≤ budget_of file))
node_asked_lem file v b = (
  λ h.
      let p = both (leb 1 v && ltb v (count_of file)) (leb b (budget_of file)) (ask_passed 16 0 _ h) in
      let q = both (leb 1 v) (ltb v (count_of file)) p.0 in
      (leb-true 1 v q.0, ltb-true v (count_of file) q.1, leb-true b (budget_of file) p.1),
  λ h. rw (le-leb 1 v h.0, lt-ltb v (count_of file) h.1, le-leb b (budget_of file) h.2),
)

-- ---- the ranking

-- which of two sets is named, where the second ranks before the first or does not
abbrev chosen : Bool → Winner
chosen b = cond b second first

chosen_first : (b : Bool) → first ≡ chosen b → b ≡ false
chosen_first true e = let z : ◌≡◌ {A = ℕ} 0 1 = cc in absurd (omega arith)
chosen_first false e = refl

chosen_second : (b : Bool) → second ≡ chosen b → b ≡ true
chosen_second true e = refl
chosen_second false e = let z : ◌≡◌ {A = ℕ} 0 1 = cc in absurd (omega arith)

ranking_said : (file k l : List ℕ) → RankingSaid file k l
unfolding ranking
ranking_said file k l =
    let v = rank_verdict file k l in
    let before = ranks_before (tree_of file) (demand_of file) l k in
    record {
      first_said = (
        λ e. let p = answered_passed v (chosen before) (sym e) in (p.0, chosen_first before p.1),
        λ h. rw (h.0, h.1),
      );
      second_said = (
        λ e. let p = answered_passed v (chosen before) (sym e) in (p.0, chosen_second before p.1),
        λ h. rw (h.0, h.1),
      );
      refusal_said = λ q i. (λ e. refused_broken v (chosen before) (sym e), λ e. rw e);
      winner_first = λ e. ap (λ a. named a k l) e;
      winner_second = λ e. ap (λ a. named a k l) e;
      winner_none = λ q i e. ap (λ a. named a k l) e;
    }

-- ---- the codes

code_said : (v : Verdict) → Numbered v → CodeSaid v
code_said v h =
    record {
      passes = (code_none v h, λ e. ap code_of e);
      refuses = λ q i e. rw e (code_reads q i (omega (arith, (numbered_within (rw e at h)).1)));
    }

-- ---- the buffers

long_said : (m : ℕ) (buffer : List ℕ) → long_enough m buffer ≡ true ↔ m ≤ length buffer
long_said m buffer = (leb-true m (length buffer), le-leb m (length buffer))

-- two buffers, for x and y entries written to them
both_fit : {m n x y : ℕ} (a b : List ℕ) → x ≡ m → y ≡ n
    → (long_enough m a && long_enough n b) ≡ true ↔ ((x ≤ length a) × (y ≤ length b))
both_fit {m} {n} {x} {y} a b e f = (
  λ h. let p = both (long_enough m a) (long_enough n b) h in
      (omega (arith, (long_said m a).0 p.0), omega (arith, (long_said n b).0 p.1)),
  λ h. rw ((long_said m a).1 (omega arith), (long_said n b).1 (omega arith)),
)

-- ---- the scratch

-- lists that are the same from index m on
same_from : (m : ℕ) (old new : List ℕ) → drop m new ≡ drop m old → (i : ℕ) → m ≤ i → get_or new i 0 ≡ get_or old i 0
same_from m old new e i h =
    let there : m + (i - m) ≡ i = omega arith in
    rw (← there) (sym (get_or-drop m new (i - m) 0) ∙ ap (λ l. get_or l (i - m) 0) e ∙ get_or-drop m old (i - m) 0)

stays_from : (words : ℕ) (old new : List ℕ) → ScratchAfter passed words old new → StaysFrom words old new
stays_from words old new h = (h.0, same_from words old new h.1)

-- ---- the totals with a node and without it

module _ (file : List ℕ) (v b : ℕ) where
  with_or_without_frees_lem : (both : Least × Least) (scratch scratch' : List ℕ) → WithOrWithoutCall file v b scratch (answered both) scratch'
      → StaysFrom (scratch_words file) scratch scratch'
  with_or_without_frees_lem both scratch scratch' c =
      let accepts = (answered_passed (with_or_without_verdict file v b scratch) (both_least file v b) c.answers).0 in
      stays_from (scratch_words file) scratch scratch' (rw accepts at c.scratch_after)

  with_or_without_passes_lem : (scratch : List ℕ) → with_or_without_verdict file v b scratch ≡ passed
      ↔ ((file_verdict file ≡ passed) × (1 ≤ v) × (v < count_of file) × (b ≤ budget_of file) × (scratch_words file ≤ length scratch))
  unfolding with_or_without_verdict
  with_or_without_passes_lem scratch = (
    λ h.
        let asked = then_passed (file_verdict file) _ h in
        let rest = then_passed (ask_node file v b) (ask_scratch file scratch) asked.1 in
        let node = (node_asked_lem file v b).0 rest.0 in
        (asked.0, node.0, node.1, node.2, leb-true _ _ (ask_passed 13 0 _ rest.1)),
    λ h. rw (h.0, (node_asked_lem file v b).1 (h.1, h.2, h.3), le-leb (scratch_words file) (length scratch) h.4) refl,
  )

  with_or_without_keeps_lem : (q i : ℕ) (scratch scratch' : List ℕ) → WithOrWithoutCall file v b scratch (refused q i) scratch' → scratch' ≡ scratch
  with_or_without_keeps_lem q i scratch scratch' c =
      rw (refused_broken (with_or_without_verdict file v b scratch) (both_least file v b) c.answers) at c.scratch_after

  both_minima_lem : (x y : Least) (scratch scratch' : List ℕ) → WithOrWithoutCall file v b scratch (answered (x, y)) scratch'
      → LeastWhere (tree_of file) (demand_of file) b v true x × LeastWhere (tree_of file) (demand_of file) b v false y
  both_minima_lem x y scratch scratch' c =
      let is = (answered_passed (with_or_without_verdict file v b scratch) (both_least file v b) c.answers).1 in
      let first : x ≡ with_it (tree_of file) (demand_of file) b v = ap (λ p. p.0) is in
      let second : y ≡ without_it (tree_of file) (demand_of file) b v = ap (λ p. p.1) is in
      (rw first (with_least_lem (tree_of file) (demand_of file) b v), rw second (without_least_lem (tree_of file) (demand_of file) b v))

  first_told_lem : (m : Least) → LeastWhere (tree_of file) (demand_of file) b v true m → LeastTold (tree_of file) (demand_of file) b v true (total_or_none m)
  first_told_lem none h = inr (h, refl)
  first_told_lem (least_is x) h = inl h

  host_minima_lem : (memory memory' : HostWithOrWithoutMemory) → HostWithOrWithoutCall file v b memory passed memory'
      → LeastTold (tree_of file) (demand_of file) b v true (get_or memory'.totals 0 0)
      × LeastWhere (tree_of file) (demand_of file) b v false (least_is (get_or memory'.totals 1 0))
  host_minima_lem memory memory' c =
      let t = tree_of file in
      let d = demand_of file in
      let y = without_some_lem t d b v in
      rw (c.totals_after, y.1) (first_told_lem (with_it t d b v) (with_least_lem t d b v), rw y.1 at (without_least_lem t d b v))

-- a least total is a set's, and none of those is the number that tells none
none_told_lem : (t : Tree) (d : Demand) (P : List ℕ → Type 0) → ((k : List ℕ) → total t d k < total_limit)
    → (m : Least) → LeastAmong t d P m → total_or_none m ≡ no_total → m ≡ none
none_told_lem t d P small none h e = refl
none_told_lem t d P small (least_is x) h e = absurd (omega (arith, small h.1.0, h.1.2))

-- ---- demand 3

module _ (t : Tree) (d : Demand) (b : ℕ) where
  optimum_ranks_first : (held : List ℕ) (p g : ℕ) → HoldsOptimum t d b held p g → RanksFirst t d b held
  optimum_ranks_first held p g h =
      record {
        is_a_set = h.is_a_set;
        within = h.within_budget;
        first = λ l s w n.
            (rank_said_lem t d held l).1
            (elim (dec_lt (total t d held) (total t d l)) [
              | yes less ↦ inl less
              | no same ↦
                  let e : total t d l ≡ p = omega (arith, h.exact_total, h.no_rival_less l s w) in
                  inr (omega (arith, h.exact_total), h.rivals_later l s w n e)
            ]);
      }

  only_optimum : (held : List ℕ) (p g : ℕ) → HoldsOptimum t d b held p g
      → (held ≡ plan t d b) × (p ≡ plan_total t d b) × (g ≡ greedy_total t d b) × (p ≡ link_total t d held) × (p ≤ g)
  only_optimum held p g h =
      let e = only_plan t d b held (optimum_ranks_first held p g h) in
      (e, h.exact_total ∙ ap (total t d) e, h.greedy_exact, h.over_links, h.greedy_no_less)

pub calls_lawful : (file : List ℕ) → CallsLawful file
calls_lawful file =
    record {
      rankings = ranking_said file;
      billed_is_set = billed_is_set_lem file;
      host_billed_is_set = host_billed_is_set_lem file;
      ranked_are_sets = ranked_are_sets_lem file;
      bill_asked = bill_asked_lem file;
      host_bill_asked = host_bill_asked_lem file;
      rank_asked = rank_asked_lem file;
      node_asked = node_asked_lem file;
      plan_asked = plan_asked_lem file;
      greedy_asked = greedy_asked_lem file;
      report_asked = report_asked_lem file;
      bill_code = λ set memory. code_said _ (bill_numbered file set memory);
      plan_code = λ memory. code_said _ (plan_numbered file memory);
      greedy_code = λ memory. code_said _ (greedy_numbered file memory);
      report_code = λ memory. code_said _ (report_numbered file memory);
      with_or_without_code = λ v b memory. code_said _ (with_or_without_numbered file v b memory);
      rank_refusal_code = λ k l. code_said _ (rank_numbered file k l);
      least_budget_refusal_code = λ memory. code_said _ (least_budget_numbered file memory);
      bill_number = λ k memory. code_below _ (bill_numbered file k memory);
      plan_number = λ memory. code_below _ (plan_numbered file memory);
      greedy_number = λ memory. code_below _ (greedy_numbered file memory);
      report_number = λ memory. code_below _ (report_numbered file memory);
      with_or_without_number = λ v b memory. code_below _ (with_or_without_numbered file v b memory);
      rank_refusal_number = λ k l. code_below _ (rank_numbered file k l);
      least_budget_refusal_number = λ memory. code_below _ (least_budget_numbered file memory);
      rank_told = rank_told_lem file;
      record_told = record_told_lem file;
      bill_fits = λ set servings loads. both_fit servings loads (length_serving_nodes file set) (length_link_loads file set);
      plan_fits = λ totals rows. both_fit totals rows (length_plan_totals file) (length_plan_rows file);
      greedy_fits = λ totals nodes. both_fit totals nodes (length_greedy_totals file) (length_greedy_row file);
      demand_met = λ memory memory' c. c.demand_three refl;
      report_fits = λ memory. (both (plan_buffers_long file memory.plan_totals memory.plan_rows) (greedy_buffers_long file memory.greedy_totals memory.greedy_nodes), λ h. rw (h.0, h.1));
      least_budget_fits = λ b h row. (λ long. omega (arith, length_plan_row file b h, (long_said (budget_of file) row).0 long), λ fits. (long_said (budget_of file) row).1 (omega (arith, length_plan_row file b h)));
      with_or_without_fits = λ v b. long_said 2;
      none_told = λ passes v b. (
        none_told_lem (tree_of file) (demand_of file) (SetWhere (tree_of file) b v true)
            (total_bound (tree_of file) (demand_of file) (accepted_sound file passes)) (with_it (tree_of file) (demand_of file) b v)
            (with_least_lem (tree_of file) (demand_of file) b v),
        λ e. ap total_or_none e,
      );
      with_or_without_passes = with_or_without_passes_lem file;
      both_minima = both_minima_lem file;
      host_minima = host_minima_lem file;
      least_budget_asked = least_budget_asked_lem file;
      host_least_budget_asked = host_least_budget_asked_lem file;
      least_budget_answers = λ target a memory memory'. least_budget_answers_lem file target memory memory' a;
      least_budget_found = λ target b memory memory'. least_budget_found_lem file target memory memory' b;
      least_budget_none = least_budget_none_found file;
      least_budget_keeps = λ target q i memory memory'. least_budget_keeps_lem file target memory memory' q i;
      target_told = target_told_lem file;
      words_fewer = words_fewer_lem file;
      words_most = words_most_lem file;
      plan_frees = λ memory memory' c. stays_from (scratch_words file) memory.scratch memory'.scratch c.scratch_after;
      greedy_frees = λ memory memory' c. stays_from (scratch_words file) memory.scratch memory'.scratch c.scratch_after;
      report_frees = λ memory memory' c. stays_from (scratch_words file) memory.scratch memory'.scratch c.scratch_after;
      with_or_without_frees = with_or_without_frees_lem file;
      host_with_or_without_frees = λ v b memory memory' c. stays_from (scratch_words file) memory.scratch memory'.scratch c.scratch_after;
      with_or_without_keeps = with_or_without_keeps_lem file;
      least_budget_frees = λ target m memory memory' c.
          stays_from (scratch_words file) memory.scratch memory'.scratch
          (rw (answered_passed (least_budget_verdict file memory) (least_budget file target) c.answers).0 at c.scratch_after);
      host_least_budget_frees = λ target code memory memory' c e. stays_from (scratch_words file) memory.scratch memory'.scratch (rw e at c.scratch_after);
      scratch_kept = λ words q i old new h. h;
      demand_settles = λ memory h b l. only_optimum (tree_of file) (demand_of file) b _ _ _ (h b l);
      decimals_read = decimal_reads;
    }
