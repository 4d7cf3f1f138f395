-- Laws of the calls, proved for every file (`calls_lawful` in proofs/CallLaws): the ranking and its winner, question 16, in which order
-- calls ask, a host's codes, where it finds a record, how it is told first, second and none, the least budget for a target, the
-- buffers that question 14 asks for, the scratch after a call, that demand 3 is met and leaves no choice, and printed numbers.
-- Numbers are written out here, so that a wrong constant breaks a law.
use Rattle.std.specs.Prelude.{◌≡◌, Bool, true, false, ◌&&◌, List, [], ◌∷◌, ◌++◌, ◌↔◌, ◌⊎◌, ℕ, ◌+◌, ◌*◌, ◌-◌, ◌/◌, ◌%◌, ◌≤◌, ◌<◌, length, get_or, take, replicate}
use Rattle.laws.specs.Lists.{part}
use Rattle.model.specs.File.{Tree, Demand, tree_of, demand_of, version_of, count_of, budget_of}
use Rattle.model.specs.Tree.{height}
use Rattle.model.specs.Rules.{Verdict, passed, broken, ask, file_verdict, is_set, ask_node, scratch_words, long_enough}
use Rattle.model.specs.Bill.{total, link_total}
use Rattle.model.specs.Ties.{ranks_before}
use Rattle.model.specs.Plan.{plan, plan_total}
use Rattle.model.specs.Greedy.{greedy_total}
use Rattle.model.specs.Calls.{Answer, answered, refused, Least, none, least_is, first, second, ScratchAfter, record_bytes, BillMemory, bill_verdict, bill_buffers_long, serving_nodes, link_loads, rank_verdict, ranking, winner, plan_totals, plan_rows, plan_buffers_long, PlanMemory, plan_verdict, PlanCall, greedy_totals, greedy_row, greedy_buffers_long, GreedyMemory, greedy_verdict, GreedyCall}
use Rattle.model.specs.WithOrWithout.{with_it, with_or_without_verdict, WithOrWithoutCall, LeastWhere}
use Rattle.model.specs.LeastBudget.{row_written, LeastBudgetMemory, least_budget_verdict, LeastBudgetCall, AllCostMore}
use Rattle.model.specs.Laws.{RanksFirst}
use Rattle.model.specs.Report.{set_of_row, ReportMemory, DemandThree, report_buffers_long, report_verdict, ReportCall, digit, decimal}
use Rattle.model.specs.Hosts.{code_of, record_place, rank_code, HostBillMemory, host_bill_verdict, total_or_none, HostWithOrWithoutMemory, host_with_or_without_verdict, both_totals, HostWithOrWithoutCall, HostLeastBudgetMemory, host_least_budget_verdict, HostLeastBudgetCall}

-- the ranking of K and L in a file, and its winner
pub record RankingSaid (file k l : List ℕ) : Type 0 where
  -- first, just where no rule is broken and L does not rank before K ("equal sets: first")
  pub first_said : ranking file k l ≡ answered first
      ↔ ((rank_verdict file k l ≡ passed) × (ranks_before (tree_of file) (demand_of file) l k ≡ false))
  -- second, just where L does
  pub second_said : ranking file k l ≡ answered second
      ↔ ((rank_verdict file k l ≡ passed) × (ranks_before (tree_of file) (demand_of file) l k ≡ true))
  -- "or the refusal with its number"
  pub refusal_said : (q i : ℕ) → ranking file k l ≡ refused q i ↔ rank_verdict file k l ≡ broken q i
  -- "whichever of the two lent sets ranks first, empty on refusal"
  pub winner_first : ranking file k l ≡ answered first → winner file k l ≡ k
  pub winner_second : ranking file k l ≡ answered second → winner file k l ≡ l
  pub winner_none : (q i : ℕ) → ranking file k l ≡ refused q i → winner file k l ≡ []

-- what a host reads from the code of a verdict: 0 just where no rule is broken, else record × 256 + number
pub record CodeSaid (v : Verdict) : Type 0 where
  pub passes : code_of v ≡ 0 ↔ v ≡ passed
  pub refuses : (q i : ℕ) → v ≡ broken q i → (code_of v % 256 ≡ q) × (code_of v / 256 ≡ i)

-- and the number is below 253, 254 and 255, which stand for first, second and none
abbrev pub NumberBelow : Verdict → Type 0
NumberBelow v = code_of v % 256 < 253

-- what a host reads from the answer of the ranking: 253 for first, 254 for second, or the code of a refusal, and nothing else
pub record RankTold (file k l : List ℕ) (code : ℕ) : Type 0 where
  pub one_of_three : (code ≡ 253) ⊎ (code ≡ 254) ⊎ ((q : ℕ) × (i : ℕ) × (code ≡ i * 256 + q) × (ranking file k l ≡ refused q i))
  pub first_told : code ≡ 253 ↔ ranking file k l ≡ answered first
  pub second_told : code ≡ 254 ↔ ranking file k l ≡ answered second
  -- else record × 256 + number
  pub refused_by : (q i : ℕ) → ranking file k l ≡ refused q i → (code % 256 ≡ q) × (code / 256 ≡ i)
  -- the winner is the set so named, and empty on refusal
  pub winner_told : ((code ≡ 253) × (winner file k l ≡ k))
      ⊎ ((code ≡ 254) × (winner file k l ≡ l))
      ⊎ ((0 < code % 256) × (code % 256 < 253) × (winner file k l ≡ []))

-- the record of node v, of w bytes, is told at place x: 9 + w × v, and it ends within the file
abbrev pub RecordStands : List ℕ → ℕ → ℕ → ℕ → Type 0
RecordStands file v x w = (x ≡ 9 + w * v) × (x + w ≤ length file) × (record_bytes file v ≡ part file x w)

-- what a host reads from the place of a record
pub record RecordTold (file : List ℕ) (v x : ℕ) : Type 0 where
  -- 0 just where the file is refused or the node is not below n; the header stands at place 0, so no record does
  pub no_record : x ≡ 0 ↔ ((file_verdict file ≡ passed → ⊥) ⊎ (count_of file ≤ v))
  -- else the bytes of the record are found there, 10, 12 or 13 of them by the version
  pub found : 0 < x → ((version_of file ≡ 1) × RecordStands file v x 10)
      ⊎ ((version_of file ≡ 2) × RecordStands file v x 12)
      ⊎ ((version_of file ≡ 3) × RecordStands file v x 13)

-- the entries from index `words` on and the length stay
abbrev pub StaysFrom : ℕ → List ℕ → List ℕ → Type 0
StaysFrom words old new = (length new ≡ length old) × ((i : ℕ) → words ≤ i → get_or new i 0 ≡ get_or old i 0)

-- x is a least total of the sets that contain v (u is true), or of those that don't, as a host reads it: the largest number of 64
-- bits where there is no such set
abbrev pub LeastTold : Tree → Demand → ℕ → ℕ → Bool → ℕ → Type 0
LeastTold t d b v u x = LeastWhere t d b v u (least_is x) ⊎ (LeastWhere t d b v u none × (x ≡ 18_446_744_073_709_551_615))

-- v is the verdict of a call that asks the rules about the file, then 12, which passes just where `Sets` holds, then `rest`: the first "no"
pub record SetsAsked (file : List ℕ) (Sets : Type 0) (rest v : Verdict) : Type 0 where
  pub file_first : (q i : ℕ) → file_verdict file ≡ broken q i → v ≡ broken q i
  pub sets_next : file_verdict file ≡ passed → (Sets → ⊥) → v ≡ broken 12 0
  pub rest_last : file_verdict file ≡ passed → Sets → v ≡ rest
  pub passes : v ≡ passed ↔ ((file_verdict file ≡ passed) × Sets × (rest ≡ passed))

-- v is the verdict of a call that asks the rules about the file, then 13, then 14, which passes just where `Long` holds: the first "no"
pub record AskedInOrder (file scratch : List ℕ) (Long : Type 0) (v : Verdict) : Type 0 where
  pub file_first : (q i : ℕ) → file_verdict file ≡ broken q i → v ≡ broken q i
  pub scratch_next : file_verdict file ≡ passed → length scratch < scratch_words file → v ≡ broken 13 0
  pub buffers_last : file_verdict file ≡ passed → scratch_words file ≤ length scratch → (Long → ⊥) → v ≡ broken 14 0
  pub passes : v ≡ passed ↔ ((file_verdict file ≡ passed) × (scratch_words file ≤ length scratch) × Long)

-- b is the least budget for a target, and the first k entries of a row that was `old` hold its set
pub record HoldsLeast (file : List ℕ) (target b : ℕ) (old row : List ℕ) : Type 0 where
  -- "at most k", and no smaller budget has a set that is cheap enough
  pub within : b ≤ budget_of file
  pub smaller_cost_more : (c : ℕ) → c < b → AllCostMore (tree_of file) (demand_of file) target c
  -- "its set": of all sets of at most b nodes the one that ranks first; it costs no more than the target, and has b nodes
  pub ranks_first : RanksFirst (tree_of file) (demand_of file) b (set_of_row (budget_of file) row 0)
  pub cheap : total (tree_of file) (demand_of file) (set_of_row (budget_of file) row 0) ≤ target
  pub all_used : length (set_of_row (budget_of file) row 0) ≡ b
  -- "written as one row of the plan": its nodes, then zeros; "entries beyond those written stay"
  pub nodes_then_zeros : take (budget_of file) row ≡ set_of_row (budget_of file) row 0 ++ replicate (budget_of file - b) 0
  pub beyond_stays : StaysFrom (budget_of file) old row

-- what a host reads from the answer of the call from a target to a budget: 0, 255 for none, or the code of a refusal, and nothing else
pub record TargetTold (file : List ℕ) (target : ℕ) (memory : HostLeastBudgetMemory) (code : ℕ) (memory' : HostLeastBudgetMemory) : Type 0 where
  pub one_of_three : (code ≡ 0) ⊎ (code ≡ 255) ⊎ ((q : ℕ) × (i : ℕ) × (code ≡ i * 256 + q) × (host_least_budget_verdict file memory ≡ broken q i))
  -- 0: the budget stands in its entry, and its set in the row
  pub found : code ≡ 0 → (host_least_budget_verdict file memory ≡ passed)
      × HoldsLeast file target (get_or memory'.budget 0 0) memory.row memory'.row
      × StaysFrom 1 memory.budget memory'.budget
  -- 255: "every set of at most k nodes costs more", and nothing is written
  pub none_found : code ≡ 255 → (host_least_budget_verdict file memory ≡ passed)
      × AllCostMore (tree_of file) (demand_of file) target (budget_of file)
      × (memory'.budget ≡ memory.budget)
      × (memory'.row ≡ memory.row)
  -- else record × 256 + number, and everything stays
  pub refused_by : (q i : ℕ) → host_least_budget_verdict file memory ≡ broken q i
      → (code % 256 ≡ q) × (code / 256 ≡ i)
      × (memory'.scratch ≡ memory.scratch)
      × (memory'.budget ≡ memory.budget)
      × (memory'.row ≡ memory.row)

-- the number that a text of digits stands for, after a number x already read
unfoldable pub read_after : ℕ → List ℕ → ℕ
read_after x [] = x
read_after x (c ∷ cs) = read_after (10 * x + (c - digit 0)) cs

-- of a file, with any sets, buffers and scratch
pub record CallsLawful (file : List ℕ) : Type 0 where
  pub rankings : (k l : List ℕ) → RankingSaid file k l
  -- 12: what is billed or ranked is a set of open nodes
  pub billed_is_set : (set : List ℕ) (memory : BillMemory) → bill_verdict file set memory ≡ passed → is_set (tree_of file) set ≡ true
  pub host_billed_is_set : (set : List ℕ) (memory : HostBillMemory) → host_bill_verdict file set memory ≡ passed → is_set (tree_of file) set ≡ true
  pub ranked_are_sets : (k l : List ℕ) → rank_verdict file k l ≡ passed → (is_set (tree_of file) k ≡ true) × (is_set (tree_of file) l ≡ true)
  -- what the bill and the ranking ask, and in which order; every set of open nodes is billed and ranked
  pub bill_asked : (set : List ℕ) (memory : BillMemory)
      → SetsAsked file (is_set (tree_of file) set ≡ true) (ask 14 0 (bill_buffers_long file memory.servings memory.loads)) (bill_verdict file set memory)
  pub host_bill_asked : (set : List ℕ) (memory : HostBillMemory)
      → SetsAsked file (is_set (tree_of file) set ≡ true)
      (ask 14 0 (long_enough 1 memory.totals && bill_buffers_long file memory.servings memory.loads))
      (host_bill_verdict file set memory)
  pub rank_asked : (k l : List ℕ) → SetsAsked file ((is_set (tree_of file) k ≡ true) × (is_set (tree_of file) l ≡ true)) passed (rank_verdict file k l)
  -- 16: "the node is not from 1 to n − 1, or b is above k"
  pub node_asked : (v b : ℕ) → ask_node file v b ≡ passed ↔ ((1 ≤ v) × (v < count_of file) × (b ≤ budget_of file))
  -- what the plan, the greedy rule and the report ask, and in which order
  pub plan_asked : (memory : PlanMemory)
      → AskedInOrder file memory.scratch (plan_buffers_long file memory.totals memory.rows ≡ true) (plan_verdict file memory)
  pub greedy_asked : (memory : GreedyMemory)
      → AskedInOrder file memory.scratch (greedy_buffers_long file memory.totals memory.nodes ≡ true) (greedy_verdict file memory)
  pub report_asked : (memory : ReportMemory) → AskedInOrder file memory.scratch (report_buffers_long file memory ≡ true) (report_verdict file memory)
  -- a host's code of the bill, the plan, the greedy rule, the report, and the totals with a node and without it
  pub bill_code : (set : List ℕ) (memory : HostBillMemory) → CodeSaid (host_bill_verdict file set memory)
  pub plan_code : (memory : PlanMemory) → CodeSaid (plan_verdict file memory)
  pub greedy_code : (memory : GreedyMemory) → CodeSaid (greedy_verdict file memory)
  pub report_code : (memory : ReportMemory) → CodeSaid (report_verdict file memory)
  pub with_or_without_code : (v b : ℕ) (memory : HostWithOrWithoutMemory) → CodeSaid (host_with_or_without_verdict file v b memory)
  -- of the ranking and of the least budget it is told only where it is a refusal's
  pub rank_refusal_code : (k l : List ℕ) → CodeSaid (rank_verdict file k l)
  pub least_budget_refusal_code : (memory : HostLeastBudgetMemory) → CodeSaid (host_least_budget_verdict file memory)
  -- none of these codes is taken for first, second or none
  pub bill_number : (set : List ℕ) (memory : HostBillMemory) → NumberBelow (host_bill_verdict file set memory)
  pub plan_number : (memory : PlanMemory) → NumberBelow (plan_verdict file memory)
  pub greedy_number : (memory : GreedyMemory) → NumberBelow (greedy_verdict file memory)
  pub report_number : (memory : ReportMemory) → NumberBelow (report_verdict file memory)
  pub with_or_without_number : (v b : ℕ) (memory : HostWithOrWithoutMemory) → NumberBelow (host_with_or_without_verdict file v b memory)
  pub rank_refusal_number : (k l : List ℕ) → NumberBelow (rank_verdict file k l)
  pub least_budget_refusal_number : (memory : HostLeastBudgetMemory) → NumberBelow (host_least_budget_verdict file memory)
  -- which of two sets ranks first, as a host is told, and where it finds a record
  pub rank_told : (k l : List ℕ) (code : ℕ) → code ≡ rank_code (ranking file k l) → RankTold file k l code
  pub record_told : (v x : ℕ) → x ≡ record_place file v → RecordTold file v x
  -- "Is every answer buffer long enough?": for what the call writes
  pub bill_fits : (set servings loads : List ℕ) → bill_buffers_long file servings loads ≡ true
      ↔ ((length (serving_nodes file set) ≤ length servings) × (length (link_loads file set) ≤ length loads))
  pub plan_fits : (totals rows : List ℕ) → plan_buffers_long file totals rows ≡ true
      ↔ ((length (plan_totals file) ≤ length totals) × (length (plan_rows file) ≤ length rows))
  pub greedy_fits : (totals nodes : List ℕ) → greedy_buffers_long file totals nodes ≡ true
      ↔ ((length (greedy_totals file) ≤ length totals) × (length (greedy_row file) ≤ length nodes))
  pub report_fits : (memory : ReportMemory) → report_buffers_long file memory ≡ true
      ↔ ((plan_buffers_long file memory.plan_totals memory.plan_rows ≡ true)
      × (greedy_buffers_long file memory.greedy_totals memory.greedy_nodes ≡ true))
  pub least_budget_fits : (b : ℕ) → b ≤ budget_of file → (row : List ℕ)
      → long_enough (budget_of file) row ≡ true ↔ length (row_written file (least_is b)) ≤ length row
  pub with_or_without_fits : (v b : ℕ) (totals : List ℕ) → long_enough 2 totals ≡ true ↔ length (both_totals file v b) ≤ length totals
  -- no total is the number that tells a host "none", the largest of 64 bits
  pub none_told : file_verdict file ≡ passed → (v b : ℕ)
      → total_or_none (with_it (tree_of file) (demand_of file) b v) ≡ 18_446_744_073_709_551_615 ↔ with_it (tree_of file) (demand_of file) b v ≡ none
  -- the call answers just where no question gets a "no"
  pub with_or_without_passes : (v b : ℕ) (scratch : List ℕ) → with_or_without_verdict file v b scratch ≡ passed
      ↔ ((file_verdict file ≡ passed) × (1 ≤ v) × (v < count_of file) × (b ≤ budget_of file) × (scratch_words file ≤ length scratch))
  -- "the tool's two totals are shown to be those minima": whatever the call answers
  pub both_minima : (v b : ℕ) (x y : Least) (scratch scratch' : List ℕ) → WithOrWithoutCall file v b scratch (answered (x, y)) scratch'
      → LeastWhere (tree_of file) (demand_of file) b v true x × LeastWhere (tree_of file) (demand_of file) b v false y
  -- and what a host finds in its first two entries; the second is always a total
  pub host_minima : (v b : ℕ) (memory memory' : HostWithOrWithoutMemory) → HostWithOrWithoutCall file v b memory passed memory'
      → LeastTold (tree_of file) (demand_of file) b v true (get_or memory'.totals 0 0)
      × LeastWhere (tree_of file) (demand_of file) b v false (least_is (get_or memory'.totals 1 0))
  -- the questions of the call from a target to a budget: "Question 13 is asked as for the plan, then 14 for k entries"; it answers, if
  -- only "none", just where no question gets a "no", and else is refused by the first that does
  pub least_budget_asked : (memory : LeastBudgetMemory)
      → AskedInOrder file memory.scratch (budget_of file ≤ length memory.row) (least_budget_verdict file memory)
  pub host_least_budget_asked : (memory : HostLeastBudgetMemory)
      → AskedInOrder file memory.scratch ((1 ≤ length memory.budget) × (budget_of file ≤ length memory.row)) (host_least_budget_verdict file memory)
  pub least_budget_answers : (target : ℕ) (a : Answer Least) (memory memory' : LeastBudgetMemory) → LeastBudgetCall file target memory a memory'
      → (least_budget_verdict file memory ≡ passed ↔ ((m : Least) × (a ≡ answered m)))
      × ((q i : ℕ) → least_budget_verdict file memory ≡ broken q i ↔ a ≡ refused q i)
  -- whatever it answers: a budget, with its set in the row; "none", which writes nothing; or a refusal, which keeps all
  pub least_budget_found : (target b : ℕ) (memory memory' : LeastBudgetMemory) → LeastBudgetCall file target memory (answered (least_is b)) memory'
      → HoldsLeast file target b memory.row memory'.row
  pub least_budget_none : (target : ℕ) (memory memory' : LeastBudgetMemory) → LeastBudgetCall file target memory (answered none) memory'
      → AllCostMore (tree_of file) (demand_of file) target (budget_of file) × (memory'.row ≡ memory.row)
  pub least_budget_keeps : (target q i : ℕ) (memory memory' : LeastBudgetMemory) → LeastBudgetCall file target memory (refused q i) memory'
      → (memory'.scratch ≡ memory.scratch) × (memory'.row ≡ memory.row)
  -- and what a host is told
  pub target_told : (target code : ℕ) (memory memory' : HostLeastBudgetMemory) → HostLeastBudgetCall file target memory code memory'
      → TargetTold file target memory code memory'
  -- 13: never more words than 01 asked for, n × (h + 1) × (k + 1) + 4 × n; and at most 1,023 × 32 × 33 + 4 × 1,024
  pub words_fewer : scratch_words file ≤ count_of file * (height (tree_of file) + 1) * (budget_of file + 1) + 4 * count_of file
  pub words_most : file_verdict file ≡ passed → scratch_words file ≤ 1_084_384
  -- "Only scratch after an accepted call is free": the words that question 13 asks for; and a refusal keeps all
  pub plan_frees : (memory memory' : PlanMemory) → PlanCall file memory passed memory'
      → StaysFrom (scratch_words file) memory.scratch memory'.scratch
  pub greedy_frees : (memory memory' : GreedyMemory) → GreedyCall file memory passed memory'
      → StaysFrom (scratch_words file) memory.scratch memory'.scratch
  pub report_frees : (memory memory' : ReportMemory) → ReportCall file memory passed memory'
      → StaysFrom (scratch_words file) memory.scratch memory'.scratch
  pub with_or_without_frees : (v b : ℕ) (both : Least × Least) (scratch scratch' : List ℕ)
      → WithOrWithoutCall file v b scratch (answered both) scratch' → StaysFrom (scratch_words file) scratch scratch'
  pub host_with_or_without_frees : (v b : ℕ) (memory memory' : HostWithOrWithoutMemory) → HostWithOrWithoutCall file v b memory passed memory'
      → StaysFrom (scratch_words file) memory.scratch memory'.scratch
  pub with_or_without_keeps : (v b q i : ℕ) (scratch scratch' : List ℕ) → WithOrWithoutCall file v b scratch (refused q i) scratch' → scratch' ≡ scratch
  pub least_budget_frees : (target : ℕ) (m : Least) (memory memory' : LeastBudgetMemory) → LeastBudgetCall file target memory (answered m) memory'
      → StaysFrom (scratch_words file) memory.scratch memory'.scratch
  pub host_least_budget_frees : (target code : ℕ) (memory memory' : HostLeastBudgetMemory) → HostLeastBudgetCall file target memory code memory'
      → host_least_budget_verdict file memory ≡ passed → StaysFrom (scratch_words file) memory.scratch memory'.scratch
  pub scratch_kept : (words q i : ℕ) (old new : List ℕ) → ScratchAfter (broken q i) words old new → new ≡ old
  -- the report call meets demand 3
  pub demand_met : (memory memory' : ReportMemory) → ReportCall file memory passed memory' → DemandThree file memory'
  -- Demand 3 leaves no choice: at each budget one set and two totals meet it. The first is the sum over links, and no more
  -- than the second.
  pub demand_settles : (memory : ReportMemory) → DemandThree file memory → (b : ℕ) → b ≤ budget_of file
      → let held = set_of_row (budget_of file) memory.plan_rows b in
      let plan_held = get_or memory.plan_totals b 0 in
      let greedy_held = get_or memory.greedy_totals b 0 in
      (held ≡ plan (tree_of file) (demand_of file) b)
      × (plan_held ≡ plan_total (tree_of file) (demand_of file) b)
      × (greedy_held ≡ greedy_total (tree_of file) (demand_of file) b)
      × (plan_held ≡ link_total (tree_of file) (demand_of file) held)
      × (plan_held ≤ greedy_held)
  -- The printed digits of a number read back as the number.
  pub decimals_read : (x : ℕ) → read_after 0 (decimal x) ≡ x
