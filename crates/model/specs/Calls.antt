-- Document 01, call by call: the order of the rules, the answer, and each buffer after the call, for all arguments.
-- The memory that a call may change is one record, a field for each buffer. A name with a prime is what the call leaves.
use Rattle.std.specs.Prelude.{◌≡◌, Bool, cond, ◌&&◌, ℕ, suc, ◌*◌, ltb, length, drop}
use mathlib.Core.List.{List, [], ◌++◌, map, flat_map}
use Rattle.laws.specs.Lists.{range, part}
use Rattle.model.specs.File.{tree_of, demand_of, count_of, budget_of, record_at, record_length}
use Rattle.model.specs.Tree.{nodes}
use Rattle.model.specs.Rules.{Verdict, passed, broken, ◌then◌, file_verdict, accepted, ask_set, scratch_words, ask_scratch, long_enough, ask_buffers}
use Rattle.model.specs.Bill.{total, link_load, serving}
use Rattle.model.specs.Ties.{ranks_before}
use Rattle.model.specs.Plan.{plan, plan_total, row}
use Rattle.model.specs.Greedy.{greedy_nodes, greedy_total}

-- ---- answers and buffers

-- what a call answers: a value, or the refusal with its number and its record
pub data Answer (A : Type 0) : Type 0 where
  answered : A → Answer A
  refused : ℕ → ℕ → Answer A

abbrev pub answer : {A : Type 0} → Verdict → A → Answer A
answer passed x = answered x
answer (broken q i) x = refused q i

-- a least number, or none where there is no such number
pub data Least : Type 0 where
  none : Least
  least_is : ℕ → Least

-- a buffer after a call: what is written, and "entries beyond those written stay"; a refusal changes nothing
abbrev pub after : Verdict → List ℕ → List ℕ → List ℕ
after passed written old = written ++ drop (length written) old
after (broken q i) written old = old

-- the scratch after a call: its first `words` words are free, the others and the length stay; a refusal changes nothing
abbrev pub ScratchAfter : Verdict → ℕ → List ℕ → List ℕ → Type 0
ScratchAfter passed words old new = (length new ≡ length old) × (drop words new ≡ drop words old)
ScratchAfter (broken q i) words old new = new ≡ old

-- ---- the check for a C host: 0, or the number of the first broken rule about the file itself (17 and 24 "for the C host too")

abbrev pub number_of : Verdict → ℕ
number_of passed = 0
number_of (broken q i) = q

unfoldable pub check_number : List ℕ → ℕ
check_number file = number_of (file_verdict file)

-- ---- the record of a node: its 10, 12 or 13 bytes, "empty if the file is refused or the node is not below n"

-- no: the file is refused or the node is not below n
abbrev pub has_record : List ℕ → ℕ → Bool
has_record file v = accepted file && ltb v (count_of file)

unfoldable pub record_bytes : List ℕ → ℕ → List ℕ
record_bytes file v = cond (accepted file && ltb v (count_of file)) (part file (record_at file v) (record_length file)) []

-- ---- the bill of a set

-- what is lent to the bill call
pub record BillMemory : Type 0 where
  pub servings : List ℕ
  pub loads : List ℕ

-- "Buffers: n entries each"
abbrev pub bill_buffers_long : List ℕ → List ℕ → List ℕ → Bool
bill_buffers_long file servings loads = long_enough (count_of file) servings && long_enough (count_of file) loads

unfoldable pub bill_verdict : List ℕ → List ℕ → BillMemory → Verdict
bill_verdict file set memory =
    file_verdict file then ask_set file set then ask_buffers (bill_buffers_long file memory.servings memory.loads)

abbrev pub serving_nodes : List ℕ → List ℕ → List ℕ
serving_nodes file set = map (serving (tree_of file) set) (nodes (tree_of file))

abbrev pub link_loads : List ℕ → List ℕ → List ℕ
link_loads file set = map (link_load (tree_of file) (demand_of file) set) (nodes (tree_of file))

-- what the bill call guarantees for all arguments
pub record BillCall (file set : List ℕ) (memory : BillMemory) (a : Answer ℕ) (memory' : BillMemory) : Type 0 where
  pub answers : a ≡ answer (bill_verdict file set memory) (total (tree_of file) (demand_of file) set)
  pub servings_after : memory'.servings ≡ after (bill_verdict file set memory) (serving_nodes file set) memory.servings
  pub loads_after : memory'.loads ≡ after (bill_verdict file set memory) (link_loads file set) memory.loads

-- ---- the ranking of two sets, and the one that ranks first

pub data Winner : Type 0 where
  first : Winner
  second : Winner

unfoldable pub rank_verdict : List ℕ → List ℕ → List ℕ → Verdict
rank_verdict file k l = file_verdict file then ask_set file k then ask_set file l

-- equal sets: first
unfoldable pub ranking : List ℕ → List ℕ → List ℕ → Answer Winner
ranking file k l = answer (rank_verdict file k l) (cond (ranks_before (tree_of file) (demand_of file) l k) second first)

-- the set that an answer names, empty on refusal
abbrev pub named : Answer Winner → List ℕ → List ℕ → List ℕ
named (answered first) k l = k
named (answered second) k l = l
named (refused q i) k l = []

abbrev pub winner : List ℕ → List ℕ → List ℕ → List ℕ
winner file k l = named (ranking file k l) k l

-- ---- the plan: k + 1 totals, and k + 1 rows of k node numbers

abbrev pub budgets : List ℕ → List ℕ
budgets file = range 0 (suc (budget_of file))

unfoldable pub plan_totals : List ℕ → List ℕ
plan_totals file = map (plan_total (tree_of file) (demand_of file)) (budgets file)

-- the row of budget b
abbrev pub plan_row : List ℕ → ℕ → List ℕ
plan_row file b = row (budget_of file) (plan (tree_of file) (demand_of file) b)

unfoldable pub plan_rows : List ℕ → List ℕ
plan_rows file = flat_map (plan_row file) (budgets file)

-- what is lent to the plan call
pub record PlanMemory : Type 0 where
  pub scratch : List ℕ
  pub totals : List ℕ
  pub rows : List ℕ

abbrev pub plan_buffers_long : List ℕ → List ℕ → List ℕ → Bool
plan_buffers_long file totals rows = long_enough (suc (budget_of file)) totals && long_enough (suc (budget_of file) * budget_of file) rows

unfoldable pub plan_verdict : List ℕ → PlanMemory → Verdict
plan_verdict file memory =
    file_verdict file
    then ask_scratch file memory.scratch
    then ask_buffers (plan_buffers_long file memory.totals memory.rows)

-- what the plan call guarantees for all arguments
pub record PlanCall (file : List ℕ) (memory : PlanMemory) (v : Verdict) (memory' : PlanMemory) : Type 0 where
  pub verdict : v ≡ plan_verdict file memory
  pub scratch_after : ScratchAfter v (scratch_words file) memory.scratch memory'.scratch
  pub totals_after : memory'.totals ≡ after v (plan_totals file) memory.totals
  pub rows_after : memory'.rows ≡ after v (plan_rows file) memory.rows

-- ---- the greedy rule: k + 1 totals, and k nodes in the order taken

unfoldable pub greedy_totals : List ℕ → List ℕ
greedy_totals file = map (greedy_total (tree_of file) (demand_of file)) (budgets file)

unfoldable pub greedy_row : List ℕ → List ℕ
greedy_row file = row (budget_of file) (greedy_nodes (tree_of file) (demand_of file) (budget_of file))

-- what is lent to the greedy call
pub record GreedyMemory : Type 0 where
  pub scratch : List ℕ
  pub totals : List ℕ
  pub nodes : List ℕ

abbrev pub greedy_buffers_long : List ℕ → List ℕ → List ℕ → Bool
greedy_buffers_long file totals nodes = long_enough (suc (budget_of file)) totals && long_enough (budget_of file) nodes

unfoldable pub greedy_verdict : List ℕ → GreedyMemory → Verdict
greedy_verdict file memory =
    file_verdict file
    then ask_scratch file memory.scratch
    then ask_buffers (greedy_buffers_long file memory.totals memory.nodes)

-- what the greedy call guarantees for all arguments
pub record GreedyCall (file : List ℕ) (memory : GreedyMemory) (v : Verdict) (memory' : GreedyMemory) : Type 0 where
  pub verdict : v ≡ greedy_verdict file memory
  pub scratch_after : ScratchAfter v (scratch_words file) memory.scratch memory'.scratch
  pub totals_after : memory'.totals ≡ after v (greedy_totals file) memory.totals
  pub nodes_after : memory'.nodes ≡ after v (greedy_row file) memory.nodes
