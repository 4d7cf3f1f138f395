-- The calls of document 01 and of 02, items 1 and 13, as hosts in C make them: an answer is one number, a record is told by its place
-- in the file, and totals and budgets are written to buffers.
use Rattle.std.specs.Prelude.{◌≡◌, cond, ◌&&◌, List, [], ◌∷◌, ℕ, ◌+◌, ◌*◌, ◌-◌, ◌^◌}
use Rattle.model.specs.File.{tree_of, demand_of, budget_of, record_at}
use Rattle.model.specs.Rules.{Verdict, passed, broken, ◌then◌, file_verdict, accepted, ask_set, scratch_words, ask_scratch, long_enough, ask_buffers}
use Rattle.model.specs.Bill.{total}
use Rattle.model.specs.Calls.{Answer, answered, refused, answer, Least, none, least_is, after, ScratchAfter, has_record, bill_buffers_long, serving_nodes, link_loads, Winner, first, second}
use Rattle.model.specs.WithOrWithout.{with_or_without_verdict, both_least}
use Rattle.model.specs.LeastBudget.{least_budget, row_written}

-- the number of a question is one byte of the code
abbrev pub code_unit : ℕ
code_unit = 256

-- record × 256 + number, and 0 where no rule is broken
abbrev pub code_of : Verdict → ℕ
code_of passed = 0
code_of (broken q i) = i * code_unit + q

-- the words of scratch that question 13 asks of an accepted file, 0 for a refused one
unfoldable pub words_asked : List ℕ → ℕ
words_asked file = cond (accepted file) (scratch_words file) 0

-- the place of a node's record in the file, counted in bytes from 0; 0 for none, if the file is refused or the node is not below n
unfoldable pub record_place : List ℕ → ℕ → ℕ
record_place file v = cond (has_record file v) (record_at file v) 0

-- ---- the ranking of two sets

-- the numbers that stand for the answers first and second; they are no question's
abbrev pub first_code : ℕ
first_code = 253

abbrev pub second_code : ℕ
second_code = 254

-- the answer as one number
abbrev pub rank_code : Answer Winner → ℕ
rank_code (answered first) = first_code
rank_code (answered second) = second_code
rank_code (refused q i) = code_of (broken q i)

-- ---- the bill: its total goes to a buffer of one entry, which joins question 14

-- what a host lends to the bill call
pub record HostBillMemory : Type 0 where
  pub totals : List ℕ
  pub servings : List ℕ
  pub loads : List ℕ

unfoldable pub host_bill_verdict : List ℕ → List ℕ → HostBillMemory → Verdict
host_bill_verdict file set memory =
    file_verdict file
    then ask_set file set
    then ask_buffers (long_enough 1 memory.totals && bill_buffers_long file memory.servings memory.loads)

-- what the bill call of a host guarantees for all arguments
pub record HostBillCall (file set : List ℕ) (memory : HostBillMemory) (v : Verdict) (memory' : HostBillMemory) : Type 0 where
  pub verdict : v ≡ host_bill_verdict file set memory
  pub totals_after : memory'.totals ≡ after v (total (tree_of file) (demand_of file) set ∷ []) memory.totals
  pub servings_after : memory'.servings ≡ after v (serving_nodes file set) memory.servings
  pub loads_after : memory'.loads ≡ after v (link_loads file set) memory.loads

-- ---- with a node or without it: the two totals go to a buffer of two entries, for which question 14 asks, last

-- the number that stands for none, the largest of 64 bits
abbrev pub no_total : ℕ
no_total = 2 ^ 64 - 1

-- a least total as a host reads it
abbrev pub total_or_none : Least → ℕ
total_or_none none = no_total
total_or_none (least_is x) = x

-- what a host lends to the call
pub record HostWithOrWithoutMemory : Type 0 where
  pub scratch : List ℕ
  pub totals : List ℕ

unfoldable pub host_with_or_without_verdict : List ℕ → ℕ → ℕ → HostWithOrWithoutMemory → Verdict
host_with_or_without_verdict file v b memory =
    with_or_without_verdict file v b memory.scratch then ask_buffers (long_enough 2 memory.totals)

-- with the node, then without it
abbrev pub both_totals : List ℕ → ℕ → ℕ → List ℕ
both_totals file v b = let both = both_least file v b in total_or_none both.0 ∷ total_or_none both.1 ∷ []

-- what the call of a host guarantees for all arguments
pub record HostWithOrWithoutCall (file : List ℕ) (v b : ℕ) (memory : HostWithOrWithoutMemory) (a : Verdict) (memory' : HostWithOrWithoutMemory) : Type 0 where
  pub verdict : a ≡ host_with_or_without_verdict file v b memory
  pub scratch_after : ScratchAfter a (scratch_words file) memory.scratch memory'.scratch
  pub totals_after : memory'.totals ≡ after a (both_totals file v b) memory.totals

-- ---- from a target to a budget: the budget goes to a buffer of one entry, which joins question 14

-- the number that stands for the answer none; it is no question's
abbrev pub none_code : ℕ
none_code = 255

-- the answer as one number: 0 where a budget is found
abbrev pub least_budget_code : Answer Least → ℕ
least_budget_code (answered none) = none_code
least_budget_code (answered (least_is b)) = 0
least_budget_code (refused q i) = code_of (broken q i)

-- what a host lends to the call
pub record HostLeastBudgetMemory : Type 0 where
  pub scratch : List ℕ
  pub budget : List ℕ
  pub row : List ℕ

-- as without a host, and 14 asks for the budget's entry too
unfoldable pub host_least_budget_verdict : List ℕ → HostLeastBudgetMemory → Verdict
host_least_budget_verdict file memory =
    file_verdict file
    then ask_scratch file memory.scratch
    then ask_buffers (long_enough 1 memory.budget && long_enough (budget_of file) memory.row)

-- the budget in one entry; none writes nothing
abbrev pub budget_written : Least → List ℕ
budget_written none = []
budget_written (least_is b) = b ∷ []

-- what the call of a host guarantees for all arguments
pub record HostLeastBudgetCall (file : List ℕ) (target : ℕ) (memory : HostLeastBudgetMemory) (code : ℕ) (memory' : HostLeastBudgetMemory) : Type 0 where
  pub answers : code ≡ least_budget_code (answer (host_least_budget_verdict file memory) (least_budget file target))
  pub scratch_after : ScratchAfter (host_least_budget_verdict file memory) (scratch_words file) memory.scratch memory'.scratch
  pub budget_after : memory'.budget ≡ after (host_least_budget_verdict file memory) (budget_written (least_budget file target)) memory.budget
  pub row_after : memory'.row ≡ after (host_least_budget_verdict file memory) (row_written file (least_budget file target)) memory.row
