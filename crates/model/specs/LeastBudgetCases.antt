-- Worked cases of the least budget for a target (`LeastBudget`), in each version, and of the call that finds it, on files that
-- `Samples` has written out byte by byte, and on 01's chain of length 0.
use Rattle.std.specs.Prelude.{◌≡◌, [], ◌∷◌, ◌++◌, ℕ, length, take, drop}
use Rattle.model.specs.Rules.{passed, broken}
use Rattle.model.specs.Calls.{Answer, answered, refused, Least, none, least_is}
use Rattle.model.specs.LeastBudget.{least_budget, row_written, LeastBudgetMemory, least_budget_verdict, LeastBudgetCall}
use Rattle.model.specs.Hosts.{HostLeastBudgetMemory, host_least_budget_verdict, HostLeastBudgetCall}
use Rattle.model.specs.Cases.{chain}
use Rattle.model.specs.Samples.{file_a, budget_a, server_record, one_node, largest, too_long, three_sevenths, too_much, third_a, last_byte, least_budget_memory, host_least_budget_memory}

pub record LeastBudgetCases : Type 0 where
  -- tree A plans {} for 140,000, {1} for 60,000 and {2, 3} for 20,000: "no larger than the target"
  pub at_first : least_budget file_a 140000 ≡ least_is 0
  pub above_first : least_budget file_a 140001 ≡ least_is 0
  pub below_first : least_budget file_a 139999 ≡ least_is 1
  pub at_second : least_budget file_a 60000 ≡ least_is 1
  pub above_second : least_budget file_a 60001 ≡ least_is 1
  pub below_second : least_budget file_a 59999 ≡ least_is 2
  pub at_last : least_budget file_a 20000 ≡ least_is 2
  pub above_last : least_budget file_a 20001 ≡ least_is 2
  pub below_last : least_budget file_a 19999 ≡ none
  pub zero_target : least_budget file_a 0 ≡ none
  pub largest_target : least_budget file_a 18_446_744_073_709_551_615 ≡ least_is 0
  -- "at most k"
  pub zero_budget : least_budget (budget_a 0x00) 140000 ≡ least_is 0
  pub zero_budget_none : least_budget (budget_a 0x00) 139999 ≡ none
  pub one_budget_none : least_budget (budget_a 0x01) 59999 ≡ none
  -- where larger budgets cost as much, the least of them
  pub three_of_thirty_two : least_budget (budget_a 0x20) 4000 ≡ least_is 3
  pub server_alone : least_budget (one_node server_record) 0 ≡ least_is 0
  -- a link of length 0, where the row has the lower site, and the largest total less 1
  pub zero_length : least_budget chain 0 ≡ least_is 1
  pub lower_in_row : row_written chain (least_is 1) ≡ 2 ∷ []
  pub largest_below : least_budget largest 99_999_999_999_999 ≡ least_is 1
  -- version 2, with 3 of 7 bytes cachable
  pub sevenths : least_budget three_sevenths 12000 ≡ least_is 1
  pub sevenths_none : least_budget three_sevenths 11999 ≡ none
  -- version 3: tree A with node 1 closed plans {} for 140,000, {2} for 80,000 and {2, 3} for 20,000
  pub closed_second : least_budget third_a 80000 ≡ least_is 1
  pub closed_third : least_budget third_a 60000 ≡ least_is 2
  pub only_closed : least_budget (last_byte 0x00) 12000 ≡ none
  pub only_open : least_budget (last_byte 0x01) 12000 ≡ least_is 1
  -- "Question 13 is asked as for the plan": 35 words pass, and 34 don't; "then 14 for k entries"
  pub passes : least_budget_verdict file_a (least_budget_memory 35 2) ≡ passed
  pub scratch_short : least_budget_verdict file_a (least_budget_memory 34 2) ≡ broken 13 0
  pub row_short : least_budget_verdict file_a (least_budget_memory 35 1) ≡ broken 14 0
  pub scratch_first : least_budget_verdict file_a (least_budget_memory 34 1) ≡ broken 13 0
  pub no_entries_for_zero : least_budget_verdict (budget_a 0x00) (least_budget_memory 26 0) ≡ passed
  pub entries_for_thirty_two : least_budget_verdict (budget_a 0x20) (least_budget_memory 39 32) ≡ passed
  pub entries_below_thirty_two : least_budget_verdict (budget_a 0x20) (least_budget_memory 39 31) ≡ broken 14 0
  pub records_first : least_budget_verdict too_long (least_budget_memory 0 0) ≡ broken 9 1
  pub seventeen_first : least_budget_verdict too_much (least_budget_memory 0 0) ≡ broken 17 1
  pub twenty_four_first : least_budget_verdict (take 73 third_a ++ (0x02 ∷ [])) (least_budget_memory 0 0) ≡ broken 24 4
  -- a host also lends one entry for the budget
  pub host_passes : host_least_budget_verdict file_a (host_least_budget_memory 35 1 2) ≡ passed
  pub host_budget_short : host_least_budget_verdict file_a (host_least_budget_memory 35 0 2) ≡ broken 14 0
  pub host_row_short : host_least_budget_verdict file_a (host_least_budget_memory 35 1 1) ≡ broken 14 0
  pub host_scratch_first : host_least_budget_verdict file_a (host_least_budget_memory 34 0 1) ≡ broken 13 0
  pub host_file_first : host_least_budget_verdict too_long (host_least_budget_memory 0 0 0) ≡ broken 9 1
  -- what a call that keeps its statement hands back, however it works: "its set written as one row of the plan"; the 7s beyond
  -- the words that 13 asks for and beyond the row stay
  pub settled : {a : Answer Least} {memory' : LeastBudgetMemory} → LeastBudgetCall file_a 60000 (least_budget_memory 36 3) a memory'
      → (a ≡ answered (least_is 1)) × (length memory'.scratch ≡ 36) × (drop 35 memory'.scratch ≡ 7 ∷ []) × (memory'.row ≡ 1 ∷ 0 ∷ 7 ∷ [])
  pub settled_empty : {a : Answer Least} {memory' : LeastBudgetMemory} → LeastBudgetCall file_a 140000 (least_budget_memory 35 3) a memory'
      → (a ≡ answered (least_is 0)) × (memory'.row ≡ 0 ∷ 0 ∷ 7 ∷ [])
  pub settled_whole : {a : Answer Least} {memory' : LeastBudgetMemory} → LeastBudgetCall file_a 59999 (least_budget_memory 35 2) a memory'
      → (a ≡ answered (least_is 2)) × (memory'.row ≡ 2 ∷ 3 ∷ [])
  -- ""none", which writes nothing"
  pub settled_none : {a : Answer Least} {memory' : LeastBudgetMemory} → LeastBudgetCall file_a 19999 (least_budget_memory 36 3) a memory'
      → (a ≡ answered none) × (length memory'.scratch ≡ 36) × (drop 35 memory'.scratch ≡ 7 ∷ []) × (memory'.row ≡ 7 ∷ 7 ∷ 7 ∷ [])
  -- a refusal keeps all, also where the answer would be none
  pub settled_short : {a : Answer Least} {memory' : LeastBudgetMemory} → LeastBudgetCall file_a 19999 (least_budget_memory 2 1) a memory'
      → (a ≡ refused 13 0) × (memory'.scratch ≡ 7 ∷ 7 ∷ []) × (memory'.row ≡ 7 ∷ [])
  pub settled_row_short : {a : Answer Least} {memory' : LeastBudgetMemory} → LeastBudgetCall (one_node server_record) 0 (least_budget_memory 4 0) a memory'
      → (a ≡ refused 14 0) × (memory'.scratch ≡ 7 ∷ 7 ∷ 7 ∷ 7 ∷ []) × (memory'.row ≡ [])
  pub settled_none_short : {a : Answer Least} {memory' : LeastBudgetMemory} → LeastBudgetCall file_a 0 (least_budget_memory 35 1) a memory'
      → (a ≡ refused 14 0) × (memory'.row ≡ 7 ∷ [])
  -- record 1, rule 9
  pub settled_refused : {a : Answer Least} {memory memory' : LeastBudgetMemory} → LeastBudgetCall too_long 0 memory a memory'
      → (a ≡ refused 9 1) × (memory'.scratch ≡ memory.scratch) × (memory'.row ≡ memory.row)
  -- k 4: two nodes, then zeros
  pub settled_zeros : {a : Answer Least} {memory' : LeastBudgetMemory} → LeastBudgetCall (budget_a 0x04) 20000 (least_budget_memory 38 5) a memory'
      → (a ≡ answered (least_is 2)) × (drop 37 memory'.scratch ≡ 7 ∷ []) × (memory'.row ≡ 2 ∷ 3 ∷ 0 ∷ 0 ∷ 7 ∷ [])
  -- versions 2 and 3
  pub settled_second : {a : Answer Least} {memory' : LeastBudgetMemory} → LeastBudgetCall three_sevenths 12000 (least_budget_memory 10 2) a memory'
      → (a ≡ answered (least_is 1)) × (memory'.row ≡ 1 ∷ 7 ∷ [])
  pub settled_third : {a : Answer Least} {memory' : LeastBudgetMemory} → LeastBudgetCall third_a 80000 (least_budget_memory 35 2) a memory'
      → (a ≡ answered (least_is 1)) × (memory'.row ≡ 2 ∷ 0 ∷ [])
  -- what a host is told, and finds in the budget's entry and in the row
  pub host_settled : {code : ℕ} {memory' : HostLeastBudgetMemory} → HostLeastBudgetCall file_a 60000 (host_least_budget_memory 36 2 3) code memory'
      → (code ≡ 0) × (drop 35 memory'.scratch ≡ 7 ∷ []) × (memory'.budget ≡ 1 ∷ 7 ∷ []) × (memory'.row ≡ 1 ∷ 0 ∷ 7 ∷ [])
  pub host_settled_zeros : {code : ℕ} {memory' : HostLeastBudgetMemory} → HostLeastBudgetCall (budget_a 0x04) 20000 (host_least_budget_memory 37 2 5) code memory'
      → (code ≡ 0) × (memory'.budget ≡ 2 ∷ 7 ∷ []) × (memory'.row ≡ 2 ∷ 3 ∷ 0 ∷ 0 ∷ 7 ∷ [])
  pub host_settled_empty : {code : ℕ} {memory' : HostLeastBudgetMemory} → HostLeastBudgetCall file_a 140000 (host_least_budget_memory 35 2 3) code memory'
      → (code ≡ 0) × (memory'.budget ≡ 0 ∷ 7 ∷ []) × (memory'.row ≡ 0 ∷ 0 ∷ 7 ∷ [])
  pub host_settled_none : {code : ℕ} {memory' : HostLeastBudgetMemory} → HostLeastBudgetCall file_a 19999 (host_least_budget_memory 36 2 3) code memory'
      → (code ≡ 255) × (drop 35 memory'.scratch ≡ 7 ∷ []) × (memory'.budget ≡ 7 ∷ 7 ∷ []) × (memory'.row ≡ 7 ∷ 7 ∷ 7 ∷ [])
  pub host_settled_short : {code : ℕ} {memory' : HostLeastBudgetMemory} → HostLeastBudgetCall file_a 19999 (host_least_budget_memory 35 1 1) code memory'
      → (code ≡ 14) × (memory'.budget ≡ 7 ∷ []) × (memory'.row ≡ 7 ∷ [])
  -- record 1, rule 9
  pub host_settled_refused : {code : ℕ} {memory memory' : HostLeastBudgetMemory} → HostLeastBudgetCall too_long 0 memory code memory'
      → (code ≡ 265) × (memory'.scratch ≡ memory.scratch) × (memory'.budget ≡ memory.budget) × (memory'.row ≡ memory.row)
  -- "for the C host too"
  pub host_seventeen : {code : ℕ} {memory memory' : HostLeastBudgetMemory} → HostLeastBudgetCall too_much 0 memory code memory' → code ≡ 273
  pub host_twenty_four : {code : ℕ} {memory memory' : HostLeastBudgetMemory} → HostLeastBudgetCall (last_byte 0x02) 0 memory code memory' → code ≡ 280
