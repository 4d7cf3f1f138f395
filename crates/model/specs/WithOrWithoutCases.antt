-- Worked cases of the least totals with a node and without it (`WithOrWithout`), in each version, and of the call that gives them, on
-- files written out byte by byte (`Samples`).
use Rattle.std.specs.Prelude.{◌≡◌, List, [], ◌∷◌, ◌++◌, ℕ, length, take, drop, replicate}
use Rattle.model.specs.Rules.{Verdict, passed, broken}
use Rattle.model.specs.Calls.{Answer, answered, refused, Least, none, least_is}
use Rattle.model.specs.WithOrWithout.{with_or_without_verdict, both_least, WithOrWithoutCall}
use Rattle.model.specs.Hosts.{code_of, HostWithOrWithoutMemory, host_with_or_without_verdict, HostWithOrWithoutCall}
use Rattle.model.specs.Cases.{chain}
use Rattle.model.specs.Samples.{file_a, budget_a, server_record, one_node, largest, too_long, three_sevenths, too_much, third_a, closed_last, last_byte, host_with_or_without_memory}

pub record WithOrWithoutCases : Type 0 where
  -- tree A plans {}, {1} and {2, 3}. "or none where b is 0"
  pub no_budget : both_least file_a 1 0 ≡ (none, least_is 140000)
  pub no_budget_last : both_least file_a 4 0 ≡ (none, least_is 140000)
  -- a node that the plan has, and ones that it has not
  pub planned : both_least file_a 1 1 ≡ (least_is 60000, least_is 80000)
  pub not_planned : both_least file_a 2 1 ≡ (least_is 80000, least_is 60000)
  pub planned_of_two : both_least file_a 2 2 ≡ (least_is 20000, least_is 40000)
  pub not_planned_of_two : both_least file_a 1 2 ≡ (least_is 40000, least_is 20000)
  pub last_node : both_least file_a 4 2 ≡ (least_is 44000, least_is 20000)
  -- "at most b nodes": more than there are
  pub more_than_all : both_least (budget_a 0x20) 2 32 ≡ (least_is 4000, least_is 24000)
  -- 100,000,000 × 1,000 × 1,000, all of it saved by a cache with hit 1,000
  pub largest_totals : both_least largest 1 1 ≡ (least_is 0, least_is 100_000_000_000_000)
  -- "only if": where both are equal, the plan has node 2 and not node 1 (`Cases`)
  pub tie_planned : both_least chain 2 1 ≡ (least_is 0, least_is 0)
  pub tie_not_planned : both_least chain 1 1 ≡ (least_is 0, least_is 0)
  -- version 2, with 3 of 7 bytes cachable
  pub sevenths : both_least three_sevenths 1 1 ≡ (least_is 12000, least_is 21000)
  -- version 3: "a closed node in item 1 has no set that contains it"; where node 2 is asked about, no set has the closed node 1 either
  pub closed_node : both_least third_a 1 2 ≡ (none, least_is 20000)
  pub closed_beside : both_least third_a 2 1 ≡ (least_is 80000, least_is 80000)
  pub closed_beside_of_two : both_least third_a 2 2 ≡ (least_is 20000, least_is 64000)
  pub closed_last_node : both_least closed_last 4 1 ≡ (none, least_is 80000)
  pub only_closed : both_least (last_byte 0x00) 1 1 ≡ (none, least_is 21000)
  pub only_open : both_least (last_byte 0x01) 1 1 ≡ (least_is 12000, least_is 21000)
  -- "16: the node is not from 1 to n − 1"
  pub first_node : with_or_without_verdict file_a 1 2 (replicate 35 7) ≡ passed
  pub highest_node : with_or_without_verdict file_a 4 2 (replicate 35 7) ≡ passed
  pub node_zero : with_or_without_verdict file_a 0 2 (replicate 35 7) ≡ broken 16 0
  pub node_past : with_or_without_verdict file_a 5 2 (replicate 35 7) ≡ broken 16 0
  pub node_far_past : with_or_without_verdict file_a 65535 2 (replicate 35 7) ≡ broken 16 0
  -- 65,537 is not node 1, and a budget of 256 is not 0
  pub node_whole : with_or_without_verdict file_a 65537 2 (replicate 35 7) ≡ broken 16 0
  pub budget_whole : with_or_without_verdict file_a 1 256 (replicate 35 7) ≡ broken 16 0
  -- a closed node is one from 1 to n − 1
  pub closed_passes : with_or_without_verdict third_a 1 2 (replicate 35 7) ≡ passed
  -- the server alone has no such node
  pub server_alone : (v b : ℕ) (scratch : List ℕ) → with_or_without_verdict (one_node server_record) v b scratch ≡ broken 16 0
  -- "or b is above k"
  pub budget_above : with_or_without_verdict file_a 1 3 (replicate 35 7) ≡ broken 16 0
  pub zero_of_zero : with_or_without_verdict (budget_a 0x00) 1 0 (replicate 26 7) ≡ passed
  pub one_of_zero : with_or_without_verdict (budget_a 0x00) 1 1 (replicate 26 7) ≡ broken 16 0
  -- "13, which is asked as for the plan": 35 words pass, also at a smaller budget, and 34 don't
  pub scratch_at_zero : with_or_without_verdict file_a 1 0 (replicate 35 7) ≡ passed
  pub scratch_short : with_or_without_verdict file_a 1 2 (replicate 34 7) ≡ broken 13 0
  pub scratch_short_at_zero : with_or_without_verdict file_a 1 0 (replicate 34 7) ≡ broken 13 0
  -- "after all questions on records, before 13"
  pub records_first : with_or_without_verdict too_long 0 2 [] ≡ broken 9 1
  pub seventeen_first : with_or_without_verdict too_much 0 2 [] ≡ broken 17 1
  pub twenty_four_first : with_or_without_verdict (take 73 third_a ++ (0x02 ∷ [])) 0 3 [] ≡ broken 24 4
  pub node_before_scratch : with_or_without_verdict file_a 5 2 (replicate 34 7) ≡ broken 16 0
  pub budget_before_scratch : with_or_without_verdict file_a 1 3 (replicate 34 7) ≡ broken 16 0
  -- a host lends two entries for the totals, and is asked 14 last
  pub host_passes : host_with_or_without_verdict file_a 1 2 (host_with_or_without_memory 35 2) ≡ passed
  pub host_totals_short : host_with_or_without_verdict file_a 1 2 (host_with_or_without_memory 35 1) ≡ broken 14 0
  pub host_totals_short_at_zero : host_with_or_without_verdict file_a 1 0 (host_with_or_without_memory 35 1) ≡ broken 14 0
  pub host_scratch_first : host_with_or_without_verdict file_a 1 2 (host_with_or_without_memory 34 1) ≡ broken 13 0
  pub host_node_first : host_with_or_without_verdict file_a 5 2 (host_with_or_without_memory 34 1) ≡ broken 16 0
  pub host_budget_first : host_with_or_without_verdict file_a 1 3 (host_with_or_without_memory 34 1) ≡ broken 16 0
  pub host_file_first : host_with_or_without_verdict too_long 0 2 (host_with_or_without_memory 0 0) ≡ broken 9 1
  pub host_code : code_of (host_with_or_without_verdict file_a 5 2 (host_with_or_without_memory 35 2)) ≡ 16
  -- what a call that keeps its statement hands back, however it works: the 7s beyond the scratch and the two totals stay, a refusal
  -- keeps all
  pub settled : {a : Answer (Least × Least)} {scratch' : List ℕ} → WithOrWithoutCall file_a 1 1 (replicate 36 7) a scratch'
      → (a ≡ answered (least_is 60000, least_is 80000)) × (length scratch' ≡ 36) × (drop 35 scratch' ≡ 7 ∷ [])
  pub settled_none : {a : Answer (Least × Least)} {scratch' : List ℕ} → WithOrWithoutCall file_a 1 0 (replicate 36 7) a scratch'
      → (a ≡ answered (none, least_is 140000)) × (length scratch' ≡ 36) × (drop 35 scratch' ≡ 7 ∷ [])
  pub settled_refused : {a : Answer (Least × Least)} {scratch scratch' : List ℕ} → WithOrWithoutCall file_a 5 1 scratch a scratch'
      → (a ≡ refused 16 0) × (scratch' ≡ scratch)
  pub settled_record : {a : Answer (Least × Least)} {scratch scratch' : List ℕ} → WithOrWithoutCall too_long 1 1 scratch a scratch'
      → (a ≡ refused 9 1) × (scratch' ≡ scratch)
  pub settled_short : {a : Answer (Least × Least)} {scratch' : List ℕ} → WithOrWithoutCall file_a 1 1 (replicate 34 7) a scratch'
      → (a ≡ refused 13 0) × (scratch' ≡ replicate 34 7)
  pub host_settled : {a : Verdict} {memory' : HostWithOrWithoutMemory} → HostWithOrWithoutCall file_a 1 1 (host_with_or_without_memory 36 3) a memory'
      → (a ≡ passed) × (length memory'.scratch ≡ 36) × (drop 35 memory'.scratch ≡ 7 ∷ []) × (memory'.totals ≡ 60000 ∷ 80000 ∷ 7 ∷ [])
  pub host_settled_largest : {a : Verdict} {memory' : HostWithOrWithoutMemory} → HostWithOrWithoutCall largest 1 1 (host_with_or_without_memory 10 2) a memory'
      → (a ≡ passed) × (memory'.totals ≡ 0 ∷ 100_000_000_000_000 ∷ [])
  -- none is told by the largest number of 64 bits
  pub host_settled_none : {a : Verdict} {memory' : HostWithOrWithoutMemory} → HostWithOrWithoutCall file_a 1 0 (host_with_or_without_memory 36 3) a memory'
      → (a ≡ passed) × (memory'.totals ≡ 18_446_744_073_709_551_615 ∷ 140000 ∷ 7 ∷ [])
  pub host_settled_closed : {a : Verdict} {memory' : HostWithOrWithoutMemory} → HostWithOrWithoutCall third_a 1 2 (host_with_or_without_memory 35 2) a memory'
      → (a ≡ passed) × (memory'.totals ≡ 18_446_744_073_709_551_615 ∷ 20000 ∷ [])
  pub host_settled_refused : {a : Verdict} {memory memory' : HostWithOrWithoutMemory} → HostWithOrWithoutCall file_a 5 1 memory a memory'
      → (a ≡ broken 16 0) × (memory'.scratch ≡ memory.scratch) × (memory'.totals ≡ memory.totals)
