-- Document 01, "Trees to try": the twelve cases marked *, in its order, and the test that they hold. 02, item 6 changes one: "The
-- zero-length case of 01 then plans {2}".
use Rattle.std.specs.Prelude.{Bool, true, ◌&&◌, ℕ, eqb}
use mathlib.Core.List.{List, [], ◌∷◌, ◌++◌, map, flat_map}
use Rattle.laws.specs.Lists.{same}
use Rattle.model.specs.File.{tree_of, demand_of}
use Rattle.model.specs.Bytes.{header_bytes, record_of}
use Rattle.model.specs.Tree.{nodes}
use Rattle.model.specs.Rules.{accepted}
use Rattle.model.specs.Bill.{total, link_load}
use Rattle.model.specs.Plan.{plan}
use Rattle.model.specs.Calls.{budgets}
use Rattle.model.specs.Report.{program_text}

-- ---- the files

-- tree A with flow f and hit h at nodes 2 and 3, and g and i at node 4
unfoldable pub tree_a : ℕ → ℕ → ℕ → ℕ → List ℕ
tree_a f h g i =
    header_bytes 5 2 ++ record_of 0 0 0 0 ++ record_of 0 2 0 0 ++ record_of 1 1 f h ++ record_of 1 1 f h ++ record_of 0 4 g i

-- nodes 1 and 2 under the server
unfoldable pub siblings : List ℕ
siblings = header_bytes 3 1 ++ record_of 0 0 0 0 ++ record_of 0 3 4 1000 ++ record_of 0 3 4 1000

-- node 1 without flow, node 2 below it at length 0
unfoldable pub chain : List ℕ
chain = header_bytes 3 1 ++ record_of 0 0 0 0 ++ record_of 0 3 0 0 ++ record_of 1 0 4 1000

unfoldable pub server_alone : List ℕ
server_alone = header_bytes 1 1 ++ record_of 0 0 0 0

-- ---- the cases

pub data Case : Type 0 where
  total_is : List ℕ → List ℕ → ℕ → Case
  loads_are : List ℕ → List ℕ → List ℕ → Case
  plan_is : List ℕ → ℕ → List ℕ → Case
  empty_plans : List ℕ → Case
  text_is : List ℕ → List ℕ → Case

unfoldable pub case_holds : Case → Bool
case_holds (total_is s k x) = accepted s && eqb (total (tree_of s) (demand_of s) k) x
case_holds (loads_are s k xs) = accepted s && same (map (link_load (tree_of s) (demand_of s) k) (nodes (tree_of s))) xs
case_holds (plan_is s b k) = accepted s && same (plan (tree_of s) (demand_of s) b) k
-- the plans of all budgets have no node among them
case_holds (empty_plans s) = accepted s && same (flat_map (plan (tree_of s) (demand_of s)) (budgets s)) []
case_holds (text_is s text) = same (program_text s) text

-- the lines `0 0 0` and `1 0 0`
unfoldable pub two_lines : List ℕ
two_lines = 0x30 ∷ 0x20 ∷ 0x30 ∷ 0x20 ∷ 0x30 ∷ 0x0A ∷ 0x31 ∷ 0x20 ∷ 0x30 ∷ 0x20 ∷ 0x30 ∷ 0x0A ∷ []

unfoldable pub every : List Case → Bool
every [] = true
every (c ∷ cs) = case_holds c && every cs

unfoldable pub cases : List Case
cases =
    total_is (tree_a 20 1000 5 800) [] 140000
    ∷ total_is (tree_a 20 1000 5 800) (1 ∷ []) 60000
    ∷ total_is (tree_a 20 1000 5 800) (2 ∷ []) 80000
    ∷ total_is (tree_a 20 1000 5 800) (4 ∷ []) 124000
    ∷ total_is (tree_a 20 1000 5 800) (1 ∷ 2 ∷ []) 40000
    ∷ total_is (tree_a 20 1000 5 800) (2 ∷ 3 ∷ []) 20000
    ∷ loads_are (tree_a 20 1000 5 800) (1 ∷ []) (0 ∷ 0 ∷ 20000 ∷ 20000 ∷ 5000 ∷ [])
    ∷ plan_is siblings 1 (1 ∷ [])
    ∷ plan_is chain 1 (2 ∷ [])
    ∷ empty_plans (tree_a 0 1000 0 800)
    ∷ text_is server_alone two_lines
    ∷ empty_plans (tree_a 20 0 5 0)
    ∷ []
