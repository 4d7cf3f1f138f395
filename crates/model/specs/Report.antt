-- Document 01, "Report", with 02, items 2, 6 and 9: demand 3 as one record, the report call, and the text that the program prints.
use Rattle.std.specs.Prelude.{◌≡◌, Bool, true, false, ◌&&◌, not, ℕ, zero, suc, ◌+◌, ◌*◌, ◌/◌, ◌%◌, ◌≤◌, leb, ltb, eqb, length, take, get_or}
use mathlib.Core.List.{List, [], ◌∷◌, ◌++◌, map, flat_map}
use Rattle.laws.specs.Lists.{part, those}
use Rattle.model.specs.File.{Tree, Demand, tree_of, demand_of, count_of, budget_of}
use Rattle.model.specs.Tree.{height}
use Rattle.model.specs.Rules.{Verdict, passed, broken, ◌then◌, file_verdict, is_set, scratch_words, ask_scratch, ask_buffers, ask_program}
use Rattle.model.specs.Bill.{total, link_total}
use Rattle.model.specs.Ties.{ties_before}
use Rattle.model.specs.Plan.{plan, plan_total}
use Rattle.model.specs.Greedy.{greedy_total}
use Rattle.model.specs.Calls.{after, ScratchAfter, budgets, plan_totals, plan_rows, plan_buffers_long, greedy_totals, greedy_row, greedy_buffers_long}

-- ---- demand 3, whose words are quoted from docs/PROMISES.md

-- what a report guarantees at budget b, of the set and the two totals that it holds there
pub record HoldsOptimum (t : Tree) (d : Demand) (b : ℕ) (held : List ℕ) (plan_held greedy_held : ℕ) : Type 0 where
  -- "a set of at most b nodes"
  pub is_a_set : is_set t held ≡ true
  pub within_budget : length held ≤ b
  -- "and its exact total"
  pub exact_total : plan_held ≡ total t d held
  -- "that total is also the sum over links of load times length"
  pub over_links : plan_held ≡ link_total t d held
  -- "every other set of at most b nodes", open ones, "costs at least as much"
  pub no_rival_less : (l : List ℕ) → is_set t l ≡ true → length l ≤ b → plan_held ≤ total t d l
  -- "and one that costs the same comes later in the order of ties", that of 02, item 6
  pub rivals_later : (l : List ℕ) → is_set t l ≡ true → length l ≤ b → (l ≡ held → ⊥) → total t d l ≡ plan_held → ties_before t held l ≡ true
  -- "exactly the total that the greedy rule reaches in at most b steps"
  pub greedy_exact : greedy_held ≡ greedy_total t d b
  -- "never smaller than the set's"
  pub greedy_no_less : plan_held ≤ greedy_held

-- "the set of a row is its numbers other than 0": row b of rows of k numbers
unfoldable pub set_of_row : ℕ → List ℕ → ℕ → List ℕ
set_of_row k rows b = those (λ v. not (eqb v 0)) (part rows (b * k) k)

-- what is lent to the report call: the scratch, and the buffers for both answers
pub record ReportMemory : Type 0 where
  pub scratch : List ℕ
  pub plan_totals : List ℕ
  pub plan_rows : List ℕ
  pub greedy_totals : List ℕ
  pub greedy_nodes : List ℕ

-- demand 3, of a report as memory holds it: "total b and row b, counted from 0, belong to budget b"
abbrev pub DemandThree : List ℕ → ReportMemory → Type 0
DemandThree file report =
    (b : ℕ) → b ≤ budget_of file
    → HoldsOptimum (tree_of file) (demand_of file) b (set_of_row (budget_of file) report.plan_rows b) (get_or report.plan_totals b 0) (get_or report.greedy_totals b 0)

-- ---- the report call: the plan's and the greedy rule's answers together

abbrev pub report_buffers_long : List ℕ → ReportMemory → Bool
report_buffers_long file memory =
    plan_buffers_long file memory.plan_totals memory.plan_rows
    && greedy_buffers_long file memory.greedy_totals memory.greedy_nodes

unfoldable pub report_verdict : List ℕ → ReportMemory → Verdict
report_verdict file memory =
    file_verdict file then ask_scratch file memory.scratch then ask_buffers (report_buffers_long file memory)

-- what the report call guarantees for all arguments
pub record ReportCall (file : List ℕ) (memory : ReportMemory) (v : Verdict) (memory' : ReportMemory) : Type 0 where
  pub verdict : v ≡ report_verdict file memory
  pub scratch_after : ScratchAfter v (scratch_words file) memory.scratch memory'.scratch
  pub plan_totals_after : memory'.plan_totals ≡ after v (plan_totals file) memory.plan_totals
  pub plan_rows_after : memory'.plan_rows ≡ after v (plan_rows file) memory.plan_rows
  pub greedy_totals_after : memory'.greedy_totals ≡ after v (greedy_totals file) memory.greedy_totals
  pub greedy_nodes_after : memory'.greedy_nodes ≡ after v (greedy_row file) memory.greedy_nodes
  pub demand_three : v ≡ passed → DemandThree file memory'

-- ---- the text: "decimal, single spaces, a newline each"

abbrev pub space : ℕ
space = 0x20

abbrev pub newline : ℕ
newline = 0x0A

-- the byte of a digit
abbrev pub digit : ℕ → ℕ
digit x = 0x30 + x

-- the digits of x, at most k of them
unfoldable pub digits : ℕ → ℕ → List ℕ
digits zero x = []
digits (suc k) x = elim (ltb x 10) as (λ _. List ℕ) [ true ↦ digit x ∷ [] | false ↦ digits k (x / 10) ++ (digit (x % 10) ∷ []) ]

-- x has at most x + 1 digits
unfoldable pub decimal : ℕ → List ℕ
decimal x = digits (suc x) x

-- a word, and more words with a space before each
unfoldable pub line : List ℕ → List (List ℕ) → List ℕ
line w ws = w ++ flat_map (λ u. space ∷ u) ws ++ (newline ∷ [])

-- "one line per budget: b, plan total, greedy total, the plan's nodes"
unfoldable pub report_text : List ℕ → List ℕ
report_text file =
    let t = tree_of file in
    let d = demand_of file in
    flat_map (λ b. line (decimal b) (map decimal (plan_total t d b ∷ greedy_total t d b ∷ plan t d b))) (budgets file)

-- the word `refused`
abbrev pub refused_word : List ℕ
refused_word = 0x72 ∷ 0x65 ∷ 0x66 ∷ 0x75 ∷ 0x73 ∷ 0x65 ∷ 0x64 ∷ []

-- "A refusal prints one line of the same form: refused, the number, the record"
unfoldable pub refusal_text : ℕ → ℕ → List ℕ
refusal_text q i = line refused_word (map decimal (q ∷ i ∷ []))

-- ---- the report program

-- "The program looks at its first 650 input bytes"; with 02, item 9, "the program's first look is 842 bytes"
abbrev pub first_look : ℕ
first_look = 842

-- the limits of question 15
abbrev pub program_nodes : ℕ
program_nodes = 64

abbrev pub program_height : ℕ
program_height = 8

abbrev pub program_budget : ℕ
program_budget = 8

abbrev pub is_small : List ℕ → Bool
is_small s = leb (count_of s) program_nodes && leb (height (tree_of s)) program_height && leb (budget_of s) program_budget

-- if all bytes of the first look exist "it answers 15 before question 1. It asks the rest of 15 right after 11", from
-- version 2 on after all questions on records
unfoldable pub verdict_within : ℕ → List ℕ → Verdict
verdict_within look s = ask_program (ltb (length s) look) then file_verdict s then ask_program (is_small s)

abbrev pub text_of : Verdict → List ℕ → List ℕ
text_of passed s = report_text s
text_of (broken q i) s = refusal_text q i

-- what is printed with a first look of so many bytes
unfoldable pub text_within : ℕ → List ℕ → List ℕ
text_within look input = let s = take look input in text_of (verdict_within look s) s

abbrev pub program_verdict : List ℕ → Verdict
program_verdict = verdict_within first_look

-- what the program prints, for every input
abbrev pub program_text : List ℕ → List ℕ
program_text = text_within first_look
