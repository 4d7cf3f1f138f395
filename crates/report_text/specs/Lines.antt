-- The lines that the report program prints, the room that they take, and what they are made of.
use Rattle.std.specs.Prelude.{Bool, not, ℕ, ◌+◌, ◌*◌, ◌≤◌, eqb, length, get_or}
use mathlib.Core.List.{List, ◌∷◌, map, flat_map}
use Rattle.model.specs.Report.{space, decimal, line, set_of_row, refused_word, program_budget}
use Rattle.text_bytes.specs.Appended.{Appended}

-- ---- the bytes

-- a number with a space before it
abbrev pub word : ℕ → List ℕ
word x = space ∷ decimal x

abbrev pub words : List ℕ → List ℕ
words = flat_map word

-- does an entry of a row stand for a node?
abbrev pub is_node : ℕ → Bool
is_node v = not (eqb v 0)

-- the line of budget b, of what the buffers of a report hold: rows of k numbers
unfoldable pub budget_line : ℕ → List ℕ → List ℕ → List ℕ → ℕ → List ℕ
budget_line k totals rows greedy_totals b = line (decimal b) (map decimal (get_or totals b 0 ∷ get_or greedy_totals b 0 ∷ set_of_row k rows b))

-- ---- the room

-- the digits of the largest number of 64 bits
abbrev pub number_room : ℕ
number_room = 20

-- a space and a number
abbrev pub word_room : ℕ
word_room = number_room + 1

-- a budget, two totals and the nodes; the newline stands in for the space that the budget lacks
abbrev pub line_room : ℕ
line_room = (program_budget + 3) * word_room

-- the lines of all budgets
abbrev pub lines_room : ℕ
lines_room = (program_budget + 1) * line_room

-- the word `refused`, the number, the record and the newline
abbrev pub refusal_room : ℕ
refusal_room = length refused_word + 2 * word_room + 1

-- bytes were appended to a text that ended at `at`, in the room given
pub record AppendedWithin (room at : ℕ) (bytes old new : List ℕ) (end : ℕ) : Type 0 where
  pub appended : Appended at bytes old new end
  pub within : end ≤ at + room

-- ---- the buffers

-- what a report of budget k, within the program's limit, holds: k + 1 totals, k + 1 rows of k numbers, k + 1 greedy totals
pub record ReportBuffers (k : ℕ) (totals rows greedy_totals : List ℕ) : Type 0 where
  pub small : k ≤ program_budget
  pub totals_long : k + 1 ≤ length totals
  pub rows_long : (k + 1) * k ≤ length rows
  pub greedy_totals_long : k + 1 ≤ length greedy_totals
