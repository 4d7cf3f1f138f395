-- The ranking call's answer in the model's words, and the set that it names.
use Rattle.std.specs.Prelude.{◌≡◌, Result}
use Rattle.std.specs.Borrow.{u16}
use Rattle.laws.specs.Slices.{Slice, PartOf}
use Rattle.model.specs.Calls.{Answer, answered, refused, Winner, first, second}
use Rattle.tree_file.specs.declared.rules.Refusal.{Refusal}
use Rattle.tree_file.specs.Refusals.{answer_by}
use Rattle.compare.specs.declared.Ranking.{Ranking}
use Rattle.compare.specs.declared.Ranking.TheVariants.{First, Second}

-- which of the two ranks first
abbrev pub winner_of : Ranking → Winner
winner_of First = first
winner_of Second = second

-- and with the refusal
abbrev pub ranking_of : Result Ranking Refusal → Answer Winner
ranking_of = answer_by winner_of

-- "hands back whichever of the two lent sets ranks first, empty on refusal": r is that set itself, in the caller's memory, and
-- on refusal the empty part at the start of the first
abbrev pub WinnerHandedBack : Answer Winner → Slice u16 → Slice u16 → Slice u16 → Type 0
WinnerHandedBack (answered first) k l r = r ≡ k
WinnerHandedBack (answered second) k l r = r ≡ l
WinnerHandedBack (refused q i) k l r = PartOf u16 k 0 0 r
