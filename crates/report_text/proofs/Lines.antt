-- Laws of lines: the pieces that they are appended in, and the row that a budget's line reads.
use mathlib.Core.Path.{◌≡◌, refl, ap, ◌∙◌}
use mathlib.Core.List.{List, [], ◌∷◌, ◌++◌, append-nil, append_assoc, map, flat_map}
use Prim.Native.Nat.{ℕ, ◌+◌, ◌*◌, ◌≤◌}
use native.Mathlib.Omega.{arith}
use lib.ListN.{length, get_or}
use Rattle.laws.proofs.Numbers.{row_before}
use Rattle.model.specs.Report.{space, newline, decimal, line, set_of_row, refused_word, refusal_text}
use Rattle.report_text.specs.Lines.{word, words, budget_line, ReportBuffers}

spaced_decimals : (xs : List ℕ) → flat_map (λ u. space ∷ u) (map decimal xs) ≡ words xs
unfolding flat_map
spaced_decimals [] = refl
spaced_decimals (x ∷ xs) = ap (λ l. word x ++ l) (spaced_decimals xs)

line_pieces : (w : List ℕ) (x y : ℕ) (zs : List ℕ) → line w (map decimal (x ∷ y ∷ zs)) ≡ w ++ word x ++ word y ++ words zs ++ (newline ∷ [])
unfolding line flat_map
line_pieces w x y zs =
    let apart : (a b c : List ℕ) → w ++ (a ++ (b ++ c)) ≡ w ++ a ++ b ++ c = λ a b c. simp append_assoc in
    rw (spaced_decimals zs) (ap (λ l. l ++ (newline ∷ [])) (apart (word x) (word y) (words zs)))

pub budget_line_pieces : (k : ℕ) (totals rows greedy_totals : List ℕ) (b : ℕ)
    → budget_line k totals rows greedy_totals b ≡ decimal b ++ word (get_or totals b 0) ++ word (get_or greedy_totals b 0) ++ words (set_of_row k rows b) ++ (newline ∷ [])
unfolding budget_line
budget_line_pieces k totals rows greedy_totals b = line_pieces (decimal b) (get_or totals b 0) (get_or greedy_totals b 0) (set_of_row k rows b)

pub refusal_pieces : (q i : ℕ) → refusal_text q i ≡ refused_word ++ word q ++ word i ++ (newline ∷ [])
unfolding refusal_text flat_map
refusal_pieces q i = line_pieces refused_word q i [] ∙ ap (λ l. l ++ (newline ∷ [])) (append-nil (refused_word ++ word q ++ word i))

pub row_there : {k b : ℕ} {totals rows greedy_totals : List ℕ} → ReportBuffers k totals rows greedy_totals → b ≤ k → b * k + k ≤ length rows
row_there {k} {b} r h = omega (arith, r.rows_long, row_before {i = b} {j = k + 1} k (omega arith))
