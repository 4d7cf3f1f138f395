-- Laws of words: those of an entry of a row, and those of a row that is one entry longer.
use mathlib.Core.Path.{◌≡◌, ap, ◌∙◌}
use mathlib.Core.List.{List, [], ◌∷◌, ◌++◌, append-nil, flat_map}
use Prim.Native.Nat.{ℕ, ◌+◌, ◌<◌}
use native.Mathlib.Numerals.{add-one}
use lib.ListN.{length, take, get_or}
use lib.Seq.{take-suc}
use borrow.Author.Tests.{ne_eqb}
use Rattle.laws.specs.Lists.{those}
use Rattle.laws.proofs.Ranges.{those_append}
use Rattle.laws.proofs.Rows.{flat_append}
use Rattle.report_text.specs.Lines.{word, words, is_node}

pub zero_no_word : {entry : ℕ} → entry ≡ 0 → words (those is_node (entry ∷ [])) ≡ []
unfolding flat_map those
zero_no_word e = rw e

pub node_one_word : {entry : ℕ} → (entry ≡ 0 → ⊥) → words (those is_node (entry ∷ [])) ≡ word entry
unfolding flat_map those
node_one_word {entry} n = rw (ne_eqb entry 0 n) (append-nil (word entry))

pub words_snoc : (row : List ℕ) (i : ℕ) → i < length row
    → words (those is_node (take (i + 1) row)) ≡ words (those is_node (take i row)) ++ words (those is_node (get_or row i 0 ∷ []))
words_snoc row i h =
    let entry = get_or row i 0 ∷ [] in
    ap (λ l. words (those is_node l)) (rw (add-one i) (take-suc row i 0 h))
    ∙ ap words (those_append is_node (take i row) entry)
    ∙ flat_append word (those is_node (take i row)) (those is_node entry)
