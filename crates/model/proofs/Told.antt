-- What a host reads from the code of a ranking, and from the place of a record.
use mathlib.Core.Path.{◌≡◌, refl, sym, ap, ◌∙◌}
use mathlib.Core.List.{List, []}
use mathlib.Core.Logic.{◌⊎◌, inl, inr}
use Prim.Native.Nat.{ℕ, ◌+◌, ◌*◌, ◌%◌, ◌≤◌, ◌<◌}
use native.Mathlib.Decide.{dec_lt}
use native.Mathlib.Omega.{arith}
use borrow.Author.Tests.{lt-ltb, le-ltb}
use Rattle.model.specs.File.{count_of, record_length, record_at}
use Rattle.model.specs.Rules.{Verdict, passed, broken, file_verdict, accepted}
use Rattle.model.specs.Calls.{Answer, Winner, answered, refused, first, second, record_bytes, rank_verdict, ranking, named, winner}
use Rattle.model.specs.Hosts.{record_place, first_code, rank_code}
use Rattle.model.specs.CallLaws.{RankTold, RecordStands, RecordTold}
use Rattle.model.proofs.Verdicts.{broken≢passed, refused_broken}
use Rattle.model.proofs.Accepted.{accepted_header, record_before}
use Rattle.model.proofs.Versions.{ten_bytes_lem, twelve_bytes_lem, thirteen_bytes_lem, one_of_three_lem}
use Rattle.model.proofs.Codes.{numbered_within, code_reads, rank_numbered}

-- ---- the ranking

module _ (file k l : List ℕ) (code : ℕ) (is : code ≡ rank_code (ranking file k l)) where
  -- a refusal's number is a rule's
  within : (q i : ℕ) → ranking file k l ≡ refused q i → (0 < q) × (q < first_code)
  unfolding ranking
  within q i e = numbered_within (rw (refused_broken (rank_verdict file k l) _ (sym e)) at (rank_numbered file k l))

  -- whatever the answer is, where 253 and 254 say what they stand for
  told_where : (code ≡ 253) ⊎ (code ≡ 254) ⊎ ((q : ℕ) × (i : ℕ) × (code ≡ i * 256 + q) × (ranking file k l ≡ refused q i))
      → (code ≡ 253 → ranking file k l ≡ answered first) → (code ≡ 254 → ranking file k l ≡ answered second)
      → ((code ≡ 253) × (winner file k l ≡ k)) ⊎ ((code ≡ 254) × (winner file k l ≡ l)) ⊎ ((0 < code % 256) × (code % 256 < 253) × (winner file k l ≡ []))
      → RankTold file k l code
  told_where one f g wins =
      record {
        one_of_three = one;
        first_told = (f, λ e. is ∙ ap rank_code e);
        second_told = (g, λ e. is ∙ ap rank_code e);
        refused_by = λ q i e. rw (is, e) (code_reads q i (omega (arith, (within q i e).1)));
        winner_told = wins;
      }

  -- the set that the answer names
  names : {a : Answer Winner} → ranking file k l ≡ a → winner file k l ≡ named a k l
  names e = ap (λ a. named a k l) e

  -- answer by answer
  told_by : (a : Answer Winner) → ranking file k l ≡ a → RankTold file k l code
  told_by (answered first) e =
      let c : code ≡ 253 = is ∙ ap rank_code e in
      told_where (inl c) (λ _. e) (λ z. absurd (omega arith)) (inl (c, names e))
  told_by (answered second) e =
      let c : code ≡ 254 = is ∙ ap rank_code e in
      told_where (inr (inl c)) (λ z. absurd (omega arith)) (λ _. e) (inr (inl (c, names e)))
  told_by (refused q i) e =
      let c : code ≡ i * 256 + q = is ∙ ap rank_code e in
      let w = within q i e in
      told_where (inr (inr (q, i, c, e))) (λ z. absurd (omega (arith, w.1))) (λ z. absurd (omega (arith, w.1)))
      (inr (inr (omega (arith, w), omega (arith, w), names e)))

  pub rank_told_lem : RankTold file k l code
  rank_told_lem = told_by (ranking file k l) refl

-- ---- the record

module _ (file : List ℕ) (v : ℕ) where
  pub place_refused_lem : {q i : ℕ} → file_verdict file ≡ broken q i → record_place file v ≡ 0
  unfolding record_place accepted
  place_refused_lem e = rw e

  module _ (ok : file_verdict file ≡ passed) where
    pub place_beyond : count_of file ≤ v → record_place file v ≡ 0
    unfolding record_place accepted
    place_beyond h = rw (ok, le-ltb v (count_of file) h)

    module _ (h : v < count_of file) where
      pub place_here : record_place file v ≡ record_at file v
      unfolding record_place accepted
      place_here = rw (ok, lt-ltb v (count_of file) h)

      stands : (w : ℕ) → record_length file ≡ w → RecordStands file v (record_at file v) w
      unfolding record_bytes accepted
      stands w e =
          rw (ok, lt-ltb v (count_of file) h)
          (rw e refl, rw (← e) (omega (arith, (accepted_header file ok).exact, record_before file h)), rw e refl)

      told_here : RecordTold file v (record_at file v)
      unfolding accepted
      told_here =
          record {
            no_record = (λ z. absurd (omega arith), λ none. elim none [ inl n ↦ absurd (n ok) | inr n ↦ absurd (omega arith) ]);
            found = λ _. elim (one_of_three_lem file (rw ok refl)) [
              | inl e ↦ inl (e, stands 10 (ten_bytes_lem file e))
              | inr (inl e) ↦ inr (inl (e, stands 12 (twelve_bytes_lem file e)))
              | inr (inr e) ↦ inr (inr (e, stands 13 (thirteen_bytes_lem file e)))
            ];
          }

  -- no record
  told_none : (file_verdict file ≡ passed → ⊥) ⊎ (count_of file ≤ v) → RecordTold file v 0
  told_none none = record { no_record = (λ _. none, λ _. refl); found = λ z. absurd (omega arith) }

  told_of : (w : Verdict) → file_verdict file ≡ w → RecordTold file v (record_place file v)
  told_of (broken q i) e = rw (place_refused_lem e) (told_none (inl (λ ok. broken≢passed (sym e ∙ ok))))
  told_of passed e =
      elim (dec_lt v (count_of file)) [
        | yes h ↦ rw (place_here e h) (told_here e h)
        | no h ↦ rw (place_beyond e (omega arith)) (told_none (inr (omega arith)))
      ]

pub record_told_lem : (file : List ℕ) (v x : ℕ) → x ≡ record_place file v → RecordTold file v x
record_told_lem file v x e = rw e (told_of file v (file_verdict file) refl)
