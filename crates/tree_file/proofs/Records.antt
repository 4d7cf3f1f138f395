-- Rules 7 to 11, 17 and 24, record by record.
use mathlib.Core.Path.{◌≡◌, refl, sym, ap, ap₂, ◌∙◌}
use mathlib.Core.Bool.{Bool, true, false, cond}
use mathlib.Core.List.{List}
use Prim.Native.Nat.{ℕ, zero, suc, ◌+◌, ◌-◌, ◌≤◌, ◌<◌}
use native.Mathlib.Decide.{dec_lt}
use native.Mathlib.Numerals.{add-one}
use native.Mathlib.Omega.{arith}
use lib.Dec.{leb, eqb}
use Rattle.laws.specs.Lists.{has}
use Rattle.model.specs.File.{Tree, tree_of, demand_of, has_ratios, has_open_bytes, length_field, flow_field, hit_field, cachable_field, open_field, field_of}
use Rattle.model.specs.Tree.{route}
use Rattle.model.specs.Rules.{Verdict, passed, broken, ask, ◌then◌, ask_share, ask_open, parent_holds, length_holds, record_verdict, records_verdict}
use Rattle.model.specs.Preorder.{PreorderTo}
use Rattle.laws.proofs.Bools.{by_test}
use Rattle.model.proofs.Verdicts.{then_none}
use Rattle.model.proofs.Amounts.{share_ratio, share_bytes}
use Rattle.model.proofs.Accepted.{ratio_all_open, record_holds, record_before}
use Rattle.tree_file.specs.Checks.{NextRecord, Climbable, RecordsThere}
use Rattle.tree_file.proofs.Climbs.{earlier_in_file}

-- ---- rules 7 and 9 at the server and at the other nodes

module _ (t : Tree) where
  pub parent_of_server : (i p : ℕ) → i ≡ 0 → p ≡ t.parent i → eqb p 0 ≡ parent_holds t i
  unfolding parent_holds
  parent_of_server i p z e = rw z (rw z at (ap (λ (x : ℕ). eqb x 0) e))

  pub parent_of_other : (i p : ℕ) (b : Bool) → (i ≡ 0 → ⊥) → p ≡ t.parent i → b ≡ has (route t (i - 1)) p → b ≡ parent_holds t i
  unfolding parent_holds
  parent_of_other zero p b z e h = absurd (z refl)
  parent_of_other (suc i) p b z e h = h ∙ ap₂ (λ (v a : ℕ). has (route t v) a) (omega arith) e

  pub length_of_server : (i r : ℕ) → i ≡ 0 → r ≡ t.link_length i → eqb r 0 ≡ length_holds t i
  unfolding length_holds
  length_of_server i r z e = rw z (rw z at (ap (λ (x : ℕ). eqb x 0) e))

  pub length_of_other : (i : ℕ) (b : Bool) → (i ≡ 0 → ⊥) → b ≡ leb (t.link_length i) length_field.most → b ≡ length_holds t i
  unfolding length_holds
  length_of_other zero b z h = absurd (z refl)
  length_of_other (suc i) b z h = h

-- ---- rules 11, 17 and 24, by the version

module _ (file : List ℕ) (i : ℕ) where
  -- what is asked of a record past rule 10
  abbrev pub last_asked : Verdict
  last_asked = ask_share i ((demand_of file).flow i) ((demand_of file).share i) then ask_open file i

  pub ratio_asked : has_ratios file ≡ true → last_asked ≡ ask 11 i (leb (field_of file hit_field i) hit_field.most)
  ratio_asked e = rw (share_ratio file i e, ratio_all_open file e) (then_none _)

  -- what rule 24 asks
  abbrev pub open_holds : Bool
  open_holds = cond (has_open_bytes file) (leb (field_of file open_field i) open_field.most) true

  open_asked_lem : ask_open file i ≡ ask 24 i open_holds
  open_asked_lem =
      let holds = leb (field_of file open_field i) open_field.most in
      by_test (λ b. cond b (ask 24 i holds) passed ≡ ask 24 i (cond b holds true)) (has_open_bytes file) (λ _. refl) (λ _. refl)

  pub bytes_asked : has_ratios file ≡ false
      → last_asked ≡ ask 17 i (leb (field_of file cachable_field i) (field_of file flow_field i)) then ask 24 i open_holds
  bytes_asked e = rw (share_bytes file i e, open_asked_lem)

-- ---- one record after the other

-- rule 7 holds of one node more
one_more_lem : (t : Tree) (i : ℕ) → PreorderTo t i → parent_holds t i ≡ true → PreorderTo t (suc i)
unfolding parent_holds
one_more_lem t zero pre h j l = absurd (omega arith)
one_more_lem t (suc i) pre h j l =
    elim (dec_lt (suc j) (suc i)) [ yes k ↦ pre j k | no k ↦ let e : j ≡ i = omega arith in rw e h ]

module _ (file : List ℕ) where
  -- before node i its parent's route can be climbed, and once rule 7 holds of it its own
  pub climbs_before : (i : ℕ) → NextRecord file i → (i ≡ 0 → ⊥) → Climbable file (i - 1)
  climbs_before zero n z = absurd (z refl)
  climbs_before (suc i) n z =
      let e : suc i - 1 ≡ i = omega arith in
      rw e (record {
        here = earlier_in_file file (suc i) i (omega arith) n.here;
        preorder = n.preorder;
      })

  pub climbs_here : (i : ℕ) → NextRecord file i → parent_holds (tree_of file) i ≡ true → Climbable file i
  climbs_here i n h = record { here = n.here; preorder = one_more_lem (tree_of file) i n.preorder h }

  module _ (n : ℕ) where
    -- the rules hold of the first i of n records
    pub record Passing (i : ℕ) : Type 0 where
      pub some : i ≤ n
      pub there : RecordsThere file n
      pub preorder : PreorderTo (tree_of file) i
      pub passing : records_verdict file i ≡ passed

    pub pass_begins : RecordsThere file n → Passing 0
    unfolding records_verdict
    pass_begins r = record { some = omega arith; there = r; preorder = λ j h. absurd (omega arith); passing = refl }

    pub pass_next : (i : ℕ) → Passing i → i < n → NextRecord file i
    pass_next i p h =
        record {
          here = record { node = omega (arith, p.there.few); long = omega (arith, p.there.long, record_before file h) };
          preorder = p.preorder;
        }

    pub pass_climbs : (i : ℕ) → Passing i → i < n → passed ≡ record_verdict file i → Climbable file i
    pass_climbs i p h e = climbs_here i (pass_next i p h) (record_holds file i (sym e)).parent

    pub pass_turns : (i : ℕ) → Passing i → i < n → passed ≡ record_verdict file i → Passing (i + 1)
    unfolding records_verdict
    pass_turns i p h e =
        rw (add-one i) (record {
          some = omega arith;
          there = p.there;
          preorder = (pass_climbs i p h e).preorder;
          passing = ap₂ ◌then◌ p.passing (sym e);
        })

    pub pass_ends : (i : ℕ) → Passing i → n ≤ i → passed ≡ records_verdict file n
    pass_ends i p h =
        let e : i ≡ n = omega (arith, p.some) in
        sym (rw e at p.passing)

  -- a no of record i is the first of all that have record i among them
  stays : (n i q j : ℕ) → i < n → records_verdict file (suc i) ≡ broken q j
      → records_verdict file n ≡ broken q j
  unfolding records_verdict
  stays zero i q j h e = absurd (omega arith)
  stays (suc n) i q j h e =
      elim (dec_lt i n) [
        | yes l ↦ ap (λ v. v then record_verdict file n) (stays n i q j l e)
        | no l ↦ let same : i ≡ n = omega arith in rw same at e
      ]

  pub pass_breaks : (n i q j : ℕ) → Passing n i → i < n → broken q j ≡ record_verdict file i
      → broken q j ≡ records_verdict file n
  unfolding records_verdict
  pass_breaks n i q j p h e = sym (stays n i q j h (ap₂ ◌then◌ p.passing (sym e)))
