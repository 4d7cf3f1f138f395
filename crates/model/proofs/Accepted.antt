-- What holds of an accepted file: its sizes, its preorder, and the limits of its fields at every node number.
use mathlib.Core.Path.{◌≡◌, refl, ap, ◌∙◌}
use mathlib.Core.Bool.{true, false, cond, ◌&&◌}
use mathlib.Core.List.{List}
use Prim.Native.Nat.{ℕ, zero, suc, ◌+◌, ◌*◌, ◌≤◌, ◌<◌}
use native.Mathlib.Nat.{mul-le-mul, mul-le-mul_left}
use native.Mathlib.Decide.{dec_lt}
use native.Mathlib.Omega.{arith}
use lib.Dec.{leb, eqb}
use lib.ListN.{length, get_or-eq_default}
use borrow.Author.Tests.{leb-true, eqb-true, ne_eqb}
use Rattle.laws.proofs.Bools.{by_test, not_both, both}
use Rattle.model.specs.File.{Field, ratio, bytes, number, field_of, has_ratios, has_open_bytes, share_of, tree_of, demand_of, first_version, third_version, header_length, version_of, count_of, budget_of, record_length, record_at, most_nodes, most_budget, most_depth, most_length, most_flow, parent_field, length_field, flow_field, hit_field, cachable_field, open_field, open_of}
use Rattle.model.specs.Tree.{depth}
use Rattle.model.specs.Rules.{passed, ask, parent_holds, length_holds, ask_share, ask_open, record_verdict, records_verdict, marked, file_verdict}
use Rattle.model.specs.Preorder.{Preorder}
use Rattle.model.specs.Accepted.{HeaderHolds, RecordHolds, Sound}
use Rattle.model.proofs.Verdicts.{ask_passed, then_passed}
use Rattle.model.proofs.Routes.{route_server, route_ends, route_up}
use Rattle.model.proofs.Amounts.{cachable_part}

-- ---- the header

pub accepted_header : (s : List ℕ) → file_verdict s ≡ passed → HeaderHolds s
unfolding file_verdict
accepted_header s e =
    let e1 = then_passed (ask 1 0 (leb header_length (length s))) _ e in
    let e2 = then_passed (ask 2 0 (marked s)) _ e1.1 in
    let e3 = then_passed (ask 3 0 (leb first_version (version_of s) && leb (version_of s) third_version)) _ e2.1 in
    let e4 = then_passed (ask 4 0 (leb 1 (count_of s) && leb (count_of s) most_nodes)) _ e3.1 in
    let e5 = then_passed (ask 5 0 (leb (budget_of s) most_budget)) _ e4.1 in
    let e6 = then_passed (ask 6 0 (eqb (length s) (record_at s (count_of s)))) _ e5.1 in
    let w = both (leb first_version (version_of s)) (leb (version_of s) third_version) (ask_passed 3 0 _ e3.0) in
    let n = both (leb 1 (count_of s)) (leb (count_of s) most_nodes) (ask_passed 4 0 _ e4.0) in
    record {
      first = leb-true first_version (version_of s) w.0;
      newest = leb-true (version_of s) third_version w.1;
      some = leb-true 1 (count_of s) n.0;
      few = leb-true (count_of s) most_nodes n.1;
      budget = leb-true (budget_of s) most_budget (ask_passed 5 0 _ e5.0);
      exact = eqb-true (length s) (record_at s (count_of s)) (ask_passed 6 0 _ e6.0);
      records = e6.1;
    }

-- ---- the records

-- the rules of a record hold of every one
each_record : (s : List ℕ) (n i : ℕ) → records_verdict s n ≡ passed → i < n → record_verdict s i ≡ passed
unfolding records_verdict
each_record s zero i e h = absurd (omega arith)
each_record s (suc n) i e h =
    let p = then_passed (records_verdict s n) (record_verdict s n) e in
    elim (dec_lt i n) [
      | yes l ↦ each_record s n i p.0 l
      | no l ↦ let same : i ≡ n = omega arith in ap (record_verdict s) same ∙ p.1
    ]

pub record_holds : (s : List ℕ) (i : ℕ) → record_verdict s i ≡ passed → RecordHolds s i
unfolding record_verdict
record_holds s i e =
    let t = tree_of s in
    let d = demand_of s in
    let e7 = then_passed (ask 7 i (parent_holds t i)) _ e in
    let e8 = then_passed (ask 8 i (leb (depth t i) most_depth)) _ e7.1 in
    let e9 = then_passed (ask 9 i (length_holds t i)) _ e8.1 in
    let e10 = then_passed (ask 10 i (leb (d.flow i) most_flow)) _ e9.1 in
    record {
      parent = ask_passed 7 i _ e7.0;
      shallow = leb-true (depth t i) most_depth (ask_passed 8 i _ e8.0);
      link_length = ask_passed 9 i _ e9.0;
      flow = leb-true (d.flow i) most_flow (ask_passed 10 i _ e10.0);
      share = (then_passed (ask_share i (d.flow i) (d.share i)) (ask_open s i) e10.1).0;
    }

-- ---- where records stand

module _ (s : List ℕ) where
  -- 10 bytes in version 1, 13 in version 3, and else 12
  pub ratio_record : has_ratios s ≡ true → record_length s ≡ 10
  unfolding record_length
  ratio_record e = rw e

  pub bytes_record : has_ratios s ≡ false → has_open_bytes s ≡ false → record_length s ≡ 12
  unfolding record_length
  bytes_record e f = rw (e, f)

  pub open_record : has_ratios s ≡ false → has_open_bytes s ≡ true → record_length s ≡ 13
  unfolding record_length
  open_record e f = rw (e, f)

  -- a fact by these three
  by_record : (P : Type 0) → (has_ratios s ≡ true → record_length s ≡ 10 → P)
      → (has_ratios s ≡ false → has_open_bytes s ≡ false → record_length s ≡ 12 → P)
      → (has_ratios s ≡ false → has_open_bytes s ≡ true → record_length s ≡ 13 → P) → P
  by_record P ten twelve thirteen =
      by_test (λ b. has_ratios s ≡ b → P) (has_ratios s) (λ _ e. ten e (ratio_record e))
      (λ _ e. by_test (λ b. has_open_bytes s ≡ b → P) (has_open_bytes s) (λ _ f. thirteen e f (open_record e f)) (λ _ f. twelve e f (bytes_record e f)) refl) refl

  -- version 1 has no last byte
  pub open_no_ratios : has_open_bytes s ≡ true → has_ratios s ≡ false
  unfolding has_open_bytes has_ratios
  open_no_ratios e = ne_eqb (version_of s) first_version (λ f. omega (arith, eqb-true (version_of s) third_version e))

  pub ratio_all_open : has_ratios s ≡ true → has_open_bytes s ≡ false
  unfolding has_open_bytes has_ratios
  ratio_all_open e = ne_eqb (version_of s) third_version (λ f. omega (arith, eqb-true (version_of s) first_version e))

  -- and the other way round
  pub ratio_told : record_length s ≡ 10 → has_ratios s ≡ true
  ratio_told h = by_record (has_ratios s ≡ true) (λ e _. e) (λ _ _ r. absurd (omega arith)) (λ _ _ r. absurd (omega arith))

  pub bytes_told : (record_length s ≡ 10 → ⊥) → has_ratios s ≡ false
  bytes_told n = by_record (has_ratios s ≡ false) (λ _ r. absurd (n r)) (λ e _ _. e) (λ e _ _. e)

  pub open_told : record_length s ≡ 13 → has_open_bytes s ≡ true
  open_told h = by_record (has_open_bytes s ≡ true) (λ _ r. absurd (omega arith)) (λ _ _ r. absurd (omega arith)) (λ _ f _. f)

  pub all_open_told : (record_length s ≡ 13 → ⊥) → has_open_bytes s ≡ false
  all_open_told n =
      by_test (λ b. has_open_bytes s ≡ b → b ≡ false) (has_open_bytes s) (λ _ f. absurd (n (open_record (open_no_ratios f) f))) (λ _ _. refl) refl

  pub record_bounds : (10 ≤ record_length s) × (record_length s ≤ 13)
  record_bounds =
      by_record ((10 ≤ record_length s) × (record_length s ≤ 13)) (λ _ r. (omega arith, omega arith)) (λ _ _ r. (omega arith, omega arith))
      (λ _ _ r. (omega arith, omega arith))

  pub longer_record : has_ratios s ≡ false → 12 ≤ record_length s
  longer_record none = by_record (12 ≤ record_length s) (λ e _. absurd (not_both e none)) (λ _ _ r. omega arith) (λ _ _ r. omega arith)

  pub records_bound : {r v : ℕ} → r ≡ record_length s → v ≤ most_nodes → r * v ≤ 13 * most_nodes
  records_bound e h = rw e (mul-le-mul record_bounds.1 h)

  -- a node is open where its last byte is 1, and without such bytes every node is
  pub open_by_byte : (v : ℕ) → has_open_bytes s ≡ true → (tree_of s).is_open v ≡ eqb (field_of s open_field v) 1
  unfolding open_of
  open_by_byte v e = rw e

  pub open_throughout : (v : ℕ) → has_open_bytes s ≡ false → (tree_of s).is_open v ≡ true
  unfolding open_of
  open_throughout v e = rw e

-- a record ends before a later one begins
pub record_before : (s : List ℕ) {i j : ℕ} → i < j → record_at s i + record_length s ≤ record_at s j
record_before s h = omega (arith, mul-le-mul_left (record_length s) h)

-- past the last one every field reads as 0

number_past : (w : ℕ) (s : List ℕ) (at : ℕ) → length s ≤ at → number w s at ≡ 0
unfolding number
number_past zero s at h = refl
number_past (suc w) s at h = omega (arith, number_past w s at h, get_or-eq_default s 0 {n = at + w} (omega arith))

pub field_past : (s : List ℕ) (f : Field) (i : ℕ) → length s ≡ record_at s (count_of s) → count_of s ≤ i → field_of s f i ≡ 0
unfolding field_of
field_past s f i e h = number_past f.width s (record_at s i + f.offset) (omega (arith, mul-le-mul_left (record_length s) h))

-- ---- the whole file

module _ (s : List ℕ) (ok : file_verdict s ≡ passed) where
  head : HeaderHolds s
  head = accepted_header s ok

  in_file_lem : (i : ℕ) → i < count_of s → RecordHolds s i
  in_file_lem i h = record_holds s i (each_record s (count_of s) i head.records h)

  past : (f : Field) (i : ℕ) → count_of s ≤ i → field_of s f i ≡ 0
  past f i h = field_past s f i head.exact h

  preorder : Preorder (tree_of s)
  unfolding parent_holds
  preorder i =
      elim (dec_lt (suc i) (count_of s)) [
        | yes h ↦ (in_file_lem (suc i) h).parent
        | no h ↦ rw (past parent_field (suc i) (omega arith)) (route_ends (tree_of s) i)
      ]

  -- what holds within the file and where a field reads as 0 holds at every node number
  everywhere : (P : ℕ → Type 0) → ((v : ℕ) → v < count_of s → P v) → ((v : ℕ) → count_of s ≤ v → P v) → (v : ℕ) → P v
  everywhere P f g v = elim (dec_lt v (count_of s)) [ yes h ↦ f v h | no h ↦ g v (omega arith) ]

  at_most : (f : Field) (most : ℕ) → ((v : ℕ) → v < count_of s → field_of s f v ≤ most) → (v : ℕ) → field_of s f v ≤ most
  at_most f most h = everywhere (λ v. field_of s f v ≤ most) h (λ v l. omega (arith, past f v l))

  server_length_lem : (tree_of s).link_length 0 ≡ 0
  unfolding length_holds
  server_length_lem = eqb-true _ _ (in_file_lem 0 head.some).link_length

  short_link : (v : ℕ) → v < count_of s → (tree_of s).link_length v ≤ most_length
  unfolding length_holds
  short_link zero h = omega (arith, server_length_lem)
  short_link (suc v) h = leb-true _ _ (in_file_lem (suc v) h).link_length

  past_depth : (v : ℕ) → count_of s ≤ v → depth (tree_of s) v ≤ most_depth
  unfolding depth
  past_depth zero h = absurd (omega (arith, head.some))
  past_depth (suc v) h = rw (route_up (tree_of s) preorder v, past parent_field (suc v) h, route_server (tree_of s)) (omega arith)

  past_share : (v : ℕ) → count_of s ≤ v → ask_share v ((demand_of s).flow v) ((demand_of s).share v) ≡ passed
  unfolding share_of
  past_share v h =
      rw (past flow_field v h, past hit_field v h, past cachable_field v h)
      (by_test (λ b. ask_share v 0 (cond b (ratio 0) (bytes 0)) ≡ passed) (has_ratios s) (λ _. refl) (λ _. refl))

  -- rule 11 or 17 holds at every node number
  pub share_holds : (v : ℕ) → ask_share v ((demand_of s).flow v) ((demand_of s).share v) ≡ passed
  share_holds = everywhere (λ v. ask_share v ((demand_of s).flow v) ((demand_of s).share v) ≡ passed) (λ v h. (in_file_lem v h).share) past_share

  pub accepted_sound : Sound (tree_of s) (demand_of s)
  accepted_sound = record {
    some = head.some;
    few = head.few;
    preorder = preorder;
    server = server_length_lem;
    shallow = everywhere (λ v. depth (tree_of s) v ≤ most_depth) (λ v h. (in_file_lem v h).shallow) past_depth;
    short = at_most length_field most_length short_link;
    flow = at_most flow_field most_flow (λ v h. (in_file_lem v h).flow);
    part = λ v. cachable_part (demand_of s) v v (share_holds v);
  }
