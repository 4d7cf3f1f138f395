-- The versions of the tree file: what each of them says over the file's bytes, and what a file in two of them has in common.
use mathlib.Core.Path.{◌≡◌, refl, sym, ap, ◌∙◌}
use mathlib.Core.Bool.{Bool, true, false, cond, ◌&&◌, ◌||◌, and-true}
use mathlib.Core.List.{List, [], ◌∷◌}
use mathlib.Core.Logic.{◌⊎◌, inl, inr}
use Prim.Native.Nat.{ℕ, zero, suc, ◌+◌, ◌*◌, ◌-◌, ◌≤◌, ◌<◌}
use native.Mathlib.Decide.{ℕ_discrete, dec_lt}
use native.Mathlib.Nat.{add-zero}
use native.Mathlib.Omega.{arith}
use lib.Dec.{ltb, leb, eqb}
use lib.ListN.{length, take, length-take}
use lib.Seq.{take_all}
use borrow.Author.Tests.{eq-eqb, ne_eqb, lt-ltb, le-ltb, ltb-true, le-leb, lt-leb}
use Rattle.laws.specs.Lists.{range, sum, least, has, those, any_of, all_of}
use Rattle.laws.proofs.Bools.{by_test}
use Rattle.laws.proofs.Lists.{range_bounds, all_said}
use Rattle.laws.proofs.Ranges.{those_all}
use Rattle.model.specs.File.{Field, Tree, Demand, ratio, bytes, number, header_length, has_ratios, has_open_bytes, version_of, count_of, budget_of, record_length, parent_field, length_field, flow_field, hit_field, cachable_field, open_field, field_of, open_of, tree_of, demand_of}
use Rattle.model.specs.Tree.{server, height, nodes, sites, open_sites, route, at_or_below, distance}
use Rattle.model.specs.Rules.{Verdict, passed, broken, ask, marked, records_verdict, ◌then◌, ask_program, record_verdict, file_verdict, accepted, ascends, is_set}
use Rattle.model.specs.Bill.{thousandths, whole, cachable, up_to, price, cost, total, client_load, link_load}
use Rattle.model.specs.Ties.{members, visits, ties_before, ranks_before}
use Rattle.model.specs.Plan.{sets_of, all_sets, first_of, plan, plan_total}
use Rattle.model.specs.Calls.{record_bytes}
use Rattle.model.specs.Report.{is_small, verdict_within, text_of, text_within, refusal_text, first_look}
use Rattle.model.specs.Versions.{FirstVersion, WithCachableBytes, SecondVersion, ThirdVersion, BothVersions, AddsOpenBytes, VersionsLawful}
use Rattle.model.proofs.Verdicts.{is_passed_lem, ask_passed, then_passed, then_none}
use Rattle.model.proofs.Amounts.{price_amounts, load_amounts, share_ratio, share_bytes, cachable_ratio, cachable_bytes}
use Rattle.model.proofs.Accepted.{accepted_header, ratio_record, bytes_record, open_record, ratio_all_open, open_no_ratios, open_by_byte, open_throughout, records_bound, field_past}
use Rattle.model.proofs.Ascending.{set_ascends}
use Rattle.model.proofs.Plans.{plan_ranks_first, plan_least}

-- ---- one version

-- the fields of a file whose records have w bytes
module _ (s : List ℕ) (w : ℕ) (e : record_length s ≡ w) where
  field_at : (f : Field) (i : ℕ) → field_of s f i ≡ number f.width s (header_length + w * i + f.offset)
  unfolding field_of
  field_at f i = rw e

  parent_at : (i : ℕ) → field_of s parent_field i ≡ number 2 s (header_length + w * i)
  parent_at i = field_at parent_field i ∙ ap (number 2 s) (add-zero (header_length + w * i))

-- cachable bytes, in a file whose records have w bytes
module _ (s : List ℕ) (none : has_ratios s ≡ false) (w : ℕ) (e : record_length s ≡ w) where
  flow_at : (c : ℕ) → (demand_of s).flow c ≡ number 4 s (9 + w * c + 4)
  flow_at = field_at s w e flow_field

  bytes_at : (c : ℕ) → (demand_of s).share c ≡ bytes (number 4 s (9 + w * c + 8))
  bytes_at c = share_bytes s c none ∙ ap bytes (field_at s w e cachable_field c)

  with_cachable_bytes : (version : ℕ)
      → (leb 1 (version_of s) && leb (version_of s) 3) ≡ eqb (version_of s) version → WithCachableBytes version w s
  unfolding whole price client_load file_verdict record_verdict record_bytes
  with_cachable_bytes version admitted = record {
    record_is = e;
    count_is = refl;
    parent_is = parent_at s w e;
    length_is = field_at s w e length_field;
    whole_is = λ c. rw (flow_at c);
    cachable_is = λ c. rw (cachable_bytes s c none, field_at s w e cachable_field c);
    price_is = λ c v. rw (flow_at c, bytes_at c);
    load_is = λ k v c. rw (flow_at c, bytes_at c)
        (ap (cond (any_of (has k) (up_to v (route (tree_of s) c))) (1000 * (number 4 s (9 + w * c + 4) - number 4 s (9 + w * c + 8)))) (omega arith));
    file_is = rw (admitted, e);
    questions_are = λ i. rw (flow_at i, bytes_at i);
    service_is = λ v. rw e;
  }

-- open throughout, where records have no last byte
module _ (s : List ℕ) (none : has_open_bytes s ≡ false) where
  all_open_lem : (k : List ℕ) → all_of (tree_of s).is_open k ≡ true
  all_open_lem k = (all_said (tree_of s).is_open k).1 (λ v _. open_throughout s v none)

  sites_all : open_sites (tree_of s) ≡ sites (tree_of s)
  sites_all = those_all (tree_of s).is_open (sites (tree_of s)) (λ v _. open_throughout s v none)

  set_only_ascends : (k : List ℕ) → is_set (tree_of s) k ≡ ascends 0 (count_of s) k
  unfolding is_set
  set_only_ascends k = rw (all_open_lem k, and-true)

module _ (s : List ℕ) (e : version_of s ≡ 1) where
  pub ratios : has_ratios s ≡ true
  unfolding has_ratios
  ratios = eq-eqb (version_of s) 1 e

  first_all_open : has_open_bytes s ≡ false
  first_all_open = ratio_all_open s ratios

  pub ten_bytes_lem : record_length s ≡ 10
  ten_bytes_lem = ratio_record s ratios

  hit_at : (i : ℕ) → (demand_of s).share i ≡ ratio (number 2 s (9 + 10 * i + 8))
  hit_at i = share_ratio s i ratios ∙ ap ratio (field_at s 10 ten_bytes_lem hit_field i)

  first_version_lem : FirstVersion s
  unfolding whole price client_load file_verdict record_verdict record_bytes
  first_version_lem = record {
    record_is = ten_bytes_lem;
    count_is = refl;
    parent_is = parent_at s 10 ten_bytes_lem;
    length_is = field_at s 10 ten_bytes_lem length_field;
    open_is = λ v. open_throughout s v first_all_open;
    set_asked = λ k. ap (ask 12 0) (set_only_ascends s first_all_open k);
    whole_is = λ c. rw (field_at s 10 ten_bytes_lem flow_field c);
    cachable_is = λ c. rw (cachable_ratio s c ratios, field_at s 10 ten_bytes_lem flow_field c, field_at s 10 ten_bytes_lem hit_field c);
    price_is = λ c v. rw (field_at s 10 ten_bytes_lem flow_field c, hit_at c);
    load_is = λ k v c. rw (field_at s 10 ten_bytes_lem flow_field c, hit_at c)
        (let f = number 4 s (9 + 10 * c + 4) in
        let p = number 2 s (9 + 10 * c + 8) in
        by_test (λ b. cond b (f * (1000 - p)) (f * 1000) ≡ f * cond b (1000 - p) 1000) (any_of (has k) (up_to v (route (tree_of s) c))) (λ _. refl) (λ _. refl));
    file_is = rw (e, ten_bytes_lem);
    questions_are = λ i. rw (field_at s 10 ten_bytes_lem flow_field i, hit_at i, first_all_open, then_none (ask 11 i (leb (number 2 s (9 + 10 * i + 8)) 1000)));
    service_is = λ v. rw ten_bytes_lem;
  }

module _ (s : List ℕ) (e : version_of s ≡ 2) where
  pub no_ratios : has_ratios s ≡ false
  unfolding has_ratios
  no_ratios = ne_eqb (version_of s) 1 (λ n. omega arith)

  second_all_open : has_open_bytes s ≡ false
  unfolding has_open_bytes
  second_all_open = ne_eqb (version_of s) 3 (λ n. omega arith)

  pub twelve_bytes_lem : record_length s ≡ 12
  twelve_bytes_lem = bytes_record s no_ratios second_all_open

  second_version : SecondVersion s
  second_version = record {
    in_bytes = with_cachable_bytes s no_ratios 12 twelve_bytes_lem 2 (rw e);
    none_else = λ i. rw second_all_open;
    open_is = λ v. open_throughout s v second_all_open;
    set_asked = λ k. ap (ask 12 0) (set_only_ascends s second_all_open k);
  }

-- at most 1 is 0 or 1
zero_or_one : (x : ℕ) → leb x 1 ≡ (eqb x 0 || eqb x 1)
zero_or_one zero = refl
zero_or_one (suc zero) = refl
zero_or_one (suc (suc x)) = rw (lt-leb (suc (suc x)) 1 (omega arith), ne_eqb (suc (suc x)) 0 (λ e. omega arith), ne_eqb (suc (suc x)) 1 (λ e. omega arith))

module _ (s : List ℕ) (e : version_of s ≡ 3) where
  open_bytes_lem : has_open_bytes s ≡ true
  unfolding has_open_bytes
  open_bytes_lem = eq-eqb (version_of s) 3 e

  pub third_no_ratios : has_ratios s ≡ false
  third_no_ratios = open_no_ratios s open_bytes_lem

  pub thirteen_bytes_lem : record_length s ≡ 13
  thirteen_bytes_lem = open_record s third_no_ratios open_bytes_lem

  open_at : (v : ℕ) → (tree_of s).is_open v ≡ eqb (number 1 s (9 + 13 * v + 12)) 1
  open_at v = open_by_byte s v open_bytes_lem ∙ ap (λ (x : ℕ). eqb x 1) (field_at s 13 thirteen_bytes_lem open_field v)

  third_version_lem : ThirdVersion s
  unfolding is_set
  third_version_lem = record {
    in_bytes = with_cachable_bytes s third_no_ratios 13 thirteen_bytes_lem 3 (rw e);
    open_asked = λ i. rw (open_bytes_lem, field_at s 13 thirteen_bytes_lem open_field i, zero_or_one (number 1 s (9 + 13 * i + 12)));
    open_is = open_at;
    set_asked = λ k. ap (λ (p : ℕ → Bool). ask 12 0 (ascends 0 (count_of s) k && all_of p k)) (λ i v. open_at v i);
  }

-- ---- every other version, and every accepted file

other_version : (s : List ℕ) → (version_of s ≡ 1 → ⊥) → (version_of s ≡ 2 → ⊥) → (version_of s ≡ 3 → ⊥)
    → file_verdict s ≡ (ask 1 0 (leb 9 (length s)) then ask 2 0 (marked s) then broken 3 0)
unfolding file_verdict
other_version s a b c =
    elim (dec_lt (version_of s) 1) [
      | yes l ↦ rw (lt-leb 1 (version_of s) l)
      | no l ↦ rw (le-leb 1 (version_of s) (omega arith), lt-leb (version_of s) 3 (omega arith))
    ]

module _ (s : List ℕ) (fits : accepted s ≡ true) where
  pub one_of_three_lem : (version_of s ≡ 1) ⊎ ((version_of s ≡ 2) ⊎ (version_of s ≡ 3))
  unfolding accepted
  one_of_three_lem =
      let head = accepted_header s (is_passed_lem (file_verdict s) fits) in
      elim (ℕ_discrete (version_of s) 1) [
        | yes e ↦ inl e
        | no e ↦ elim (ℕ_discrete (version_of s) 2) [ yes f ↦ inr (inl f) | no f ↦ inr (inr (omega (arith, head.first, head.newest))) ]
      ]

  longest_file_lem : length s ≤ 13321
  unfolding accepted
  longest_file_lem =
      let head = accepted_header s (is_passed_lem (file_verdict s) fits) in
      omega (arith, head.exact, records_bound s refl head.few)

-- ---- record by record

records_pass_lem : (s : List ℕ) (n : ℕ) → ((i : ℕ) → i < n → record_verdict s i ≡ passed) → records_verdict s n ≡ passed
unfolding records_verdict
records_pass_lem s zero h = refl
records_pass_lem s (suc n) h = rw (records_pass_lem s n (λ i l. h i (omega arith))) (h n (omega arith))

-- the first broken rule stays
stays_broken : (a b : Verdict) → (a ≡ passed → ⊥) → (a then b) ≡ a
stays_broken passed b n = absurd (n refl)
stays_broken (broken q i) b n = refl

records_break_lem : (s : List ℕ) (n i : ℕ) → i < n → ((j : ℕ) → j < i → record_verdict s j ≡ passed)
    → (record_verdict s i ≡ passed → ⊥) → records_verdict s n ≡ record_verdict s i
unfolding records_verdict
records_break_lem s zero i l h breaks = absurd (omega arith)
records_break_lem s (suc n) i l h breaks =
    elim (dec_lt i n) [
      | yes m ↦ rw (records_break_lem s n i m h breaks) (stays_broken (record_verdict s i) _ breaks)
      | no m ↦ let same : i ≡ n = omega arith in rw (records_pass_lem s n (λ j k. h j (omega arith))) (ap (record_verdict s) (sym same))
    ]

-- ---- the program's questions, and a longer first look

program_is_lem : (look : ℕ) (s : List ℕ) → verdict_within look s
    ≡ (ask 15 0 (ltb (length s) look) then file_verdict s then ask 15 0 (leb (count_of s) 64 && leb (height (tree_of s)) 8 && leb (budget_of s) 8))
unfolding verdict_within
program_is_lem look s = refl

module _ (input : List ℕ) {look : ℕ} (e : verdict_within look (take look input) ≡ passed) where
  -- what passes was looked at whole
  pub looked_whole : (take look input ≡ input) × (length input < look)
  unfolding verdict_within
  looked_whole =
      let looked = take look input in
      let less = ltb-true (length looked) look (ask_passed 15 0 (ltb (length looked) look) (then_passed _ _ e).0) in
      (take_all look input (omega (arith, length-take look input)), omega (arith, length-take look input))

  -- and prints the same with a longer look
  longer_look : {more : ℕ} → look ≤ more → text_within look input ≡ text_within more input
  unfolding text_within verdict_within
  longer_look {more} h =
      rw (looked_whole.0, take_all more input (omega (arith, looked_whole.1)), lt-ltb (length input) look looked_whole.1, lt-ltb (length input) more (omega (arith, looked_whole.1)))

-- an input that fills the look gets 15
too_many : (s : List ℕ) (look : ℕ) → look ≤ length s → text_within look s ≡ refusal_text 15 0
unfolding text_within verdict_within
too_many s look h = rw (le-ltb (length (take look s)) look (omega (arith, length-take look s)))

module _ (s : List ℕ) (fits : accepted s ≡ true) where
  -- an accepted file within the look
  in_look : (look : ℕ) → length s < look → text_within look s ≡ text_of (ask_program (is_small s)) s
  unfolding text_within verdict_within accepted
  in_look look h = rw (take_all look s (omega arith), lt-ltb (length s) look h, is_passed_lem (file_verdict s) fits)

  -- where a file that fills a shorter look has more than 64 nodes, it prints the same
  look_kept : (look : ℕ) → look ≤ first_look → (look ≤ length s → 65 ≤ count_of s) → text_within look s ≡ text_within first_look s
  look_kept look h many =
      elim (dec_lt (length s) look) [
        | yes l ↦ in_look look l ∙ sym (in_look first_look (omega arith))
        | no l ↦ too_many s look (omega arith) ∙ sym (elim (dec_lt (length s) first_look) [
          | yes m ↦ in_look first_look m ∙ rw (lt-leb (count_of s) 64 (many (omega arith)))
          | no m ↦ too_many s first_look (omega arith)
        ])
      ]

  pub exact_length : length s ≡ header_length + record_length s * count_of s
  unfolding accepted
  exact_length = (accepted_header s (is_passed_lem (file_verdict s) fits)).exact

  first_kept : version_of s ≡ 1 → text_within 650 s ≡ text_within first_look s
  first_kept e = look_kept 650 (omega arith) (λ h. omega (arith, rw (ten_bytes_lem s e) at exact_length))

  second_kept : version_of s ≡ 2 → text_within 778 s ≡ text_within first_look s
  second_kept e = look_kept 778 (omega arith) (λ h. omega (arith, rw (twelve_bytes_lem s e) at exact_length))

-- ---- two demands with the same amounts

module _ (t : Tree) (d d' : Demand) (wholes : (c : ℕ) → whole d c ≡ whole d' c) (cachables : (c : ℕ) → cachable d c ≡ cachable d' c) where
  price_same : (c v : ℕ) → price t d c v ≡ price t d' c v
  price_same c v = rw (price_amounts d c t v, price_amounts d' c t v, wholes c, cachables c)

  client_load_same : (k : List ℕ) (v c : ℕ) → client_load t d k v c ≡ client_load t d' k v c
  client_load_same k v c = rw (load_amounts d c t k v, load_amounts d' c t k v, wholes c, cachables c)

  total_same : (k : List ℕ) → total t d k ≡ total t d' k
  unfolding total cost
  total_same k = ap (λ (p : ℕ → ℕ → ℕ). sum (λ c. least (p c) server (those (has k) (route t c))) (nodes t)) (λ i c v. price_same c v i)

  load_same : (k : List ℕ) (v : ℕ) → link_load t d k v ≡ link_load t d' k v
  unfolding link_load
  load_same k zero = refl
  load_same k (suc v) = ap (λ (f : ℕ → ℕ). sum f (those (at_or_below t (suc v)) (nodes t))) (λ i c. client_load_same k (suc v) c i)

  ranks_same : (k l : List ℕ) → ranks_before t d k l ≡ ranks_before t d' k l
  unfolding ranks_before
  ranks_same k l = rw (total_same k, total_same l)

-- where all sets rank alike, so does the first of a list of them
first_alike_lem : (t t' : Tree) (d d' : Demand) → ((k l : List ℕ) → ranks_before t d k l ≡ ranks_before t' d' k l)
    → (k : List ℕ) (ls : List (List ℕ)) → first_of t d k ls ≡ first_of t' d' k ls
unfolding first_of
first_alike_lem t t' d d' alike k [] = refl
first_alike_lem t t' d d' alike k (l ∷ ls) = rw (alike l k) (first_alike_lem t t' d d' alike (cond (ranks_before t' d' l k) l k) ls)

-- ---- a tree with other open sites

abbrev pub reopened : Tree → (ℕ → Bool) → Tree
reopened t p = record { count = t.count; parent = t.parent; link_length = t.link_length; is_open = p }

module _ (t : Tree) (p : ℕ → Bool) (d : Demand) where
  total_reopened : (k : List ℕ) → total (reopened t p) d k ≡ total t d k
  unfolding total cost price distance route
  total_reopened k = refl

  load_reopened : (k : List ℕ) (v : ℕ) → link_load (reopened t p) d k v ≡ link_load t d k v
  unfolding link_load client_load at_or_below route
  load_reopened k zero = refl
  load_reopened k (suc v) = refl

  visits_reopened : (k l vs : List ℕ) → visits (reopened t p) k l vs ≡ visits t k l vs
  unfolding visits members at_or_below route
  visits_reopened k l [] = refl
  visits_reopened k l (v ∷ vs) = rw (visits_reopened k l vs)

  ranks_reopened : (k l : List ℕ) → ranks_before (reopened t p) d k l ≡ ranks_before t d k l
  unfolding ranks_before ties_before
  ranks_reopened k l = rw (total_reopened k, total_reopened l, visits_reopened k l (sites t))

-- ---- two accepted files of as many nodes

module _ (f g : List ℕ) (first_fits : accepted f ≡ true) (second_fits : accepted g ≡ true) (count : count_of g ≡ count_of f) where
  -- past the last record every field is 0 in both
  first_past : (x : Field) (v : ℕ) → count_of f ≤ v → field_of f x v ≡ 0
  first_past x v h = field_past f x v (exact_length f first_fits) h

  second_past : (x : Field) (v : ℕ) → count_of f ≤ v → field_of g x v ≡ 0
  second_past x v h = field_past g x v (exact_length g second_fits) (omega (arith, count))

  pub field_same : (x : Field) → ((v : ℕ) → v < count_of f → field_of g x v ≡ field_of f x v) → (v : ℕ) → field_of g x v ≡ field_of f x v
  field_same x h v =
      elim (dec_lt v (count_of f)) [
        | yes l ↦ h v l
        | no l ↦ let past : count_of f ≤ v = omega arith in second_past x v past ∙ sym (first_past x v past)
      ]

  -- with the same parents and lengths only the open sites may differ
  pub tree_same : ((v : ℕ) → v < count_of f → field_of g parent_field v ≡ field_of f parent_field v)
      → ((v : ℕ) → v < count_of f → field_of g length_field v ≡ field_of f length_field v) → tree_of g ≡ reopened (tree_of f) (open_of g)
  tree_same parents lengths = λ i. record {
    count = count i;
    parent = λ v. field_same parent_field parents v i;
    link_length = λ v. field_same length_field lengths v i;
    is_open = open_of g;
  }

  whole_same : ((v : ℕ) → v < count_of f → field_of g flow_field v ≡ field_of f flow_field v) → (c : ℕ) → whole (demand_of g) c ≡ whole (demand_of f) c
  unfolding whole
  whole_same flows c = ap (λ (x : ℕ). x * thousandths) (field_same flow_field flows c)

-- ---- what follows where the trees have the same shape and the clients the same amounts

module _ (f g : List ℕ) (tree : tree_of g ≡ reopened (tree_of f) (open_of g)) (wholes : (c : ℕ) → whole (demand_of g) c ≡ whole (demand_of f) c) (cachables : (c : ℕ) → cachable (demand_of g) c ≡ cachable (demand_of f) c) where
  same_totals_lem : (k : List ℕ) → total (tree_of g) (demand_of g) k ≡ total (tree_of f) (demand_of f) k
  same_totals_lem k = rw tree (total_same _ (demand_of g) (demand_of f) wholes cachables k ∙ total_reopened (tree_of f) (open_of g) (demand_of f) k)

  same_loads_lem : (k : List ℕ) (v : ℕ) → link_load (tree_of g) (demand_of g) k v ≡ link_load (tree_of f) (demand_of f) k v
  same_loads_lem k v = rw tree (load_same _ (demand_of g) (demand_of f) wholes cachables k v ∙ load_reopened (tree_of f) (open_of g) (demand_of f) k v)

  same_ranks : (k l : List ℕ) → ranks_before (tree_of g) (demand_of g) k l ≡ ranks_before (tree_of f) (demand_of f) k l
  same_ranks k l = rw tree (ranks_same _ (demand_of g) (demand_of f) wholes cachables k l ∙ ranks_reopened (tree_of f) (open_of g) (demand_of f) k l)

  -- and where the same sites are open
  same_plans_lem : open_sites (tree_of g) ≡ open_sites (tree_of f) → (b : ℕ) → plan (tree_of g) (demand_of g) b ≡ plan (tree_of f) (demand_of f) b
  unfolding plan
  same_plans_lem sites b =
      first_alike_lem (tree_of g) (tree_of f) (demand_of g) (demand_of f) same_ranks [] (all_sets (tree_of g) b)
      ∙ ap (λ l. first_of (tree_of f) (demand_of f) [] (sets_of b l)) sites

-- ---- a file in versions 1 and 2

module _ (f g : List ℕ) (same : BothVersions f g) where
  both_trees : tree_of g ≡ reopened (tree_of f) (open_of g)
  both_trees = tree_same f g same.first.1 same.second.1 same.count same.parents same.lengths

  both_wholes : (c : ℕ) → whole (demand_of g) c ≡ whole (demand_of f) c
  both_wholes = whole_same f g same.first.1 same.second.1 same.count same.flows

  both_cachables : (c : ℕ) → cachable (demand_of g) c ≡ cachable (demand_of f) c
  both_cachables c =
      let at_f = first_past f g same.first.1 same.second.1 same.count in
      let at_g = second_past f g same.first.1 same.second.1 same.count in
      rw (cachable_ratio f c (ratios f same.first.0), cachable_bytes g c (no_ratios g same.second.0))
      (elim (dec_lt c (count_of f)) [
        | yes l ↦ same.cachables c l
        | no l ↦ let past : count_of f ≤ c = omega arith in rw (at_g cachable_field c past, at_f flow_field c past, at_f hit_field c past)
      ])

  both_sites : open_sites (tree_of g) ≡ open_sites (tree_of f)
  both_sites =
      sites_all g (second_all_open g same.second.0) ∙ ap (λ (n : ℕ). range 1 (n - 1)) same.count
      ∙ sym (sites_all f (first_all_open f same.first.0))

-- ---- a file in versions 2 and 3

module _ (g h : List ℕ) (same : AddsOpenBytes g h) where
  adds_trees : tree_of h ≡ reopened (tree_of g) (open_of h)
  adds_trees = tree_same g h same.second.1 same.third.1 same.count same.parents same.lengths

  adds_wholes : (c : ℕ) → whole (demand_of h) c ≡ whole (demand_of g) c
  adds_wholes = whole_same g h same.second.1 same.third.1 same.count same.flows

  adds_cachables : (c : ℕ) → cachable (demand_of h) c ≡ cachable (demand_of g) c
  adds_cachables c =
      rw (cachable_bytes g c (no_ratios g same.second.0), cachable_bytes h c (third_no_ratios h same.third.0))
      (ap (λ (x : ℕ). 1000 * x) (field_same g h same.second.1 same.third.1 same.count cachable_field same.cachables c))

  -- a set of the version 3 file is one of the version 2 file
  still_set : (k : List ℕ) → is_set (tree_of h) k ≡ true → is_set (tree_of g) k ≡ true
  still_set k is =
      set_only_ascends g (second_all_open g same.second.0) k
      ∙ ap (λ (n : ℕ). ascends 0 n k) (sym same.count) ∙ set_ascends (tree_of h) k is

  -- no plan gets cheaper
  no_cheaper : (b : ℕ) → plan_total (tree_of g) (demand_of g) b ≤ plan_total (tree_of h) (demand_of h) b
  no_cheaper b =
      let held = plan_ranks_first (tree_of h) (demand_of h) b in
      omega (
        arith,
        plan_least (tree_of g) (demand_of g) b (plan (tree_of h) (demand_of h) b) (still_set _ held.is_a_set) held.within,
        same_totals_lem g h adds_trees adds_wholes adds_cachables (plan (tree_of h) (demand_of h) b),
      )

  adds_sites : ((v : ℕ) → 1 ≤ v → v < count_of g → field_of h open_field v ≡ 1) → open_sites (tree_of h) ≡ open_sites (tree_of g)
  adds_sites each =
      let here : (v : ℕ) → has (sites (tree_of h)) v ≡ true → (tree_of h).is_open v ≡ true =
      λ v m.
      let bounds = range_bounds 1 (count_of h - 1) v m in
      rw (open_by_byte h v (open_bytes_lem h same.third.0), each v bounds.0 (omega (arith, same.count))) in
      those_all (tree_of h).is_open (sites (tree_of h)) here
      ∙ ap (λ (n : ℕ). range 1 (n - 1)) same.count ∙ sym (sites_all g (second_all_open g same.second.0))

-- ---- all together

pub versions_lawful : VersionsLawful
versions_lawful = record {
  first = first_version_lem;
  second = second_version;
  third = third_version_lem;
  other = other_version;
  one_of_three = one_of_three_lem;
  longest = longest_file_lem;
  records_pass = records_pass_lem;
  records_break = records_break_lem;
  program_is = program_is_lem;
  text_kept = λ look input h e. longer_look input e h;
  first_text_kept = first_kept;
  second_text_kept = second_kept;
  same_totals = λ f g e. same_totals_lem f g (both_trees f g e) (both_wholes f g e) (both_cachables f g e);
  same_loads = λ f g e. same_loads_lem f g (both_trees f g e) (both_wholes f g e) (both_cachables f g e);
  same_plans = λ f g e. same_plans_lem f g (both_trees f g e) (both_wholes f g e) (both_cachables f g e) (both_sites f g e);
  open_totals = λ g h e. same_totals_lem g h (adds_trees g h e) (adds_wholes g h e) (adds_cachables g h e);
  open_loads = λ g h e. same_loads_lem g h (adds_trees g h e) (adds_wholes g h e) (adds_cachables g h e);
  open_ranks = λ g h e. same_ranks g h (adds_trees g h e) (adds_wholes g h e) (adds_cachables g h e);
  open_plan_totals = no_cheaper;
  open_plans = λ g h e each. same_plans_lem g h (adds_trees g h e) (adds_wholes g h e) (adds_cachables g h e) (adds_sites g h e each);
}
