-- The three versions of the tree file, each formula written out over the file's bytes (`versions_lawful` in proofs/Versions). What a
-- file of version 1 means is said in document 01's words alone, so that nothing which 02 brought can change it. Besides: a file says
-- the same in versions 1 and 2 where its cachable bytes are flow × hit / 1,000, and the last bytes of version 3 change which sets
-- there are, but no total, no load and no rank.
use Rattle.std.specs.Prelude.{◌≡◌, true, cond, ◌&&◌, ◌||◌, List, [], ◌⊎◌, ℕ, ◌+◌, ◌*◌, ◌-◌, ◌≤◌, ◌<◌, leb, ltb, eqb, length, take}
use Rattle.laws.specs.Lists.{has, any_of, all_of, part}
use Rattle.model.specs.File.{number, version_of, count_of, budget_of, record_length, parent_field, length_field, flow_field, hit_field, cachable_field, open_field, field_of, tree_of, demand_of}
use Rattle.model.specs.Tree.{route, depth, height, distance}
use Rattle.model.specs.Rules.{passed, broken, ask, ◌then◌, parent_holds, length_holds, ask_open, record_verdict, records_verdict, marked, file_verdict, accepted, ascends, ask_set}
use Rattle.model.specs.Bill.{whole, cachable, up_to, price, total, client_load, link_load}
use Rattle.model.specs.Ties.{ranks_before}
use Rattle.model.specs.Plan.{plan, plan_total}
use Rattle.model.specs.Calls.{record_bytes}
use Rattle.model.specs.Report.{verdict_within, text_within, program_text}

-- a file of version 1, by document 01: record v begins at 9 + 10 × v; parent, length, flow and hit stand at 0, 2, 4 and 8
pub record FirstVersion (s : List ℕ) : Type 0 where
  pub record_is : record_length s ≡ 10
  pub count_is : (tree_of s).count ≡ number 2 s 5
  pub parent_is : (v : ℕ) → (tree_of s).parent v ≡ number 2 s (9 + 10 * v)
  pub length_is : (v : ℕ) → (tree_of s).link_length v ≡ number 2 s (9 + 10 * v + 2)
  -- "Versions 1 and 2 count as open throughout", so 12 asks what 01 says
  pub open_is : (v : ℕ) → (tree_of s).is_open v ≡ true
  pub set_asked : (k : List ℕ) → ask_set s k ≡ ask 12 0 (ascends 0 (number 2 s 5) k)
  -- what a client asks for and what of it is cachable, in thousandths: f × 1,000 and f × p
  pub whole_is : (c : ℕ) → whole (demand_of s) c ≡ number 4 s (9 + 10 * c + 4) * 1000
  pub cachable_is : (c : ℕ) → cachable (demand_of s) c ≡ number 4 s (9 + 10 * c + 4) * number 2 s (9 + 10 * c + 8)
  -- "f × (1,000 × d(c) − p × d(v))"
  pub price_is : (c v : ℕ) → price (tree_of s) (demand_of s) c v
      ≡ number 4 s (9 + 10 * c + 4) * (1000 * distance (tree_of s) c - number 2 s (9 + 10 * c + 8) * distance (tree_of s) v)
  -- "f × (1,000 − p) if K has a node from c up to v inclusive, else f × 1,000"
  pub load_is : (k : List ℕ) (v c : ℕ) → client_load (tree_of s) (demand_of s) k v c
      ≡ number 4 s (9 + 10 * c + 4) * cond (any_of (has k) (up_to v (route (tree_of s) c))) (1000 - number 2 s (9 + 10 * c + 8)) 1000
  -- questions 1 to 6, then record by record 7 to 11
  pub file_is : file_verdict s
      ≡ (ask 1 0 (leb 9 (length s))
      then ask 2 0 (marked s)
      then ask 3 0 (eqb (number 2 s 3) 1)
      then ask 4 0 (leb 1 (number 2 s 5) && leb (number 2 s 5) 1024)
      then ask 5 0 (leb (number 2 s 7) 32)
      then ask 6 0 (eqb (length s) (9 + 10 * number 2 s 5))
      then records_verdict s (number 2 s 5))
  pub questions_are : (i : ℕ) → record_verdict s i
      ≡ (ask 7 i (parent_holds (tree_of s) i)
      then ask 8 i (leb (depth (tree_of s) i) 32)
      then ask 9 i (length_holds (tree_of s) i)
      then ask 10 i (leb (number 4 s (9 + 10 * i + 4)) 100_000_000)
      then ask 11 i (leb (number 2 s (9 + 10 * i + 8)) 1000))
  -- "the ten bytes inside the caller's file, empty if the file is refused or the node is not below n"
  pub service_is : (v : ℕ) → record_bytes s v ≡ cond (accepted s && ltb v (count_of s)) (part s (9 + 10 * v) 10) []

-- a file with cachable bytes, by 02, item 2, in a version whose records have w bytes: record v begins at 9 + w × v, and the cachable
-- bytes stand at 8
pub record WithCachableBytes (version w : ℕ) (s : List ℕ) : Type 0 where
  pub record_is : record_length s ≡ w
  pub count_is : (tree_of s).count ≡ number 2 s 5
  pub parent_is : (v : ℕ) → (tree_of s).parent v ≡ number 2 s (9 + w * v)
  pub length_is : (v : ℕ) → (tree_of s).link_length v ≡ number 2 s (9 + w * v + 2)
  -- what a client asks for and what of it is cachable, in thousandths: flow × 1,000 and 1,000 × cachable
  pub whole_is : (c : ℕ) → whole (demand_of s) c ≡ number 4 s (9 + w * c + 4) * 1000
  pub cachable_is : (c : ℕ) → cachable (demand_of s) c ≡ 1000 * number 4 s (9 + w * c + 8)
  -- "1,000 × (flow × d(c) − cachable × d(v))"
  pub price_is : (c v : ℕ) → price (tree_of s) (demand_of s) c v
      ≡ 1000 * (number 4 s (9 + w * c + 4) * distance (tree_of s) c - number 4 s (9 + w * c + 8) * distance (tree_of s) v)
  -- "1,000 × (flow − cachable) where a cache serves"
  pub load_is : (k : List ℕ) (v c : ℕ) → client_load (tree_of s) (demand_of s) k v c
      ≡ cond (any_of (has k) (up_to v (route (tree_of s) c)))
      (1000 * (number 4 s (9 + w * c + 4) - number 4 s (9 + w * c + 8)))
      (1000 * number 4 s (9 + w * c + 4))
  -- "Question 3 admits" the version, "question 6 counts the longer record"
  pub file_is : file_verdict s
      ≡ (ask 1 0 (leb 9 (length s))
      then ask 2 0 (marked s)
      then ask 3 0 (eqb (number 2 s 3) version)
      then ask 4 0 (leb 1 (number 2 s 5) && leb (number 2 s 5) 1024)
      then ask 5 0 (leb (number 2 s 7) 32)
      then ask 6 0 (eqb (length s) (9 + w * number 2 s 5))
      then records_verdict s (number 2 s 5))
  -- the questions of a record up to "17, with its record: cachable bytes exceed the flow; replaces 11", then what else there is
  pub questions_are : (i : ℕ) → record_verdict s i
      ≡ (ask 7 i (parent_holds (tree_of s) i)
      then ask 8 i (leb (depth (tree_of s) i) 32)
      then ask 9 i (length_holds (tree_of s) i)
      then ask 10 i (leb (number 4 s (9 + w * i + 4)) 100_000_000)
      then ask 17 i (leb (number 4 s (9 + w * i + 8)) (number 4 s (9 + w * i + 4)))
      then ask_open s i)
  -- "the service hands back 12 bytes", in version 3 "13 bytes"
  pub service_is : (v : ℕ) → record_bytes s v ≡ cond (accepted s && ltb v (count_of s)) (part s (9 + w * v) w) []

-- a file of version 2, by 02, item 2: 12-byte records
pub record SecondVersion (s : List ℕ) : Type 0 where
  pub in_bytes : WithCachableBytes 2 12 s
  -- 17 is the last question of a record
  pub none_else : (i : ℕ) → ask_open s i ≡ passed
  -- "Versions 1 and 2 count as open throughout", so 12 asks what 01 says
  pub open_is : (v : ℕ) → (tree_of s).is_open v ≡ true
  pub set_asked : (k : List ℕ) → ask_set s k ≡ ask 12 0 (ascends 0 (number 2 s 5) k)

-- a file of version 3, by 02, item 9: "version 2 with a last byte in each record", so a record has 13 bytes, and its last stands at 12
pub record ThirdVersion (s : List ℕ) : Type 0 where
  pub in_bytes : WithCachableBytes 3 13 s
  -- "24, with its record: the byte is neither 0 nor 1; last in the record"
  pub open_asked : (i : ℕ) → ask_open s i ≡ ask 24 i (eqb (number 1 s (9 + 13 * i + 12)) 0 || eqb (number 1 s (9 + 13 * i + 12)) 1)
  -- "1 where a cache may stand and 0 where not"
  pub open_is : (v : ℕ) → (tree_of s).is_open v ≡ eqb (number 1 s (9 + 13 * v + 12)) 1
  -- "Question 12 also refuses a set with a closed node"
  pub set_asked : (k : List ℕ) → ask_set s k
      ≡ ask 12 0 (ascends 0 (number 2 s 5) k && all_of (λ v. eqb (number 1 s (9 + 13 * v + 12)) 1) k)

-- the version 2 file g says of each node what the version 1 file f says, and its cachable bytes are exactly flow × hit / 1,000
pub record BothVersions (f g : List ℕ) : Type 0 where
  pub first : (version_of f ≡ 1) × (accepted f ≡ true)
  pub second : (version_of g ≡ 2) × (accepted g ≡ true)
  pub count : count_of g ≡ count_of f
  pub parents : (v : ℕ) → v < count_of f → field_of g parent_field v ≡ field_of f parent_field v
  pub lengths : (v : ℕ) → v < count_of f → field_of g length_field v ≡ field_of f length_field v
  pub flows : (v : ℕ) → v < count_of f → field_of g flow_field v ≡ field_of f flow_field v
  pub cachables : (v : ℕ) → v < count_of f → 1000 * field_of g cachable_field v ≡ field_of f flow_field v * field_of f hit_field v

-- the version 3 file h says of each node what the version 2 file g says, and besides whether a cache may stand there
pub record AddsOpenBytes (g h : List ℕ) : Type 0 where
  pub second : (version_of g ≡ 2) × (accepted g ≡ true)
  pub third : (version_of h ≡ 3) × (accepted h ≡ true)
  pub count : count_of h ≡ count_of g
  pub parents : (v : ℕ) → v < count_of g → field_of h parent_field v ≡ field_of g parent_field v
  pub lengths : (v : ℕ) → v < count_of g → field_of h length_field v ≡ field_of g length_field v
  pub flows : (v : ℕ) → v < count_of g → field_of h flow_field v ≡ field_of g flow_field v
  pub cachables : (v : ℕ) → v < count_of g → field_of h cachable_field v ≡ field_of g cachable_field v

pub record VersionsLawful : Type 0 where
  pub first : (s : List ℕ) → version_of s ≡ 1 → FirstVersion s
  pub second : (s : List ℕ) → version_of s ≡ 2 → SecondVersion s
  pub third : (s : List ℕ) → version_of s ≡ 3 → ThirdVersion s
  -- every other version gets 3, unless question 1 or 2 is broken
  pub other : (s : List ℕ) → (version_of s ≡ 1 → ⊥) → (version_of s ≡ 2 → ⊥) → (version_of s ≡ 3 → ⊥)
      → file_verdict s ≡ (ask 1 0 (leb 9 (length s)) then ask 2 0 (marked s) then broken 3 0)
  -- so none is accepted, and no accepted file is longer than 13,321 bytes
  pub one_of_three : (s : List ℕ) → accepted s ≡ true → (version_of s ≡ 1) ⊎ ((version_of s ≡ 2) ⊎ (version_of s ≡ 3))
  pub longest : (s : List ℕ) → accepted s ≡ true → length s ≤ 13321
  -- "record by record, each through 7 to 11 before the next": all pass, or the first that does not says which
  pub records_pass : (s : List ℕ) (n : ℕ) → ((i : ℕ) → i < n → record_verdict s i ≡ passed) → records_verdict s n ≡ passed
  pub records_break : (s : List ℕ) (n i : ℕ) → i < n → ((j : ℕ) → j < i → record_verdict s j ≡ passed)
      → (record_verdict s i ≡ passed → ⊥) → records_verdict s n ≡ record_verdict s i
  -- the questions of the program: the first look, the file, and "n at most 64, h at most 8 and k at most 8"
  pub program_is : (look : ℕ) (s : List ℕ) → verdict_within look s
      ≡ (ask 15 0 (ltb (length s) look)
      then file_verdict s
      then ask 15 0 (leb (count_of s) 64 && leb (height (tree_of s)) 8 && leb (budget_of s) 8))
  -- "Reports of accepted version 1 files keep their text": an input that passes with a shorter first look prints the same, and so
  -- does every accepted file of version 1 with the look of 650 bytes that 01 has, and of version 2 with the 778 of 02, item 2: one of
  -- 65 nodes or more gets 15 both times
  pub text_kept : (look : ℕ) (input : List ℕ) → look ≤ 842 → verdict_within look (take look input) ≡ passed → text_within look input ≡ program_text input
  pub first_text_kept : (s : List ℕ) → accepted s ≡ true → version_of s ≡ 1 → text_within 650 s ≡ program_text s
  pub second_text_kept : (s : List ℕ) → accepted s ≡ true → version_of s ≡ 2 → text_within 778 s ≡ program_text s
  -- a file in versions 1 and 2: every set has the same total and the same link loads, and the plans are the same sets
  pub same_totals : (f g : List ℕ) → BothVersions f g → (k : List ℕ) → total (tree_of g) (demand_of g) k ≡ total (tree_of f) (demand_of f) k
  pub same_loads : (f g : List ℕ) → BothVersions f g → (k : List ℕ) (v : ℕ) → link_load (tree_of g) (demand_of g) k v ≡ link_load (tree_of f) (demand_of f) k v
  pub same_plans : (f g : List ℕ) → BothVersions f g → (b : ℕ) → plan (tree_of g) (demand_of g) b ≡ plan (tree_of f) (demand_of f) b
  -- the last bytes of version 3 change no set's total and no link's load, and no two sets' ranks, also where one has a closed node:
  -- the order of ties visits every node
  pub open_totals : (g h : List ℕ) → AddsOpenBytes g h → (k : List ℕ) → total (tree_of h) (demand_of h) k ≡ total (tree_of g) (demand_of g) k
  pub open_loads : (g h : List ℕ) → AddsOpenBytes g h → (k : List ℕ) (v : ℕ) → link_load (tree_of h) (demand_of h) k v ≡ link_load (tree_of g) (demand_of g) k v
  pub open_ranks : (g h : List ℕ) → AddsOpenBytes g h → (k l : List ℕ)
      → ranks_before (tree_of h) (demand_of h) k l ≡ ranks_before (tree_of g) (demand_of g) k l
  -- a closed node makes no plan cheaper; and where every node from 1 to n − 1 is open, the plans are the same sets
  pub open_plan_totals : (g h : List ℕ) → AddsOpenBytes g h → (b : ℕ) → plan_total (tree_of g) (demand_of g) b ≤ plan_total (tree_of h) (demand_of h) b
  pub open_plans : (g h : List ℕ) → AddsOpenBytes g h → ((v : ℕ) → 1 ≤ v → v < count_of g → field_of h open_field v ≡ 1)
      → (b : ℕ) → plan (tree_of h) (demand_of h) b ≡ plan (tree_of g) (demand_of g) b
