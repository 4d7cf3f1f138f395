-- Document 01, "The questions, in this order", with 02, items 1, 2, 3 and 9: each rule, and what a file, a set, a scratch and a buffer
-- must fulfil.
-- "Rule N" is question N. The order in which a call asks them is in Calls, WithOrWithout, LeastBudget, Report and Hosts.
use Rattle.std.specs.Prelude.{Bool, true, false, cond, ◌&&◌, List, [], ◌∷◌, ℕ, zero, suc, ◌+◌, ◌*◌, min, leb, ltb, eqb, length, take}
use Rattle.laws.specs.Lists.{sum, has, all_of, same}
use Rattle.model.specs.File.{Tree, Share, ratio, bytes, tree_of, demand_of, most_nodes, most_budget, most_depth, mark, first_version, third_version, header_length, version_of, count_of, budget_of, has_open_bytes, record_at, length_field, flow_field, hit_field, open_field, field_of}
use Rattle.model.specs.Tree.{sites, route, depth, nodes_of_row}

-- no rule broken so far, or the first broken one: its number and its record
pub data Verdict : Type 0 where
  passed : Verdict
  broken : ℕ → ℕ → Verdict

-- question q, on record i
abbrev pub ask : ℕ → ℕ → Bool → Verdict
ask q i true = passed
ask q i false = broken q i

infixr 10 ◌then◌
-- the first broken rule of two
abbrev pub ◌then◌ : Verdict → Verdict → Verdict
◌then◌ passed rest = rest
◌then◌ (broken q i) rest = broken q i

abbrev pub is_passed : Verdict → Bool
is_passed passed = true
is_passed (broken q i) = false

-- ---- rules 7 to 11, 17 and 24, record by record

-- 7: "Is the parent 0 (node 0), or node i − 1 or an ancestor of it?"
unfoldable pub parent_holds : Tree → ℕ → Bool
parent_holds t zero = eqb (t.parent 0) 0
parent_holds t (suc i) = has (route t i) (t.parent (suc i))

-- 9: "Is the length 0 (node 0), or at most 1,000?"
unfoldable pub length_holds : Tree → ℕ → Bool
length_holds t zero = eqb (t.link_length 0) 0
length_holds t (suc i) = leb (t.link_length (suc i)) length_field.most

-- 11: "Is the hit at most 1,000?" And from version 2 on: "17, with its record: cachable bytes exceed the flow; replaces 11"
abbrev pub ask_share : ℕ → ℕ → Share → Verdict
ask_share i f (ratio p) = ask 11 i (leb p hit_field.most)
ask_share i f (bytes b) = ask 17 i (leb b f)

-- "24, with its record: the byte is neither 0 nor 1": only version 3 has it
abbrev pub ask_open : List ℕ → ℕ → Verdict
ask_open s i = cond (has_open_bytes s) (ask 24 i (leb (field_of s open_field i) open_field.most)) passed

-- 8: "Is the depth at most 32?" 10: "Is the flow at most 100,000,000?" 24 is "last in the record".
unfoldable pub record_verdict : List ℕ → ℕ → Verdict
record_verdict s i =
    let t = tree_of s in
    let d = demand_of s in
    ask 7 i (parent_holds t i)
    then ask 8 i (leb (depth t i) most_depth)
    then ask 9 i (length_holds t i)
    then ask 10 i (leb (d.flow i) flow_field.most)
    then ask_share i (d.flow i) (d.share i)
    then ask_open s i

-- the first n records, "each through 7 to 11 before the next", from version 2 on with 17 for 11, in version 3 with 24 besides
unfoldable pub records_verdict : List ℕ → ℕ → Verdict
records_verdict s zero = passed
records_verdict s (suc i) = records_verdict s i then record_verdict s i

-- ---- the rules about the file itself

-- 2: "Do they begin with the mark?"
unfoldable pub marked : List ℕ → Bool
marked s = same (take (length mark) s) mark

-- 1: "Are there at least 9 bytes?" 3: "admits" 1, 2 and 3. 4: "Is n from 1 to 1,024?" 5: "Is k from 0 to 32?"
-- 6: "Is the file exactly 9 + 10 × n bytes?", in version 2 "counts the longer record" and in version 3
-- "13-byte records". Then the records.
unfoldable pub file_verdict : List ℕ → Verdict
file_verdict s =
    ask 1 0 (leb header_length (length s))
    then ask 2 0 (marked s)
    then ask 3 0 (leb first_version (version_of s) && leb (version_of s) third_version)
    then ask 4 0 (leb 1 (count_of s) && leb (count_of s) most_nodes)
    then ask 5 0 (leb (budget_of s) most_budget)
    then ask 6 0 (eqb (length s) (record_at s (count_of s)))
    then records_verdict s (count_of s)

-- "A file is accepted when no question about the file itself, here 1 to 11, gets a no"; with 02 also 17 and 24
unfoldable pub accepted : List ℕ → Bool
accepted s = is_passed (file_verdict s)

-- ---- rules 12 to 16, where a call takes them; each names record 0

-- strictly ascending from above a on, each below n
unfoldable pub ascends : ℕ → ℕ → List ℕ → Bool
ascends a n [] = true
ascends a n (v ∷ vs) = ltb a v && ltb v n && ascends v n vs

-- a set: strictly ascending, each from 1 to n − 1 and open
unfoldable pub is_set : Tree → List ℕ → Bool
is_set t k = ascends 0 t.count k && all_of t.is_open k

-- 12: "Is the set strictly ascending, each from 1 to n − 1?"; "also refuses a set with a closed node"
abbrev pub ask_set : List ℕ → List ℕ → Verdict
ask_set s k = ask 12 0 (is_set (tree_of s) k)

-- 16: "the node is not from 1 to n − 1, or b is above k"
abbrev pub ask_node : List ℕ → ℕ → ℕ → Verdict
ask_node s v b = ask 16 0 (leb 1 v && ltb v (count_of s) && leb b (budget_of s))

-- "the sum over nodes v from 1 on of depth(v) × (min(k, r(v)) + 1), plus 4 × n words"
unfoldable pub scratch_words : List ℕ → ℕ
scratch_words s =
    let t = tree_of s in
    sum (λ v. depth t v * (min (budget_of s) (nodes_of_row t v) + 1)) (sites t) + 4 * t.count

-- "Scratch is enough when 13 passes"
abbrev pub enough_scratch : List ℕ → List ℕ → Bool
enough_scratch s scratch = leb (scratch_words s) (length scratch)

-- 13: "has the scratch at least .. words of 64 bits?"
abbrev pub ask_scratch : List ℕ → List ℕ → Verdict
ask_scratch s scratch = ask 13 0 (enough_scratch s scratch)

-- is a buffer long enough for m entries?
abbrev pub long_enough : ℕ → List ℕ → Bool
long_enough m buffer = leb m (length buffer)

-- 14: "Is every answer buffer long enough?" Each call's verdict names the test of its buffers.
abbrev pub ask_buffers : Bool → Verdict
ask_buffers all = ask 14 0 all

-- 15: "For the report program only": the tests are in Report
abbrev pub ask_program : Bool → Verdict
ask_program small = ask 15 0 small
