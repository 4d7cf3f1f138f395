-- Document 01, "Tree file", with 02, items 2 and 9: its sizes, versions, header and records, and the tree and the demand that a
-- file holds. A file, a set and a buffer are each the list of their entries.
use Rattle.std.specs.Prelude.{Bool, true, cond, List, [], ◌∷◌, ℕ, zero, suc, ◌+◌, ◌*◌, ◌-◌, eqb, get_or}

-- ---- the sizes of the tree file, each named once

abbrev pub most_nodes : ℕ
most_nodes = 1024

abbrev pub most_budget : ℕ
most_budget = 32

abbrev pub most_depth : ℕ
most_depth = 32

abbrev pub most_length : ℕ
most_length = 1000

abbrev pub most_flow : ℕ
most_flow = 100_000_000

abbrev pub most_hit : ℕ
most_hit = 1000

-- ---- header and records

-- "Numbers are unsigned, most significant byte first": the number in the w bytes from index `at` on
unfoldable pub number : ℕ → List ℕ → ℕ → ℕ
number zero s at = 0
number (suc w) s at = number w s at * 256 + get_or s (at + w) 0

-- the mark `KTR`
abbrev pub mark : List ℕ
mark = 0x4B ∷ 0x54 ∷ 0x52 ∷ []

-- version 1 has a hit ratio for each client, version 2 cachable bytes; "Version 3 is version 2 with a last byte in each record"
abbrev pub first_version : ℕ
first_version = 1

abbrev pub third_version : ℕ
third_version = 3

abbrev pub header_length : ℕ
header_length = 9

abbrev pub version_of : List ℕ → ℕ
version_of s = number 2 s 3

-- n, the node count
abbrev pub count_of : List ℕ → ℕ
count_of s = number 2 s 5

-- k, the budget
abbrev pub budget_of : List ℕ → ℕ
budget_of s = number 2 s 7

-- is the file of version 1?
unfoldable pub has_ratios : List ℕ → Bool
has_ratios s = eqb (version_of s) first_version

-- is it of version 3?
unfoldable pub has_open_bytes : List ℕ → Bool
has_open_bytes s = eqb (version_of s) third_version

-- how many bytes a record has: 10 in version 1, 12 in version 2, 13 in version 3
unfoldable pub record_length : List ℕ → ℕ
record_length s = cond (has_ratios s) 10 (cond (has_open_bytes s) 13 12)

-- where the record of node i begins
abbrev pub record_at : List ℕ → ℕ → ℕ
record_at s i = header_length + record_length s * i

-- ---- the table of a record's fields: the first three, then in version 1 the hit and else the cachable bytes, then in version 3 the
-- last byte

pub record Field : Type 0 where
  pub offset : ℕ
  pub width : ℕ
  pub most : ℕ

-- question 7 judges a parent's number
abbrev pub parent_field : Field
parent_field = record { offset = 0; width = 2; most = most_nodes - 1 }

abbrev pub length_field : Field
length_field = record { offset = 2; width = 2; most = most_length }

abbrev pub flow_field : Field
flow_field = record { offset = 4; width = 4; most = most_flow }

-- the hit ratio, in thousandths
abbrev pub hit_field : Field
hit_field = record { offset = 8; width = 2; most = most_hit }

-- "cachable bytes (4 bytes) where version 1 had the hit": question 17 judges them by the flow, and no flow is larger
abbrev pub cachable_field : Field
cachable_field = record { offset = 8; width = 4; most = most_flow }

-- "a last byte in each record, 1 where a cache may stand and 0 where not"
abbrev pub open_field : Field
open_field = record { offset = 12; width = 1; most = 1 }

abbrev pub field_table : List Field
field_table = parent_field ∷ length_field ∷ flow_field ∷ hit_field ∷ cachable_field ∷ open_field ∷ []

-- a field of the record of node i
unfoldable pub field_of : List ℕ → Field → ℕ → ℕ
field_of s f i = number f.width s (record_at s i + f.offset)

-- ---- what a file holds: the shape of the tree and where a cache may stand, and what its clients ask for

pub record Tree : Type 0 where
  pub count : ℕ
  pub parent : ℕ → ℕ
  -- the length of the link to the parent
  pub link_length : ℕ → ℕ
  -- may a cache stand there?
  pub is_open : ℕ → Bool

-- what of a flow a cache can serve: a hit ratio in thousandths, or cachable bytes
pub data Share : Type 0 where
  ratio : ℕ → Share
  bytes : ℕ → Share

pub record Demand : Type 0 where
  pub flow : ℕ → ℕ
  pub share : ℕ → Share

-- "1 where a cache may stand"; "Versions 1 and 2 count as open throughout."
unfoldable pub open_of : List ℕ → ℕ → Bool
open_of s i = cond (has_open_bytes s) (eqb (field_of s open_field i) 1) true

abbrev pub tree_of : List ℕ → Tree
tree_of s = record { count = count_of s; parent = field_of s parent_field; link_length = field_of s length_field; is_open = open_of s }

unfoldable pub share_of : List ℕ → ℕ → Share
share_of s i = cond (has_ratios s) (ratio (field_of s hit_field i)) (bytes (field_of s cachable_field i))

abbrev pub demand_of : List ℕ → Demand
demand_of s = record { flow = field_of s flow_field; share = share_of s }
