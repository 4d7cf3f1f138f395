-- Where the record of a node lies.
use Rattle.std.specs.Prelude.{cond, ◌&&◌, ℕ, ltb}
use Rattle.std.specs.Borrow.{u8}
use Rattle.laws.specs.Slices.{Slice, PartOf}
use Rattle.model.specs.File.{count_of, record_at, record_length}
use Rattle.model.specs.Rules.{accepted}

-- "handed back as the ten bytes inside the caller's file, empty if the file is refused or the node is not below n", in version 2
-- "12 bytes" and in version 3 "13 bytes": r is the part of the file at the record's offset, else the empty part at the file's start
unfoldable pub RecordHandedBack : Slice u8 → ℕ → Slice u8 → Type 0
RecordHandedBack file v r =
    cond (accepted file.now && ltb v (count_of file.now)) (PartOf u8 file (record_at file.now v) (record_length file.now) r) (PartOf u8 file 0 0 r)
