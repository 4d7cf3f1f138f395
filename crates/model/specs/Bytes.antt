-- The bytes of a tree file of version 1, as they are written: numbers, the header, and a record.
use Rattle.std.specs.Prelude.{List, [], ◌∷◌, ◌++◌, ℕ, zero, suc, ◌/◌, ◌%◌}
use Rattle.model.specs.File.{mark, first_version}

-- x in w bytes, most significant first
unfoldable pub bytes_of : ℕ → ℕ → List ℕ
bytes_of zero x = []
bytes_of (suc w) x = bytes_of w (x / 256) ++ (x % 256 ∷ [])

-- mark, version, n and k
unfoldable pub header_bytes : ℕ → ℕ → List ℕ
header_bytes n k = mark ++ bytes_of 2 first_version ++ bytes_of 2 n ++ bytes_of 2 k

-- parent, length, flow, hit
unfoldable pub record_of : ℕ → ℕ → ℕ → ℕ → List ℕ
record_of p l f h = bytes_of 2 p ++ bytes_of 2 l ++ bytes_of 4 f ++ bytes_of 2 h
