-- The sizes of a file and the record of a node, by the verdict on the file.
use mathlib.Core.Path.{◌≡◌}
use mathlib.Core.List.{List}
use Prim.Native.Nat.{ℕ, ◌≤◌, ◌<◌}
use denote.Builtin.{u8}
use borrow.Author.Tests.{lt-ltb, le-ltb}
use Rattle.laws.specs.Slices.{Slice, PartOf}
use Rattle.model.specs.File.{tree_of, count_of, budget_of, record_at, record_length}
use Rattle.model.specs.Tree.{height}
use Rattle.model.specs.Rules.{passed, broken, file_verdict, accepted}
use Rattle.model.specs.Calls.{answered, answer, record_bytes}
use Rattle.fields.specs.declared.Tree as code
use Rattle.tree_file.specs.Checks.{sizes_of}
use Rattle.tree_file.specs.Places.{RecordHandedBack}

module _ (file : List ℕ) where
  pub sizes_answered : (sizes : code.Tree) → passed ≡ file_verdict file → sizes.nodes ≡ count_of file → sizes.budget ≡ budget_of file
      → sizes.height ≡ height (tree_of file) → answered sizes ≡ answer (file_verdict file) (sizes_of file)
  sizes_answered sizes e n b h = rw (← e) (λ i. answered (record { nodes = n i; budget = b i; height = h i }))

-- what the record call guarantees where r is handed back
abbrev RecordOwed : Slice u8 → ℕ → Slice u8 → Type 0
RecordOwed file v r = (r.now ≡ record_bytes file.now v) × RecordHandedBack file v r

module _ (file : Slice u8) (v : ℕ) {r : Slice u8} where
  pub record_here : passed ≡ file_verdict file.now → v < count_of file.now → PartOf u8 file (record_at file.now v) (record_length file.now) r → RecordOwed file v r
  unfolding record_bytes accepted RecordHandedBack
  record_here e h p = rw (← e, lt-ltb v (count_of file.now) h) (p.entries, p)

  pub record_beyond : passed ≡ file_verdict file.now → count_of file.now ≤ v → PartOf u8 file 0 0 r → RecordOwed file v r
  unfolding record_bytes accepted RecordHandedBack
  record_beyond e h p = rw (← e, le-ltb v (count_of file.now) h) (p.entries, p)

  pub record_refused_lem : (q i : ℕ) → broken q i ≡ file_verdict file.now → PartOf u8 file 0 0 r → RecordOwed file v r
  unfolding record_bytes accepted RecordHandedBack
  record_refused_lem q i e p = rw (← e) (p.entries, p)
