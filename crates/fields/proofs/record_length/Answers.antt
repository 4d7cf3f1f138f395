-- `record_length`: how many bytes a record of a version has.
use mathlib.Core.Path.{sym}
use native.Mathlib.Omega.{arith}
use borrow.Author.Tests.{eq-eqb, ne_eqb}
use Rattle.model.specs.File.{first_version, third_version, version_of, has_ratios, has_open_bytes}
use Rattle.model.proofs.Accepted.{ratio_record, bytes_record, open_record}
use Rattle.fields.proofs.record_length.Goals as goal

pub returns-then-version-eq-FIRST_VERSION : goal.returns-then-version-eq-FIRST_VERSION
unfolding has_ratios
returns-then-version-eq-FIRST_VERSION c file e = sym (ratio_record file (eq-eqb (version_of file) first_version (omega arith)))

pub returns-then-version-eq-THIRD_VERSION : goal.returns-then-version-eq-THIRD_VERSION
unfolding has_ratios has_open_bytes
returns-then-version-eq-THIRD_VERSION c file e =
    sym (open_record file (ne_eqb (version_of file) first_version (λ f. omega arith)) (eq-eqb (version_of file) third_version (omega arith)))

pub returns : goal.returns
unfolding has_ratios has_open_bytes
returns c file e =
    sym (bytes_record file (ne_eqb (version_of file) first_version (λ f. omega arith)) (ne_eqb (version_of file) third_version (λ f. omega arith)))
