-- `count_row`: counts the row that begins with node v.
use mathlib.Core.Path.{refl}
use native.Mathlib.Omega.{arith}
use lib.ListN.{length-set}
use Rattle.places.proofs.Counting.{record_there, row_fits, widths_changed, counting_turns}
use Rattle.places.proofs.count_row.Goals as goal

pub parent-up-requires : goal.parent-up-requires
parent-up-requires c = record_there c.requires.entries c.requires.v_nonzero.0 c.requires.v_nonzero.1 refl

pub bounds-places-up-2 : goal.bounds-places-up-2
bounds-places-up-2 c =
    rw length-set (omega (arith, row_fits c.requires.entries c.requires.v_nonzero.0 c.requires.v_nonzero.1 c.parent-up.ensures c.requires.rows_counted))

pub returns : goal.returns
returns c =
    let fits = row_fits c.requires.entries c.requires.v_nonzero.0 c.requires.v_nonzero.1 c.parent-up.ensures c.requires.rows_counted in
    counting_turns c.requires.entries c.requires.v_nonzero.0 c.requires.v_nonzero.1 c.parent-up.ensures c.requires.rows_counted
    (widths_changed c.args.places.now c.args.v c.parent-up.result _ _ fits.0 fits.1 refl)
