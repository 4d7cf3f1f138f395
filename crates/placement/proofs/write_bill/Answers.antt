-- `write_bill`: writes the serving nodes and the loads of a set, and gives its total.
use native.Mathlib.Omega.{arith}
use Rattle.placement.proofs.Turns.{children_begin}
use Rattle.placement.proofs.Written.{loads_long_lem, links_bounded, bill_written}
use Rattle.placement.proofs.write_bill.Goals as goal

pub row-requires : goal.row-requires
row-requires c = record {
  loads_long = c.requires.walkable.loads_long;
  begins = children_begin c.requires.walkable 0 (omega (arith, c.requires.billable.of_file.nodes, c.requires.billable.of_file.sound.some));
}

pub links_total-requires : goal.links_total-requires
links_total-requires c = record {
  accepted_file = (c.requires.billable.of_file, loads_long_lem c.requires.billable c.requires.walkable c.write_servings.ensures c.row.ensures c.row.auto.loads);
  n_bound = links_bounded c.requires.billable c.requires.walkable c.write_servings.ensures c.row.ensures;
}

pub returns : goal.returns
returns c = bill_written c.requires.billable c.requires.walkable c.write_servings.ensures c.row.ensures c.links_total.ensures
