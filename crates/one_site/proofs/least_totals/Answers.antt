-- `least_totals`: the least totals with the node and without it; the latter alone where no set contains the node.
use mathlib.Core.Path.{sym, ◌∙◌}
use Rattle.laws.proofs.Fronts.{front_only_then}
use Rattle.table.specs.Table.{TableRoom}
use Rattle.table.proofs.Room.{table_room_lem, room_kept}
use Rattle.one_site.proofs.Least.{some_without, some_with, both_are, without_alone}
use Rattle.one_site.proofs.least_totals.Goals as goal

pub least_where-without-requires : goal.least_where-without-requires
least_where-without-requires c = record {
  table_room = table_room_lem c.requires.lent_room.of_file c.requires.lent_room.room c.note_places.ensures.places;
  asked_site = c.requires.asked_site;
  some_set = some_without c.requires.asked_site;
}

pub returns-then-not-has_set : goal.returns-then-not-has_set
returns-then-not-has_set c = record {
  result_value = without_alone c.requires.asked_site c.least_where-without.ensures.least_where (sym c.has_set.ensures ∙ c.if-not-has_set.true);
  front_only = c.least_where-without.ensures.front_only;
}

pub least_where-with-requires : goal.least_where-with-requires
least_where-with-requires c =
    let room : TableRoom c.args.file.now c.note_places.new.places c.args.scratch.now =
    table_room_lem c.requires.lent_room.of_file c.requires.lent_room.room c.note_places.ensures.places in
    record {
      table_room = room_kept room c.least_where-without.ensures.front_only.long;
      asked_site = c.requires.asked_site;
      some_set = some_with c.requires.asked_site (sym c.has_set.ensures ∙ c.if-not-has_set.false);
    }

pub returns : goal.returns
returns c = record {
  result_value = both_are c.requires.asked_site c.least_where-without.ensures.least_where c.least_where-with.ensures.least_where;
  front_only = front_only_then _ c.least_where-without.ensures.front_only c.least_where-with.ensures.front_only;
}
