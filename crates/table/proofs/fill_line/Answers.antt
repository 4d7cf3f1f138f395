-- `fill_line`: stores the line of v from those of its children and of its later siblings.
use mathlib.Core.Path.{sym, ap, ◌∙◌}
use mathlib.Core.List.{◌++◌}
use native.Mathlib.Omega.{arith}
use lib.ListN.{length, length-append}
use Rattle.table.specs.Table.{line_in}
use Rattle.table.proofs.Reading.{own_place, children_place, siblings_place}
use Rattle.table.proofs.OneLine.{filled_before, first_child_is, next_sibling_is, beside, parts, rest_few, line_few, line_some, line_between, last_fits, last_best, leaf_parts, leaf_fits, leaf_best, line_in_lem}
use Rattle.table.proofs.fill_line.Goals as goal

pub split_at_mut-line-requires : goal.split_at_mut-line-requires
split_at_mut-line-requires c = omega (arith, (line_in_lem c.requires.line_to_fill).inside, length-append c.args.before.now c.args.tail.now)

pub line-cached-requires : goal.line-cached-requires
line-cached-requires c =
    beside c.requires.line_to_fill (first_child_is c.requires.line_to_fill c.requires.child_and_sibling.0)
    c.args.before.now c.split_at_mut-line.result.0.now c.split_at_mut-line.result.1.now (ap (λ l. c.args.before.now ++ l) c.split_at_mut-line.ensures.value) c.requires.line_place (c.split_at_mut-line.ensures.front_len ∙ c.entries-w.ensures) c.entries-w.ensures
    (own_place c.requires.line_to_fill.table c.requires.line_to_fill.served (filled_before c.requires.line_to_fill) c.requires.child_and_sibling.0 c.requires.depth_value) (omega (arith, length-append c.args.before.now c.args.tail.now))

pub line-uncached-requires : goal.line-uncached-requires
line-uncached-requires c =
    beside c.requires.line_to_fill (first_child_is c.requires.line_to_fill c.requires.child_and_sibling.0)
    c.args.before.now c.split_at_mut-line.result.0.now c.split_at_mut-line.result.1.now (ap (λ l. c.args.before.now ++ l) c.split_at_mut-line.ensures.value) c.requires.line_place (c.split_at_mut-line.ensures.front_len ∙ c.entries-w.ensures) c.entries-w.ensures
    (children_place c.requires.line_to_fill.table c.requires.line_to_fill.served (filled_before c.requires.line_to_fill) c.requires.child_and_sibling.0) (omega (arith, length-append c.args.before.now c.args.tail.now))

pub line-rest-requires : goal.line-rest-requires
line-rest-requires c =
    beside c.requires.line_to_fill (next_sibling_is c.requires.line_to_fill c.requires.child_and_sibling.1)
    c.args.before.now c.split_at_mut-line.result.0.now c.split_at_mut-line.result.1.now (ap (λ l. c.args.before.now ++ l) c.split_at_mut-line.ensures.value) c.requires.line_place (c.split_at_mut-line.ensures.front_len ∙ c.entries-w.ensures) c.entries-w.ensures
    (siblings_place c.requires.line_to_fill.table c.requires.line_to_fill.served (filled_before c.requires.line_to_fill) c.requires.child_and_sibling.1) (omega (arith, length-append c.args.before.now c.args.tail.now))

pub invariant_of-node : goal.invariant_of-node
invariant_of-node c = record {
  parts = (parts c.requires.line_to_fill c.requires.child_and_sibling c.requires.depth_value
      (c.line-cached.ensures c.split_at_mut-line.result.0.now c.split_at_mut-line.ensures.front_len ∙ ap (λ l. line_in c.args.places.now (c.args.before.now ++ l) c.args.child c.args.depth) (sym c.split_at_mut-line.ensures.value))
      (c.line-uncached.ensures c.split_at_mut-line.result.0.now c.split_at_mut-line.ensures.front_len ∙ ap (λ l. line_in c.args.places.now (c.args.before.now ++ l) c.args.child c.args.new.a) (sym c.split_at_mut-line.ensures.value))
      (c.line-rest.ensures c.split_at_mut-line.result.0.now c.split_at_mut-line.ensures.front_len ∙ ap (λ l. line_in c.args.places.now (c.args.before.now ++ l) c.args.sibling c.args.new.a) (sym c.split_at_mut-line.ensures.value))).node_parts;
}

pub invariant_of-node-2 : goal.invariant_of-node-2
invariant_of-node-2 c = record {
  parts = (parts c.requires.line_to_fill c.requires.child_and_sibling c.requires.depth_value
      (c.line-cached.ensures c.split_at_mut-line.result.0.now c.split_at_mut-line.ensures.front_len ∙ ap (λ l. line_in c.args.places.now (c.args.before.now ++ l) c.args.child c.args.depth) (sym c.split_at_mut-line.ensures.value))
      (c.line-uncached.ensures c.split_at_mut-line.result.0.now c.split_at_mut-line.ensures.front_len ∙ ap (λ l. line_in c.args.places.now (c.args.before.now ++ l) c.args.child c.args.new.a) (sym c.split_at_mut-line.ensures.value))
      (c.line-rest.ensures c.split_at_mut-line.result.0.now c.split_at_mut-line.ensures.front_len ∙ ap (λ l. line_in c.args.places.now (c.args.before.now ++ l) c.args.sibling c.args.new.a) (sym c.split_at_mut-line.ensures.value))).node_parts;
}

pub own_line-requires : goal.own_line-requires
own_line-requires c = last_fits c.requires.line_to_fill c.requires.child_and_sibling c.requires.depth_value
    (c.line-cached.ensures c.split_at_mut-line.result.0.now c.split_at_mut-line.ensures.front_len ∙ ap (λ l. line_in c.args.places.now (c.args.before.now ++ l) c.args.child c.args.depth) (sym c.split_at_mut-line.ensures.value))
    (c.line-uncached.ensures c.split_at_mut-line.result.0.now c.split_at_mut-line.ensures.front_len ∙ ap (λ l. line_in c.args.places.now (c.args.before.now ++ l) c.args.child c.args.new.a) (sym c.split_at_mut-line.ensures.value))
    (c.line-rest.ensures c.split_at_mut-line.result.0.now c.split_at_mut-line.ensures.front_len ∙ ap (λ l. line_in c.args.places.now (c.args.before.now ++ l) c.args.sibling c.args.new.a) (sym c.split_at_mut-line.ensures.value))
    (omega arith) (c.split_at_mut-line.ensures.front_len ∙ c.entries-w.ensures)

pub returns-then-sibling-eq0 : goal.returns-then-sibling-eq0
returns-then-sibling-eq0 c = line_between c.requires.line_to_fill c.requires.child_and_sibling c.requires.depth_value
    (c.line-cached.ensures c.split_at_mut-line.result.0.now c.split_at_mut-line.ensures.front_len ∙ ap (λ l. line_in c.args.places.now (c.args.before.now ++ l) c.args.child c.args.depth) (sym c.split_at_mut-line.ensures.value))
    (c.line-uncached.ensures c.split_at_mut-line.result.0.now c.split_at_mut-line.ensures.front_len ∙ ap (λ l. line_in c.args.places.now (c.args.before.now ++ l) c.args.child c.args.new.a) (sym c.split_at_mut-line.ensures.value))
    (c.line-rest.ensures c.split_at_mut-line.result.0.now c.split_at_mut-line.ensures.front_len ∙ ap (λ l. line_in c.args.places.now (c.args.before.now ++ l) c.args.sibling c.args.new.a) (sym c.split_at_mut-line.ensures.value))
    c.args.before.now c.split_at_mut-line.result.0.now c.split_at_mut-line.result.1.now (ap (λ l. c.args.before.now ++ l) c.split_at_mut-line.ensures.value) c.requires.line_place (c.split_at_mut-line.ensures.front_len ∙ c.entries-w.ensures)
    (last_best c.requires.line_to_fill c.requires.child_and_sibling c.requires.depth_value
    (c.line-cached.ensures c.split_at_mut-line.result.0.now c.split_at_mut-line.ensures.front_len ∙ ap (λ l. line_in c.args.places.now (c.args.before.now ++ l) c.args.child c.args.depth) (sym c.split_at_mut-line.ensures.value))
    (c.line-uncached.ensures c.split_at_mut-line.result.0.now c.split_at_mut-line.ensures.front_len ∙ ap (λ l. line_in c.args.places.now (c.args.before.now ++ l) c.args.child c.args.new.a) (sym c.split_at_mut-line.ensures.value))
    (c.line-rest.ensures c.split_at_mut-line.result.0.now c.split_at_mut-line.ensures.front_len ∙ ap (λ l. line_in c.args.places.now (c.args.before.now ++ l) c.args.sibling c.args.new.a) (sym c.split_at_mut-line.ensures.value))
    (omega arith) (length c.split_at_mut-line.result.0.now) c.own_line.ensures)

pub fill_leaf-requires : goal.fill_leaf-requires
fill_leaf-requires c = record {
  parts = leaf_parts c.requires.line_to_fill c.requires.child_and_sibling c.requires.depth_value
      (c.line-cached.ensures c.split_at_mut-line.result.0.now c.split_at_mut-line.ensures.front_len ∙ ap (λ l. line_in c.args.places.now (c.args.before.now ++ l) c.args.child c.args.depth) (sym c.split_at_mut-line.ensures.value))
      (c.line-uncached.ensures c.split_at_mut-line.result.0.now c.split_at_mut-line.ensures.front_len ∙ ap (λ l. line_in c.args.places.now (c.args.before.now ++ l) c.args.child c.args.new.a) (sym c.split_at_mut-line.ensures.value))
      (c.line-rest.ensures c.split_at_mut-line.result.0.now c.split_at_mut-line.ensures.front_len ∙ ap (λ l. line_in c.args.places.now (c.args.before.now ++ l) c.args.sibling c.args.new.a) (sym c.split_at_mut-line.ensures.value))
      (omega arith);
  line_in_bounds = leaf_fits c.requires.line_to_fill c.requires.child_and_sibling c.requires.depth_value
      (c.line-cached.ensures c.split_at_mut-line.result.0.now c.split_at_mut-line.ensures.front_len ∙ ap (λ l. line_in c.args.places.now (c.args.before.now ++ l) c.args.child c.args.depth) (sym c.split_at_mut-line.ensures.value))
      (c.line-uncached.ensures c.split_at_mut-line.result.0.now c.split_at_mut-line.ensures.front_len ∙ ap (λ l. line_in c.args.places.now (c.args.before.now ++ l) c.args.child c.args.new.a) (sym c.split_at_mut-line.ensures.value))
      (c.line-rest.ensures c.split_at_mut-line.result.0.now c.split_at_mut-line.ensures.front_len ∙ ap (λ l. line_in c.args.places.now (c.args.before.now ++ l) c.args.sibling c.args.new.a) (sym c.split_at_mut-line.ensures.value))
      (omega arith) (c.split_at_mut-line.ensures.front_len ∙ c.entries-w.ensures);
}

pub returns-then-child-eq0 : goal.returns-then-child-eq0
returns-then-child-eq0 c = line_between c.requires.line_to_fill c.requires.child_and_sibling c.requires.depth_value
    (c.line-cached.ensures c.split_at_mut-line.result.0.now c.split_at_mut-line.ensures.front_len ∙ ap (λ l. line_in c.args.places.now (c.args.before.now ++ l) c.args.child c.args.depth) (sym c.split_at_mut-line.ensures.value))
    (c.line-uncached.ensures c.split_at_mut-line.result.0.now c.split_at_mut-line.ensures.front_len ∙ ap (λ l. line_in c.args.places.now (c.args.before.now ++ l) c.args.child c.args.new.a) (sym c.split_at_mut-line.ensures.value))
    (c.line-rest.ensures c.split_at_mut-line.result.0.now c.split_at_mut-line.ensures.front_len ∙ ap (λ l. line_in c.args.places.now (c.args.before.now ++ l) c.args.sibling c.args.new.a) (sym c.split_at_mut-line.ensures.value))
    c.args.before.now c.split_at_mut-line.result.0.now c.split_at_mut-line.result.1.now (ap (λ l. c.args.before.now ++ l) c.split_at_mut-line.ensures.value) c.requires.line_place (c.split_at_mut-line.ensures.front_len ∙ c.entries-w.ensures)
    (leaf_best c.requires.line_to_fill c.requires.child_and_sibling c.requires.depth_value
    (c.line-cached.ensures c.split_at_mut-line.result.0.now c.split_at_mut-line.ensures.front_len ∙ ap (λ l. line_in c.args.places.now (c.args.before.now ++ l) c.args.child c.args.depth) (sym c.split_at_mut-line.ensures.value))
    (c.line-uncached.ensures c.split_at_mut-line.result.0.now c.split_at_mut-line.ensures.front_len ∙ ap (λ l. line_in c.args.places.now (c.args.before.now ++ l) c.args.child c.args.new.a) (sym c.split_at_mut-line.ensures.value))
    (c.line-rest.ensures c.split_at_mut-line.result.0.now c.split_at_mut-line.ensures.front_len ∙ ap (λ l. line_in c.args.places.now (c.args.before.now ++ l) c.args.sibling c.args.new.a) (sym c.split_at_mut-line.ensures.value))
    (omega arith) (length c.split_at_mut-line.result.0.now) c.fill_leaf.ensures)

pub fill_joined-requires : goal.fill_joined-requires
fill_joined-requires c = record {
  rest_line = (parts c.requires.line_to_fill c.requires.child_and_sibling c.requires.depth_value
      (c.line-cached.ensures c.split_at_mut-line.result.0.now c.split_at_mut-line.ensures.front_len ∙ ap (λ l. line_in c.args.places.now (c.args.before.now ++ l) c.args.child c.args.depth) (sym c.split_at_mut-line.ensures.value))
      (c.line-uncached.ensures c.split_at_mut-line.result.0.now c.split_at_mut-line.ensures.front_len ∙ ap (λ l. line_in c.args.places.now (c.args.before.now ++ l) c.args.child c.args.new.a) (sym c.split_at_mut-line.ensures.value))
      (c.line-rest.ensures c.split_at_mut-line.result.0.now c.split_at_mut-line.ensures.front_len ∙ ap (λ l. line_in c.args.places.now (c.args.before.now ++ l) c.args.sibling c.args.new.a) (sym c.split_at_mut-line.ensures.value))).rest_line;
  line_in_bounds = (
    line_some c.requires.line_to_fill (c.split_at_mut-line.ensures.front_len ∙ c.entries-w.ensures),
    rest_few c.requires.line_to_fill c.requires.child_and_sibling c.requires.depth_value
        (c.line-cached.ensures c.split_at_mut-line.result.0.now c.split_at_mut-line.ensures.front_len ∙ ap (λ l. line_in c.args.places.now (c.args.before.now ++ l) c.args.child c.args.depth) (sym c.split_at_mut-line.ensures.value))
        (c.line-uncached.ensures c.split_at_mut-line.result.0.now c.split_at_mut-line.ensures.front_len ∙ ap (λ l. line_in c.args.places.now (c.args.before.now ++ l) c.args.child c.args.new.a) (sym c.split_at_mut-line.ensures.value))
        (c.line-rest.ensures c.split_at_mut-line.result.0.now c.split_at_mut-line.ensures.front_len ∙ ap (λ l. line_in c.args.places.now (c.args.before.now ++ l) c.args.sibling c.args.new.a) (sym c.split_at_mut-line.ensures.value)) (c.split_at_mut-line.ensures.front_len ∙ c.entries-w.ensures),
    line_few c.requires.line_to_fill (c.split_at_mut-line.ensures.front_len ∙ c.entries-w.ensures),
  );
}

pub returns : goal.returns
returns c = line_between c.requires.line_to_fill c.requires.child_and_sibling c.requires.depth_value
    (c.line-cached.ensures c.split_at_mut-line.result.0.now c.split_at_mut-line.ensures.front_len ∙ ap (λ l. line_in c.args.places.now (c.args.before.now ++ l) c.args.child c.args.depth) (sym c.split_at_mut-line.ensures.value))
    (c.line-uncached.ensures c.split_at_mut-line.result.0.now c.split_at_mut-line.ensures.front_len ∙ ap (λ l. line_in c.args.places.now (c.args.before.now ++ l) c.args.child c.args.new.a) (sym c.split_at_mut-line.ensures.value))
    (c.line-rest.ensures c.split_at_mut-line.result.0.now c.split_at_mut-line.ensures.front_len ∙ ap (λ l. line_in c.args.places.now (c.args.before.now ++ l) c.args.sibling c.args.new.a) (sym c.split_at_mut-line.ensures.value))
    c.args.before.now c.split_at_mut-line.result.0.now c.split_at_mut-line.result.1.now (ap (λ l. c.args.before.now ++ l) c.split_at_mut-line.ensures.value) c.requires.line_place (c.split_at_mut-line.ensures.front_len ∙ c.entries-w.ensures)
    c.fill_joined.ensures
