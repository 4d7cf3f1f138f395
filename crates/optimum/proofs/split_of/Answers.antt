-- `split_of`: how the m caches of the row that begins with x split, where `serving` is the serving node above it.
use mathlib.Core.Path.{◌≡◌}
use mathlib.Core.Bool.{true, false}
use Prim.Native.Nat.{◌+◌}
use native.Mathlib.Omega.{arith}
use Rattle.model.specs.File.{tree_of, demand_of, budget_of}
use Rattle.best_rows.specs.Guarded.{may_be}
use Rattle.best_rows.specs.BestAt.{pay_at, children_at, siblings_at}
use Rattle.lines.specs.Line.{LinesHoldBest}
use Rattle.node_words.proofs.Words.{room_record}
use Rattle.table.specs.Table.{Served}
use Rattle.table.proofs.Lines.{pays_itself_lem, pays_above}
use Rattle.table.proofs.Room.{room_place}
use Rattle.table.proofs.Reading.{served_room, children_place, own_place, siblings_place, served_itself, served_above_it, lines_hold_best}
use Rattle.optimum.proofs.Splits.{split_served, split_parts, split_least, split_later, split_fits, split_none, split_member}
use Rattle.optimum.proofs.split_of.Goals as goal

pub child_of-child-requires : goal.child_of-child-requires
child_of-child-requires c =
    let served : Served (tree_of c.args.file.now) c.args.x c.args.above c.args.serving = split_served c.requires.row_to_split c.requires.above_value in
    served_room c.requires.row_to_split.table served

pub depth_word-requires : goal.depth_word-requires
depth_word-requires c =
    let served : Served (tree_of c.args.file.now) c.args.x c.args.above c.args.serving = split_served c.requires.row_to_split c.requires.above_value in
    served_room c.requires.row_to_split.table served

pub line-cached-requires : goal.line-cached-requires
line-cached-requires c =
    let served : Served (tree_of c.args.file.now) c.args.x c.args.above c.args.serving = split_served c.requires.row_to_split c.requires.above_value in
    own_place c.requires.row_to_split.table served (omega arith) c.child_of-child.ensures c.depth_word.ensures

pub line-uncached-requires : goal.line-uncached-requires
line-uncached-requires c =
    let served : Served (tree_of c.args.file.now) c.args.x c.args.above c.args.serving = split_served c.requires.row_to_split c.requires.above_value in
    children_place c.requires.row_to_split.table served (omega arith) c.child_of-child.ensures

pub sibling_of-sibling-requires : goal.sibling_of-sibling-requires
sibling_of-sibling-requires c =
    let served : Served (tree_of c.args.file.now) c.args.x c.args.above c.args.serving = split_served c.requires.row_to_split c.requires.above_value in
    served_room c.requires.row_to_split.table served

pub line-rest-requires : goal.line-rest-requires
line-rest-requires c =
    let served : Served (tree_of c.args.file.now) c.args.x c.args.above c.args.serving = split_served c.requires.row_to_split c.requires.above_value in
    siblings_place c.requires.row_to_split.table served (omega arith) c.sibling_of-sibling.ensures

pub line-requires : goal.line-requires
line-requires c =
    let served : Served (tree_of c.args.file.now) c.args.x c.args.above c.args.serving = split_served c.requires.row_to_split c.requires.above_value in
    room_place c.requires.row_to_split.table.stored.room c.args.x c.args.above served.node (λ _. served.above)

pub cachable-part-requires : goal.cachable-part-requires
cachable-part-requires c =
    let served : Served (tree_of c.args.file.now) c.args.x c.args.above c.args.serving = split_served c.requires.row_to_split c.requires.above_value in
    let client = served_itself c.requires.row_to_split.table served in
    room_record client.nodes client.node

pub pays_itself-member-requires : goal.pays_itself-member-requires
pays_itself-member-requires c =
    let served : Served (tree_of c.args.file.now) c.args.x c.args.above c.args.serving = split_served c.requires.row_to_split c.requires.above_value in
    record {
      client = served_itself c.requires.row_to_split.table served;
      part_value = c.cachable-part.ensures;
    }

pub pays-other-requires : goal.pays-other-requires
pays-other-requires c =
    let served : Served (tree_of c.args.file.now) c.args.x c.args.above c.args.serving = split_served c.requires.row_to_split c.requires.above_value in
    record {
      client = served_above_it c.requires.row_to_split.table served;
      part_value = c.cachable-part.ensures;
    }

pub later-later-requires : goal.later-later-requires
later-later-requires c =
    let served : Served (tree_of c.args.file.now) c.args.x c.args.above c.args.serving = split_served c.requires.row_to_split c.requires.above_value in
    let held : let t = tree_of c.args.file.now in
    let d = demand_of c.args.file.now in
    LinesHoldBest (budget_of c.args.file.now + 1) (children_at t d (may_be t) c.args.x c.args.serving) (siblings_at t d (may_be t) c.args.x c.args.serving) c.line-cached.result.now c.line-uncached.result.now c.line-rest.result.now = lines_hold_best c.requires.row_to_split.table served (omega arith) c.child_of-child.ensures c.sibling_of-sibling.ensures c.depth_word.ensures
    c.line-cached.ensures c.line-uncached.ensures c.line-rest.ensures in
    let pays_own : let t = tree_of c.args.file.now in
    c.pays_itself-member.result.0 ≡ pay_at t (demand_of c.args.file.now) (may_be t) c.args.x c.args.serving true = pays_itself_lem _ _ _ c.args.serving c.pays_itself-member.ensures in
    let pays_other : let t = tree_of c.args.file.now in
    c.pays-other.result.0 ≡ pay_at t (demand_of c.args.file.now) (may_be t) c.args.x c.args.serving false = pays_above _ _ _ _ c.pays-other.ensures in
    record {
      rest_line = (split_parts c.requires.row_to_split served held pays_own pays_other).rest_line;
      least_value = split_least c.requires.row_to_split served held pays_own pays_other c.line.ensures c.entry-least.ensures;
    }

pub returns-then-m-later : goal.returns-then-m-later
returns-then-m-later c =
    let served : Served (tree_of c.args.file.now) c.args.x c.args.above c.args.serving = split_served c.requires.row_to_split c.requires.above_value in
    let held : let t = tree_of c.args.file.now in
    let d = demand_of c.args.file.now in
    LinesHoldBest (budget_of c.args.file.now + 1) (children_at t d (may_be t) c.args.x c.args.serving) (siblings_at t d (may_be t) c.args.x c.args.serving) c.line-cached.result.now c.line-uncached.result.now c.line-rest.result.now = lines_hold_best c.requires.row_to_split.table served (omega arith) c.child_of-child.ensures c.sibling_of-sibling.ensures c.depth_word.ensures
    c.line-cached.ensures c.line-uncached.ensures c.line-rest.ensures in
    let pays_own : let t = tree_of c.args.file.now in
    c.pays_itself-member.result.0 ≡ pay_at t (demand_of c.args.file.now) (may_be t) c.args.x c.args.serving true = pays_itself_lem _ _ _ c.args.serving c.pays_itself-member.ensures in
    let pays_other : let t = tree_of c.args.file.now in
    c.pays-other.result.0 ≡ pay_at t (demand_of c.args.file.now) (may_be t) c.args.x c.args.serving false = pays_above _ _ _ _ c.pays-other.ensures in
    record {
      later_value = split_later c.requires.row_to_split served held pays_own pays_other c.later-later.ensures;
      member_value = split_none c.requires.row_to_split served held pays_own pays_other c.later-later.ensures c.if-m-later.true;
    }

pub overflow_sub-m : goal.overflow_sub-m
overflow_sub-m c =
    let served : Served (tree_of c.args.file.now) c.args.x c.args.above c.args.serving = split_served c.requires.row_to_split c.requires.above_value in
    let held : let t = tree_of c.args.file.now in
    let d = demand_of c.args.file.now in
    LinesHoldBest (budget_of c.args.file.now + 1) (children_at t d (may_be t) c.args.x c.args.serving) (siblings_at t d (may_be t) c.args.x c.args.serving) c.line-cached.result.now c.line-uncached.result.now c.line-rest.result.now = lines_hold_best c.requires.row_to_split.table served (omega arith) c.child_of-child.ensures c.sibling_of-sibling.ensures c.depth_word.ensures
    c.line-cached.ensures c.line-uncached.ensures c.line-rest.ensures in
    let pays_own : let t = tree_of c.args.file.now in
    c.pays_itself-member.result.0 ≡ pay_at t (demand_of c.args.file.now) (may_be t) c.args.x c.args.serving true = pays_itself_lem _ _ _ c.args.serving c.pays_itself-member.ensures in
    let pays_other : let t = tree_of c.args.file.now in
    c.pays-other.result.0 ≡ pay_at t (demand_of c.args.file.now) (may_be t) c.args.x c.args.serving false = pays_above _ _ _ _ c.pays-other.ensures in
    split_fits c.requires.row_to_split served held pays_own pays_other c.later-later.ensures

pub invariant_of-node : goal.invariant_of-node
invariant_of-node c =
    let served : Served (tree_of c.args.file.now) c.args.x c.args.above c.args.serving = split_served c.requires.row_to_split c.requires.above_value in
    let held : let t = tree_of c.args.file.now in
    let d = demand_of c.args.file.now in
    LinesHoldBest (budget_of c.args.file.now + 1) (children_at t d (may_be t) c.args.x c.args.serving) (siblings_at t d (may_be t) c.args.x c.args.serving) c.line-cached.result.now c.line-uncached.result.now c.line-rest.result.now = lines_hold_best c.requires.row_to_split.table served (omega arith) c.child_of-child.ensures c.sibling_of-sibling.ensures c.depth_word.ensures
    c.line-cached.ensures c.line-uncached.ensures c.line-rest.ensures in
    let pays_own : let t = tree_of c.args.file.now in
    c.pays_itself-member.result.0 ≡ pay_at t (demand_of c.args.file.now) (may_be t) c.args.x c.args.serving true = pays_itself_lem _ _ _ c.args.serving c.pays_itself-member.ensures in
    let pays_other : let t = tree_of c.args.file.now in
    c.pays-other.result.0 ≡ pay_at t (demand_of c.args.file.now) (may_be t) c.args.x c.args.serving false = pays_above _ _ _ _ c.pays-other.ensures in
    record { parts = (split_parts c.requires.row_to_split served held pays_own pays_other).node_parts }

pub returns : goal.returns
returns c =
    let served : Served (tree_of c.args.file.now) c.args.x c.args.above c.args.serving = split_served c.requires.row_to_split c.requires.above_value in
    let held : let t = tree_of c.args.file.now in
    let d = demand_of c.args.file.now in
    LinesHoldBest (budget_of c.args.file.now + 1) (children_at t d (may_be t) c.args.x c.args.serving) (siblings_at t d (may_be t) c.args.x c.args.serving) c.line-cached.result.now c.line-uncached.result.now c.line-rest.result.now = lines_hold_best c.requires.row_to_split.table served (omega arith) c.child_of-child.ensures c.sibling_of-sibling.ensures c.depth_word.ensures
    c.line-cached.ensures c.line-uncached.ensures c.line-rest.ensures in
    let pays_own : let t = tree_of c.args.file.now in
    c.pays_itself-member.result.0 ≡ pay_at t (demand_of c.args.file.now) (may_be t) c.args.x c.args.serving true = pays_itself_lem _ _ _ c.args.serving c.pays_itself-member.ensures in
    let pays_other : let t = tree_of c.args.file.now in
    c.pays-other.result.0 ≡ pay_at t (demand_of c.args.file.now) (may_be t) c.args.x c.args.serving false = pays_above _ _ _ _ c.pays-other.ensures in
    record {
      later_value = split_later c.requires.row_to_split served held pays_own pays_other c.later-later.ensures;
      member_value = split_member c.requires.row_to_split served held pays_own pays_other c.later-later.ensures c.takes.ensures;
    }
