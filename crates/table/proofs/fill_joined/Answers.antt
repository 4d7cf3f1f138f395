-- `fill_joined`: stores the line of v from that of v and its children, made in local memory, and that of its later siblings.
use mathlib.Core.Path.{◌∙◌}
use native.Mathlib.Omega.{arith}
use Rattle.lines.specs.Line.{LineParts, line_own}
use Rattle.lines.proofs.Row.{row_parts_lem, row_is_line}
use Rattle.table.proofs.OneLine.{own_front}
use Rattle.table.proofs.fill_joined.Goals as goal

pub row_line-requires : goal.row_line-requires
row_line-requires c = let at = c.args.node.now in
    let parts : LineParts at.cached.now at.uncached.now c.args.rest.now at.member.0 at.other.0 = record { node_parts = at.parts; rest_line = c.requires.rest_line } in
    let front = own_front (line_own at.cached.now at.uncached.now at.member.0 at.other.0) _ _ c.min-own.result (omega (arith, c.requires.line_in_bounds)) c.own_line.ensures in
    row_parts_lem parts c.requires.line_in_bounds.0 c.requires.line_in_bounds.1 c.min-own.ensures front

pub returns : goal.returns
returns c = let at = c.args.node.now in
    let parts : LineParts at.cached.now at.uncached.now c.args.rest.now at.member.0 at.other.0 = record { node_parts = at.parts; rest_line = c.requires.rest_line } in
    let front = own_front (line_own at.cached.now at.uncached.now at.member.0 at.other.0) _ _ c.min-own.result (omega (arith, c.requires.line_in_bounds)) c.own_line.ensures in
    c.row_line.ensures ∙ row_is_line parts c.requires.line_in_bounds.0 c.requires.line_in_bounds.1 c.min-own.ensures front
