-- `put_nodes`: appends the nodes of a row.
use Prim.Native.Nat.{◌*◌}
use lib.ListN.{take}
use Rattle.laws.specs.Lists.{those}
use Rattle.report_text.specs.Lines.{words, is_node, word_room, AppendedWithin}
use Rattle.report_text.proofs.put_nodes.Given as goal

abbrev pub invariant-loop-entry : goal.invariant-loop-entry
invariant-loop-entry l = AppendedWithin (l.entry-index * word_room) l.at (words (those is_node (take l.entry-index l.row))) l.initial.text l.text l.end
