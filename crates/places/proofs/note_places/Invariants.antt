-- `note_places`: stores the places of the lines of an accepted file, and returns where they end.
use mathlib.Core.List.{◌∷◌}
use Prim.Native.Nat.{suc}
use Rattle.places.proofs.Placing.{server, Placing}
use Rattle.places.proofs.note_places.Given as goal

abbrev pub invariant-loop-node : goal.invariant-loop-node
invariant-loop-node l = Placing l.file l.tree (server ∷ l.node-items) (suc l.node-index) l.end
