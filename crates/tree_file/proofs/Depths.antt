-- The depths kept of the nodes before a node: one more at each turn, and the node's own from its parent's.
use mathlib.Core.Path.{◌≡◌, ap}
use mathlib.Core.List.{List}
use Prim.Native.Nat.{ℕ, ◌+◌, ◌<◌}
use native.Mathlib.Omega.{arith}
use lib.ListN.{length, get_or, set, length-set}
use Rattle.laws.proofs.FrontValues.{entries_next}
use Rattle.model.specs.File.{Tree, tree_of, most_nodes}
use Rattle.model.specs.Tree.{depth}
use Rattle.model.proofs.Depths.{route_length, depth_server, depth_within_number}
use Rattle.tree_file.specs.Checks.{Climbable, DepthsTo}
use Rattle.tree_file.proofs.Climbs.{climb_begins, parent_less, route_turns}

module _ (t : Tree) where
  pub depths_begin : (depths : List ℕ) → most_nodes ≡ length depths → DepthsTo t depths 0
  depths_begin depths h = record { room = h; entry = λ u l. absurd (omega arith) }

  pub depths_turn : (depths : List ℕ) (v x : ℕ) → DepthsTo t depths v → v < most_nodes → x ≡ depth t v → DepthsTo t (set depths v x) (v + 1)
  depths_turn depths v x k h e =
      record {
        room = rw (length-set depths v x) k.room;
        entry = entries_next (depth t) depths v x k.entry (omega (arith, k.room)) e;
      }

  pub server_depth : (v : ℕ) → v ≡ 0 → 0 ≡ depth t v
  server_depth v z = rw (z, depth_server t)

-- a node other than the server, with its parent p
module _ (file : List ℕ) (v p : ℕ) (r : Climbable file v) (z : v ≡ 0 → ⊥) (e : p ≡ (tree_of file).parent v) where
  pub parent_first_lem : p < v
  parent_first_lem = parent_less file v v p (climb_begins file v r) z e

  module _ (depths : List ℕ) (k : DepthsTo (tree_of file) depths v) where
    pub one_deeper : get_or depths p 0 + 1 ≡ depth (tree_of file) v
    one_deeper =
        omega (arith, k.entry p parent_first_lem, ap length (route_turns file v v p (climb_begins file v r) z e), route_length (tree_of file) v, route_length (tree_of file) p)

    pub depth_small : get_or depths p 0 + 1 < most_nodes
    depth_small = omega (arith, one_deeper, depth_within_number (tree_of file) v, r.here.node)
