-- What the load above a node is made of: the loads above its children, and what a cache leaves of a flow.
use Rattle.std.specs.Prelude.{Bool, ℕ, ◌-◌, eqb}
use Rattle.model.specs.File.{Tree, Demand}
use Rattle.model.specs.Bill.{whole, cachable}

-- is the site u a child of v? (Node 0 is no site; its own parent field is 0.)
abbrev pub child_of : Tree → ℕ → ℕ → Bool
child_of t v u = eqb (t.parent u) v

-- what the client at c sends over a link once a cache has served it: the part that is not cachable
abbrev pub relieved : Demand → ℕ → ℕ
relieved d c = whole d c - cachable d c
