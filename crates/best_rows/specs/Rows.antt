-- Rows of siblings and choices of caches on them: what a choice counts, what it costs, and which of two comes first.
use Rattle.std.specs.Prelude.{◌≡◌, Bool, cond, not, List, [], ◌∷◌, ◌++◌, ℕ, ◌+◌, ◌≤◌}
use Rattle.laws.specs.Lists.{has}

-- empty, or a first node, by its number, with the row of its children and the row of its later siblings
pub data Row : Type 0 where
  empty : Row
  node : ℕ → Row → Row → Row

-- a choice of caches on a row: whether each of its nodes is a member
abbrev pub Choice : Row → Type 0
Choice empty = Unit {0}
Choice (node v a b) = Bool × Choice a × Choice b

-- the nodes of a row in order, in front of a list
unfoldable pub row_nodes : Row → List ℕ → List ℕ
row_nodes empty l = l
row_nodes (node v a b) l = v ∷ row_nodes a (row_nodes b l)

-- how many nodes it has
unfoldable pub row_size : Row → ℕ
row_size empty = 0
row_size (node v a b) = 1 + row_size a + row_size b

-- the choice of a set's nodes
unfoldable pub choice_of : List ℕ → (r : Row) → Choice r
choice_of k empty = tt
choice_of k (node v a b) = (has k v, choice_of k a, choice_of k b)

-- the node itself, if it is a member
abbrev pub if_member : Bool → ℕ → List ℕ
if_member u v = cond u (v ∷ []) []

-- the members in order
unfoldable pub chosen : (r : Row) → Choice r → List ℕ
chosen empty x = []
chosen (node v a b) x = if_member x.0 v ++ chosen a x.1 ++ chosen b x.2

-- what a choice counts, where node v counts for w v u if its own choice is u
unfoldable pub row_count : (ℕ → Bool → ℕ) → (r : Row) → Choice r → ℕ
row_count w empty x = 0
row_count w (node v a b) x = w v x.0 + row_count w a x.1 + row_count w b x.2

-- the costs at a node, by the context that it meets from above and its own choice: what it pays, and the context that its
-- children meet
pub record Site (C : Type 0) : Type 0 where
  pub pay : C → Bool → ℕ
  pub down : C → Bool → C

-- what a choice costs
unfoldable pub row_cost : {C : Type 0} → (ℕ → Site C) → (r : Row) → C → Choice r → ℕ
row_cost s empty c x = 0
row_cost s (node v a b) c x = (s v).pay c x.0 + row_cost s a ((s v).down c x.0) x.1 + row_cost s b c x.2

-- 1 for the preferred choice p, 0 for the other
abbrev pub favour : Bool → Bool → ℕ
favour p u = cond (cond p u (not u)) 1 0

-- x comes before y in the order of ties, or is like y and `rest` holds: node by node, the choice that counts more at or below
-- the node comes first, then the one with the node's own choice p
abbrev pub Before : (ℕ → Bool → ℕ) → Bool → (r : Row) → Choice r → Choice r → Type 0 → Type 0
Before w p empty x y rest = rest
Before w p (node v a b) x y rest =
    (w v y.0 + row_count w a y.1 ≤ w v x.0 + row_count w a x.1)
    × (w v x.0 + row_count w a x.1 ≡ w v y.0 + row_count w a y.1
    → (favour p y.0 ≤ favour p x.0) × (x.0 ≡ y.0 → Before w p a x.1 y.1 (Before w p b x.2 y.2 rest)))

-- x ranks no later than y: by cost, then by count, then in the order of ties
abbrev pub RanksNoLater : {C : Type 0} → (ℕ → Bool → ℕ) → Bool → (ℕ → Site C) → (r : Row) → C → Choice r → Choice r → Type 0
RanksNoLater w p s r c x y =
    (row_cost s r c x ≤ row_cost s r c y)
    × (row_cost s r c x ≡ row_cost s r c y
    → (row_count w r x ≤ row_count w r y) × (row_count w r x ≡ row_count w r y → Before w p r x y (Unit {0})))
