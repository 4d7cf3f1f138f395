-- Laws of statements.
use mathlib.Core.Logic.{◌↔◌, ◌⊎◌, ⊎_map}

-- what is left after a first case, said in other words
pub rest_said : {A B C D : Type 0} → C ↔ D → (A ⊎ (B × C)) ↔ (A ⊎ (B × D))
rest_said e = (⊎_map (λ a. a) (λ p. (p.0, e.0 p.1)), ⊎_map (λ a. a) (λ p. (p.0, e.1 p.1)))
