-- The same elements in another order.
-- What a schedule is worth, and whether it is safe, does not depend on how it is listed.
use Rattle.std.specs.Prelude.{List, [], ◌∷◌}

pub data Perm {X : Type 0} : List X → List X → Type 0 where
  none : Perm [] []
  keep : {x : X} {xs ys : List X} → Perm xs ys → Perm (x ∷ xs) (x ∷ ys)
  turn : {x y : X} {zs : List X} → Perm (x ∷ y ∷ zs) (y ∷ x ∷ zs)
  then : {xs ys zs : List X} → Perm xs ys → Perm ys zs → Perm xs zs
