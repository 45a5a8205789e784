-- Laws of the words about lists: those elements that pass a test, and pairs, of appended and mapped lists.
use mathlib.Core.Bool.{Bool, true, false, cond}
use mathlib.Core.List.{List, [], ◌∷◌, ◌++◌, map, map-map, map-append}
use mathlib.Core.Path.{◌≡◌, refl}
use Rattle.rules.specs.Lists.{those, pairs}

pub those_append : {A : Type 0} (p : A → Bool) (xs ys : List A) → those p (xs ++ ys) ≡ those p xs ++ those p ys
those_append p [] ys = refl
those_append p (x ∷ xs) ys = rw (those_append p xs ys) (kept (p x))
  where
    kept : (b : Bool) → cond b (x ∷ (those p xs ++ those p ys)) (those p xs ++ those p ys) ≡ cond b (x ∷ those p xs) (those p xs) ++ those p ys
    kept true = refl
    kept false = refl

pub those_map : {A B : Type 0} (p : B → Bool) (f : A → B) (xs : List A) → those p (map f xs) ≡ map f (those (λ x. p (f x)) xs)
those_map p f [] = refl
those_map p f (x ∷ xs) = rw (those_map p f xs) (kept (p (f x)) (those (λ y. p (f y)) xs))
  where
    kept : (b : Bool) (ys : List _) → cond b (f x ∷ map f ys) (map f ys) ≡ map f (cond b (x ∷ ys) ys)
    kept true ys = refl
    kept false ys = refl

pub pairs_map : {A B : Type 0} (f : A → B) (xs : List A) → pairs (map f xs) ≡ map (λ pair. (f pair.0, f pair.1)) (pairs xs)
pairs_map f [] = refl
pairs_map {B = B} f (x ∷ xs) =
    let first : B → B × B = λ y. (f x, y) in
    simp (map-append, map-map first f xs, map-map, pairs_map f xs)
