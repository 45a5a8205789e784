-- Words about lists that the rules use: those elements that pass a test, every element, neighbours, pairs, numbers in a row.
-- Nothing of the railway stands here.
use Rattle.std.specs.Prelude.{Bool, true, ◌&&◌, cond, List, [], ◌∷◌, ◌++◌, map, ℕ, zero, suc}

-- those elements that pass the test, in the list's order
abbrev pub those : {A : Type 0} → (A → Bool) → List A → List A
those p [] = []
those p (x ∷ xs) = cond (p x) (x ∷ those p xs) (those p xs)

abbrev pub every : {A : Type 0} → (A → Bool) → List A → Bool
every p [] = true
every p (x ∷ xs) = p x && every p xs

-- each element stands in the relation to the next
abbrev pub neighbours : {A : Type 0} → (A → A → Bool) → List A → Bool
neighbours r [] = true
neighbours r (x ∷ []) = true
neighbours r (x ∷ y ∷ ys) = r x y && neighbours r (y ∷ ys)

-- all pairs of an element with a later one, by the place of the first, then of the second
abbrev pub pairs : {A : Type 0} → List A → List (A × A)
pairs [] = []
pairs (x ∷ xs) = map (λ y. (x, y)) xs ++ pairs xs

-- n numbers in a row, from k
abbrev pub count_from : ℕ → ℕ → List ℕ
count_from k zero = []
count_from k (suc n) = k ∷ count_from (suc k) n
