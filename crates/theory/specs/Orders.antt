-- Orders of the whole day: the ways in which two queues can leave, and the best of them.
-- A queue's own order is kept; orders are listed in dictionary order, the first queue before the second.
use Rattle.std.specs.Prelude.{List, [], ◌∷◌, ◌++◌, map}
use Rattle.theory.specs.Values.{Values}
use Rattle.theory.specs.Line.{Line}
use Rattle.theory.specs.Schedule.{Clock, after}

abbrev pub days : {X : Type 0} → List X → List X → List (List X)
days [] ys = ys ∷ []
days (x ∷ xs) [] = (x ∷ xs) ∷ []
days (x ∷ xs) (y ∷ ys) = map (λ d. x ∷ d) (days xs (y ∷ ys)) ++ map (λ d. y ∷ d) (days (x ∷ xs) ys)

-- an order in which each queue keeps its own
pub data Woven {X : Type 0} : List X → List X → List X → Type 0 where
  none : Woven [] [] []
  first : {x : X} {xs ys day : List X} → Woven xs ys day → Woven (x ∷ xs) ys (x ∷ day)
  second : {y : X} {xs ys day : List X} → Woven xs ys day → Woven xs (y ∷ ys) (y ∷ day)

abbrev pub pick : {P X : Type 0} → Dec P → X → X → X
pick (yes p) a b = a
pick (no n) a b = b

module _ (W : Values) where
  open W use {Val, compare}

  -- the smaller of two values
  abbrev pub least : Val → Val → Val
  least a b = pick (compare a b) a b

  -- the first of the elements whose value is smallest, an earlier one being kept where values are equal
  abbrev pub leftmost : {X : Type 0} → (X → Val) → X → List X → X
  leftmost f x [] = x
  leftmost f x (y ∷ ys) = leftmost f (pick (compare (f x) (f y)) x y) ys

  abbrev pub first_best : {X : Type 0} → (List X → Val) → List (List X) → List X
  first_best f [] = []
  first_best f (d ∷ ds) = leftmost f d ds

module _ (L : Line) where
  open L use {values, Train, early, cost}
  open values use {Val, ◌⊙◌, compare, none as nothing}

  -- the best of the rest from a clock: the smaller of what comes of sending either queue's next train
  abbrev pub best : Clock L → List Train → List Train → Val
  best clock [] [] = nothing
  best clock [] (y ∷ ys) = cost y (clock y) ⊙ best (after L y (clock y)) [] ys
  best clock (x ∷ xs) [] = cost x (clock x) ⊙ best (after L x (clock x)) xs []
  best clock (x ∷ xs) (y ∷ ys) =
      least values (cost x (clock x) ⊙ best (after L x (clock x)) xs (y ∷ ys))
      (cost y (clock y) ⊙ best (after L y (clock y)) (x ∷ xs) ys)

  -- send the first queue's next train whenever the day can still come to the goal, from the value so far
  abbrev pub walk : Val → Val → Clock L → List Train → List Train → List Train
  walk goal sofar clock [] ys = ys
  walk goal sofar clock (x ∷ xs) [] = x ∷ xs
  walk goal sofar clock (x ∷ xs) (y ∷ ys) =
      pick (compare (sofar ⊙ (cost x (clock x) ⊙ best (after L x (clock x)) xs (y ∷ ys))) goal)
      (x ∷ walk goal (sofar ⊙ cost x (clock x)) (after L x (clock x)) xs (y ∷ ys))
      (y ∷ walk goal (sofar ⊙ cost y (clock y)) (after L y (clock y)) (x ∷ xs) ys)

  -- from the start, with the best of all for the goal
  abbrev pub best_day : List Train → List Train → List Train
  best_day xs ys = walk (best early xs ys) nothing early xs ys
