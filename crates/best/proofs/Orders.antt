-- The strings of 1s and 2s against the theory's orders of the day, and a station's order against its queue.
use mathlib.Core.Bool.{Bool, cond}
use mathlib.Core.List.{List, [], ◌∷◌, ◌++◌, map, map-map, map-append}
use mathlib.Core.Path.{◌≡◌, refl, sym, ◌∙◌, ap, ap₂}
use Prim.Native.Nat.{suc, zero}
use lib.ListN.{length}
use Rattle.rules.specs.declared.Station.TheVariants.{One as one, Two as two}
use Rattle.rules.specs.Trains.{Train}
use Rattle.rules.specs.Orders as R
use Rattle.theory.specs.Orders.{days}
use Rattle.theory.specs.Queue as Q

put_same : (ahead : Train → Train → Bool) (x : Train) (q : List Train) → R.put ahead x q ≡ Q.put ahead x q
put_same ahead x [] = refl
put_same ahead x (y ∷ q) = ap (λ p. cond (ahead x y) (x ∷ y ∷ q) (y ∷ p)) (put_same ahead x q)

pub queue_same : (ahead : Train → Train → Bool) (q xs : List Train) → R.queue_up ahead q xs ≡ Q.join ahead q xs
queue_same ahead q [] = refl
queue_same ahead q (x ∷ xs) = queue_same ahead (R.put ahead x q) xs ∙ ap (λ p. Q.join ahead p xs) (put_same ahead x q)

-- the orders that send a station's next train first, and the day that begins with it
begin_one : (x : Train) (xs ys : List Train) (os : List R.Order)
    → map (λ o. R.leaving o (x ∷ xs) ys) (map (λ o. one ∷ o) os) ≡ map (λ d. x ∷ d) (map (λ o. R.leaving o xs ys) os)
begin_one x xs ys os = map-map _ _ os ∙ sym (map-map _ _ os)

begin_two : (y : Train) (xs ys : List Train) (os : List R.Order)
    → map (λ o. R.leaving o xs (y ∷ ys)) (map (λ o. two ∷ o) os) ≡ map (λ d. y ∷ d) (map (λ o. R.leaving o xs ys) os)
begin_two y xs ys os = map-map _ _ os ∙ sym (map-map _ _ os)

pub days_same : (xs ys : List Train) → map (λ o. R.leaving o xs ys) (R.orders (length xs) (length ys)) ≡ days xs ys
days_same [] [] = refl
days_same [] (y ∷ ys) = begin_two y [] ys (R.orders zero (length ys)) ∙ ap (map (λ d. y ∷ d)) (days_same [] ys)
days_same (x ∷ xs) [] =
    begin_one x xs [] (R.orders (length xs) zero) ∙ ap (map (λ d. x ∷ d)) (days_same xs [] ∙ alone xs)
  where
    alone : (xs : List Train) → days xs [] ≡ xs ∷ []
    alone [] = refl
    alone (x ∷ xs) = refl
days_same (x ∷ xs) (y ∷ ys) =
    let firsts : List R.Order = R.orders (length xs) (suc (length ys)) in
    let seconds : List R.Order = R.orders (suc (length xs)) (length ys) in
    map-append (λ o. R.leaving o (x ∷ xs) (y ∷ ys)) (map (λ o. one ∷ o) firsts) (map (λ o. two ∷ o) seconds)
    ∙ ap₂ ◌++◌
    (begin_one x xs (y ∷ ys) firsts ∙ ap (map (λ d. x ∷ d)) (days_same xs (y ∷ ys)))
    (begin_two y (x ∷ xs) ys seconds ∙ ap (map (λ d. y ∷ d)) (days_same (x ∷ xs) ys))
