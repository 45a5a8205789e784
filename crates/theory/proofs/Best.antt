-- The orders of a day against the best of the rest: none of them is worth less.
use mathlib.Core.Path.{◌≡◌, refl, ap}
use mathlib.Core.Logic.{⊎_elim}
use mathlib.Core.List.Memᴰ
use mathlib.Core.List.{
  List,
  [],
  ◌∷◌,
  map,
  Memᴰ,
}
use Rattle.theory.specs.Line.{Line, Lawful}
use Rattle.theory.specs.Schedule.{Clock, after, leave, worth}
use Rattle.theory.specs.Orders.{days, best}
use Rattle.theory.proofs.Values.{at_most, least_left, least_right}

-- the ways to go on once either queue's next train has left are ways of the day
module _ {X : Type 0} (x y : X) (xs ys : List X) {d : List X} where
  pub first_next : Memᴰ d (days xs (y ∷ ys)) → Memᴰ (x ∷ d) (days (x ∷ xs) (y ∷ ys))
  first_next m = Memᴰ.append_left (map (λ e. y ∷ e) (days (x ∷ xs) ys)) (Memᴰ.map (λ e. x ∷ e) m)

  pub second_next : Memᴰ d (days (x ∷ xs) ys) → Memᴰ (y ∷ d) (days (x ∷ xs) (y ∷ ys))
  second_next m = Memᴰ.append_right (map (λ e. x ∷ e) (days xs (y ∷ ys))) (Memᴰ.map (λ e. y ∷ e) m)

module _ (L : Line) (P : Lawful L) where
  open L use {values, Train, cost}
  open values use {Val, ◌≼◌, ◌⊙◌}
  open P use {ordered}

  infixl 6 ◌⊙◌
  infix 5 ◌≼◌
  -- a queue that is alone leaves in its own order
  pub alone_first : (clock : Clock L) (xs : List Train) → best L clock xs [] ≡ worth L (leave L clock xs)
  alone_first clock [] = refl
  alone_first clock (x ∷ xs) = ap (λ v. cost x (clock x) ⊙ v) (alone_first (after L x (clock x)) xs)

  pub alone_second : (clock : Clock L) (ys : List Train) → best L clock [] ys ≡ worth L (leave L clock ys)
  alone_second clock [] = refl
  alone_second clock (y ∷ ys) = ap (λ v. cost y (clock y) ⊙ v) (alone_second (after L y (clock y)) ys)

  -- what bounds the rests from below, joined to a train's cost, bounds the orders that begin with this train
  pub through : (clock : Clock L) (x : Train) (rests : List (List Train)) {v : Val}
      → ((d : List Train) → Memᴰ d rests → v ≼ worth L (leave L (after L x (clock x)) d))
      → (d : List Train) → Memᴰ d (map (λ e. x ∷ e) rests) → cost x (clock x) ⊙ v ≼ worth L (leave L clock d)
  through clock x rests low d m =
      let r = Memᴰ.of_map (λ e. x ∷ e) rests m in
      rw (← r.2) (ordered.mono (cost x (clock x)) (low r.0 r.1))

  pub below : (clock : Clock L) (xs ys d : List Train)
      → Memᴰ d (days xs ys) → best L clock xs ys ≼ worth L (leave L clock d)
  below clock [] ys d m = rw (Memᴰ.eq_of_singleton m) (at_most values ordered (alone_second clock ys))
  below clock (x ∷ xs) [] d m = rw (Memᴰ.eq_of_singleton m) (at_most values ordered (alone_first clock (x ∷ xs)))
  below clock (x ∷ xs) (y ∷ ys) d m =
      ⊎_elim
      (λ n. ordered.trans (least_left values ordered _ _) (through clock x _ (below (after L x (clock x)) xs (y ∷ ys)) d n))
      (λ n. ordered.trans (least_right values ordered _ _) (through clock y _ (below (after L y (clock y)) (x ∷ xs) ys) d n))
      (Memᴰ.append_cases (map (λ e. x ∷ e) (days xs (y ∷ ys))) m)
