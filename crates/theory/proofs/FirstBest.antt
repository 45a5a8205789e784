-- The walk's order is the first of the best: it comes to the goal, the orders before it cost more and those after it no less.
use mathlib.Core.Path.{◌≡◌, refl, sym, ◌∙◌, ap}
use mathlib.Core.Logic.{⊎_elim}
use mathlib.Core.List.Memᴰ
use mathlib.Core.List.{
  List,
  [],
  ◌∷◌,
  ◌++◌,
  map,
  Memᴰ,
}
use Rattle.theory.specs.Values.{Values}
use Rattle.theory.specs.Line.{Line, Lawful}
use Rattle.theory.specs.Schedule.{Clock, after, leave, worth}
use Rattle.theory.specs.Orders.{pick, days, least, leftmost, first_best, best, walk, best_day}
use Rattle.theory.proofs.Choices.{pick_yes, pick_no, pick_ind}
use Rattle.theory.proofs.Values.{at_most, least_left}
use Rattle.theory.proofs.Best.{alone_first, alone_second, through, below}

-- `x` is the first element whose value is the goal, and no element's value is smaller
data First (W : Values) {X : Type 0} (f : X → W.Val) (goal : W.Val) (x : X) : List X → Type 0 where
  here : {xs : List X} → f x ≡ goal → ((z : X) → Memᴰ z xs → W.◌≼◌ goal (f z)) → First W f goal x (x ∷ xs)
  later : {z : X} {xs : List X} → ¬ (W.◌≼◌ (f z) goal) → First W f goal x xs → First W f goal x (z ∷ xs)

-- the leftmost minimum stays where the next element costs no less
kept : (W : Values) {X : Type 0} (f : X → W.Val) (x y : X) (xs : List X) → W.◌≼◌ (f x) (f y) → leftmost W f x (y ∷ xs) ≡ leftmost W f x xs
kept W f x y xs h = ap (λ z. leftmost W f z xs) (pick_yes (W.compare (f x) (f y)) x y h)

module _ (W : Values) {X : Type 0} {f : X → W.Val} {goal : W.Val} where
  open W use {◌≼◌, compare}

  infix 5 ◌≼◌
  attained : {x : X} {xs : List X} → First W f goal x xs → f x ≡ goal
  attained (here e h) = e
  attained (later n t) = attained t

  listed : {x : X} {xs : List X} → First W f goal x xs → Memᴰ x xs
  listed (here e h) = Memᴰ.head refl
  listed (later n t) = Memᴰ.tail (listed t)

  found_left : {x : X} {xs ys : List X}
      → First W f goal x xs → ((z : X) → Memᴰ z ys → goal ≼ f z) → First W f goal x (xs ++ ys)
  found_left (here {xs = xs} e h) k = here e (λ z m. ⊎_elim (h z) (k z) (Memᴰ.append_cases xs m))
  found_left (later n t) k = later n (found_left t k)

  found_right : {x : X} (xs : List X) {ys : List X}
      → ((z : X) → Memᴰ z xs → ¬ (f z ≼ goal)) → First W f goal x ys → First W f goal x (xs ++ ys)
  found_right [] k t = t
  found_right (z ∷ xs) k t = later (k z (Memᴰ.head refl)) (found_right xs (λ w m. k w (Memᴰ.tail m)) t)

  -- it stays for good once the goal is met, and leaves an element that costs more
  stays : {x : X} (xs : List X) → f x ≡ goal → ((z : X) → Memᴰ z xs → goal ≼ f z) → leftmost W f x xs ≡ x
  stays [] e h = refl
  stays {x} (y ∷ xs) e h = kept W f x y xs (rw e (h y (Memᴰ.head refl))) ∙ stays xs e (λ z m. h z (Memᴰ.tail m))

  moves : {x y : X} {xs : List X} → First W f goal x xs → ¬ (f y ≼ goal) → leftmost W f y xs ≡ x
  moves {x} {y} (here {xs = xs} e h) n = rw (pick_no (compare (f y) (f x)) y x (rw e n)) (stays xs e h)
  moves {y = y} (later {z = z} k t) n =
      moves {y = pick (compare (f y) (f z)) y z} t (pick_ind (λ w. ¬ (f w ≼ goal)) (compare (f y) (f z)) (λ _. n) (λ _. k))

found_map : (W : Values) {X Y : Type 0} (f : Y → W.Val) (g : X → Y) {goal : W.Val} {x : X} {xs : List X}
    → First W (λ z. f (g z)) goal x xs → First W f goal (g x) (map g xs)
found_map W f g (here {xs = xs} e h) =
    here e (λ z m. let r = Memᴰ.of_map g xs m in rw (← r.2) (h r.0 r.1))
found_map W f g (later n t) = later n (found_map W f g t)

found_best : (W : Values) {X : Type 0} {f : List X → W.Val} {goal : W.Val} {d : List X} {ds : List (List X)}
    → First W f goal d ds → first_best W f ds ≡ d
found_best W (here {xs = ds} e h) = stays W ds e h
found_best W (later n t) = moves W t n

module _ (L : Line) (P : Lawful L) where
  open L use {values, Train, early, cost}
  open values use {Val, ◌≼◌, ◌⊙◌, compare, none}
  open P use {ordered}

  infixl 6 ◌⊙◌
  infix 5 ◌≼◌
  -- where the best of the rest comes to the goal, this order is the first of the day's that does
  abbrev Finds : Val → Val → Clock L → List Train → List Train → List Train → Type 0
  Finds goal sofar clock xs ys d =
      sofar ⊙ best L clock xs ys ≡ goal → First values (λ e. sofar ⊙ worth L (leave L clock e)) goal d (days xs ys)

  -- what is first among the rests is first among the orders that begin with this train
  send : {goal : Val} (sofar : Val) (clock : Clock L) (x : Train) {d : List Train} {ds : List (List Train)}
      → First values (λ e. sofar ⊙ cost x (clock x) ⊙ worth L (leave L (after L x (clock x)) e)) goal d ds
      → First values (λ e. sofar ⊙ worth L (leave L clock e)) goal (x ∷ d) (map (λ e. x ∷ e) ds)
  send sofar clock x t = found_map values _ (λ e. x ∷ e) (simp ordered.assoc at t)

  -- where the test holds the first queue's next train comes to the goal, where it fails the second's
  first_comes : {goal : Val} (sofar c v w : Val)
      → sofar ⊙ (c ⊙ v) ≼ goal → sofar ⊙ least values (c ⊙ v) w ≡ goal → sofar ⊙ c ⊙ v ≡ goal
  first_comes sofar c v w h e =
      ordered.assoc sofar c v ∙ ordered.antisym h (rw (← e) (ordered.mono sofar (least_left values ordered (c ⊙ v) w)))

  second_comes : {goal : Val} (sofar u c v : Val)
      → ¬ (sofar ⊙ u ≼ goal) → sofar ⊙ least values u (c ⊙ v) ≡ goal → sofar ⊙ c ⊙ v ≡ goal
  second_comes {goal} sofar u c v n e =
      ordered.assoc sofar c v ∙
      pick_ind (λ z. sofar ⊙ z ≡ goal → sofar ⊙ (c ⊙ v) ≡ goal) (compare u (c ⊙ v))
      (λ _ q. absurd (n (at_most values ordered q))) (λ _ q. q) e

  module _ {goal : Val} (sofar : Val) (clock : Clock L) (x y : Train) (xs ys : List Train) {d : List Train} where
    first_found : Finds goal (sofar ⊙ cost x (clock x)) (after L x (clock x)) xs (y ∷ ys) d
        → sofar ⊙ (cost x (clock x) ⊙ best L (after L x (clock x)) xs (y ∷ ys)) ≼ goal
        → Finds goal sofar clock (x ∷ xs) (y ∷ ys) (x ∷ d)
    first_found finds h e =
        let firsts : List (List Train) = map (λ z. x ∷ z) (days xs (y ∷ ys)) in
        found_left values (send sofar clock x (finds (first_comes sofar _ _ _ h e)))
        (λ z m. rw (← e) (ordered.mono sofar (below L P clock (x ∷ xs) (y ∷ ys) z (Memᴰ.append_right firsts m))))

    second_found : Finds goal (sofar ⊙ cost y (clock y)) (after L y (clock y)) (x ∷ xs) ys d
        → ¬ (sofar ⊙ (cost x (clock x) ⊙ best L (after L x (clock x)) xs (y ∷ ys)) ≼ goal)
        → Finds goal sofar clock (x ∷ xs) (y ∷ ys) (y ∷ d)
    second_found finds n e =
        let low = through L P clock x (days xs (y ∷ ys)) (below L P (after L x (clock x)) xs (y ∷ ys)) in
        found_right values _ (λ z m k. n (ordered.trans (ordered.mono sofar (low z m)) k))
        (send sofar clock y (finds (second_comes sofar _ _ _ n e)))

  walk_finds : (goal sofar : Val) (clock : Clock L) (xs ys : List Train)
      → Finds goal sofar clock xs ys (walk L goal sofar clock xs ys)
  walk_finds goal sofar clock [] ys e =
      here (rw (alone_second L P clock ys) at e) (λ z m. absurd (Memᴰ.not-nil m))
  walk_finds goal sofar clock (x ∷ xs) [] e =
      here (rw (alone_first L P clock (x ∷ xs)) at e) (λ z m. absurd (Memᴰ.not-nil m))
  walk_finds goal sofar clock (x ∷ xs) (y ∷ ys) e =
      pick_ind (Finds goal sofar clock (x ∷ xs) (y ∷ ys)) (compare _ goal)
      (first_found sofar clock x y xs ys (walk_finds goal (sofar ⊙ cost x (clock x)) (after L x (clock x)) xs (y ∷ ys)))
      (second_found sofar clock x y xs ys (walk_finds goal (sofar ⊙ cost y (clock y)) (after L y (clock y)) (x ∷ xs) ys)) e

  from_start : (xs ys : List Train)
      → First values (λ d. worth L (leave L early d)) (best L early xs ys) (best_day L xs ys) (days xs ys)
  from_start xs ys = simp ordered.none_left at (walk_finds (best L early xs ys) none early xs ys (ordered.none_left _))

  pub day_listed : (xs ys : List Train) → Memᴰ (best_day L xs ys) (days xs ys)
  day_listed xs ys = listed values (from_start xs ys)

  pub day_best : (xs ys : List Train) → worth L (leave L early (best_day L xs ys)) ≡ best L early xs ys
  day_best xs ys = attained values (from_start xs ys)

  pub day_first : (xs ys : List Train) → best_day L xs ys ≡ first_best values (λ d. worth L (leave L early d)) (days xs ys)
  day_first xs ys = sym (found_best values (from_start xs ys))
