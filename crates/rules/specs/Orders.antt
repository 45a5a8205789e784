-- Which best plan is given: each station's own order, the strings of 1s and 2s, and the first of the best of them.
-- The best is the smallest value of all strings listed; that no safe schedule at all has a smaller one is a theorem.
use Rattle.std.specs.Prelude.{Bool, cond, List, [], ◌∷◌, ◌++◌, map, ℕ, zero, suc, ◌+◌, eqb, ℤ}
use Rattle.std.specs.Int.Signed.{le_z}
use Rattle.rules.specs.declared.Timing.{Timing}
use Rattle.rules.specs.declared.Station.{Station}
use Rattle.rules.specs.declared.Station.TheVariants.{One as one, Two as two}
use Rattle.rules.specs.Line.{gap}
use Rattle.rules.specs.Trains.{Section, aim, count_at, Train, trains_at, trains, Run}
use Rattle.rules.specs.Value.{value}

-- A station's order: its trains join a queue in list order, each before the first train that it goes ahead of.
abbrev pub put : (Train → Train → Bool) → Train → List Train → List Train
put ahead x [] = x ∷ []
put ahead x (y ∷ ys) = cond (ahead x y) (x ∷ y ∷ ys) (y ∷ put ahead x ys)

abbrev pub queue_up : (Train → Train → Bool) → List Train → List Train → List Train
queue_up ahead queue [] = queue
queue_up ahead queue (x ∷ xs) = queue_up ahead (put ahead x queue) xs

unfoldable pub station_order : Section → Station → List Train
station_order S s = queue_up (λ x y. (aim S).ahead x.figures y.figures) [] (trains_at S s)

-- An order of the whole day: whose next train leaves.
abbrev pub Order : Type 0
Order = List Station

-- the strings of n 1s and m 2s, in dictionary order
abbrev pub orders : ℕ → ℕ → List Order
orders zero zero = [] ∷ []
orders zero (suc m) = map (λ o. two ∷ o) (orders zero m)
orders (suc n) zero = map (λ o. one ∷ o) (orders n zero)
orders (suc n) (suc m) = map (λ o. one ∷ o) (orders n (suc m)) ++ map (λ o. two ∷ o) (orders (suc n) m)

-- the day's trains as they leave; a string that asks more of a station than it has ends there
abbrev pub leaving : Order → List Train → List Train → List Train
leaving [] xs ys = []
leaving (one ∷ o) [] ys = []
leaving (one ∷ o) (x ∷ xs) ys = x ∷ leaving o xs ys
leaving (two ∷ o) xs [] = []
leaving (two ∷ o) xs (y ∷ ys) = y ∷ leaving o xs ys

-- trains that leave one after another, each as early as the clock allows: it says so for each station, and starts at 0
abbrev pub sent : Timing → (Station → ℕ) → List Train → List Run
sent t clock [] = []
sent t clock (x ∷ xs) =
    record { train = x; departure = clock x.station } ∷ sent t (λ s. clock x.station + gap t x.station s) xs

unfoldable pub schedule : Section → Order → List Run
schedule S o = sent S.timing (λ s. 0) (leaving o (station_order S one) (station_order S two))

abbrev pub departure_of : ℕ → List Run → ℕ
departure_of number [] = 0
departure_of number (r ∷ rs) = cond (eqb number r.train.number) r.departure (departure_of number rs)

-- the departures of a schedule, in train number order
unfoldable pub by_number : Section → List Run → List ℕ
by_number S rs = map (λ x. departure_of x.number rs) (trains S)

unfoldable pub departures_of : Section → Order → List ℕ
departures_of S o = by_number S (schedule S o)

unfoldable pub value_of : Section → Order → ℤ
value_of S o = value S (departures_of S o)

-- the first of the orders with the smallest value: an earlier one stays where a later one is no better
abbrev pub first_least : (Order → ℤ) → Order → List Order → Order
first_least worth best [] = best
first_least worth best (o ∷ os) = first_least worth (cond (le_z (worth best) (worth o)) best o) os

abbrev pub first_best : (Order → ℤ) → List Order → Order
first_best worth [] = []
first_best worth (o ∷ os) = first_least worth o os

unfoldable pub best_order : Section → Order
best_order S = first_best (value_of S) (orders (count_at S one) (count_at S two))

unfoldable pub best_value : Section → ℤ
best_value S = value_of S (best_order S)

unfoldable pub plan : Section → List ℕ
plan S = departures_of S (best_order S)
