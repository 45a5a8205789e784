-- The trains left at a station: none, or the next one and those after it; each is the station's, and good.
use Rattle.std.proofs.Common.{List, [], ◌∷◌, ◌++◌, ◌≡◌, sym, ◌∙◌, ℕ, zero, suc, ◌-◌, ◌≤◌, ◌<◌, arith, T, length, get_or, take, drop, length-drop, take-append-drop, drop-cons}
use lib.Seq.{drop-length}
use Rattle.rules.specs.declared.Station.{Station}
use Rattle.rules.specs.declared.Station.TheVariants.{One as one, Two as two}
use Rattle.rules.specs.Trains.{Section, aim, count_at, Train, train_at, trains_at, trains}
use Rattle.rules.specs.Orders.{station_order}
use Rattle.theory.specs.Schedule.{All}
use Rattle.theory.proofs.Facts.{all_split}
use Rattle.theory.proofs.Permutations.{perm_length, all_perm}
use Rattle.best.proofs.Numbers.{trains_count_at}
use Rattle.best.proofs.Stations.{order_perm, order_station}
use Rattle.planner.specs.Day.{turn, left}

pub all_at : {X : Type 0} {P : X → Type 0} {xs : List X} → All P xs → (i : ℕ) (d : X) → i < length xs → P (get_or xs i d)
all_at All.none i d h = absurd (omega arith)
all_at (All.more p ps) zero d h = p
all_at (All.more p ps) (suc i) d h = all_at ps i d (omega arith)

module _ (S : Section) (s : Station) where
  pub order_count : length (station_order S s) ≡ count_at S s
  order_count = sym (perm_length (order_perm S s)) ∙ trains_count_at S s

  pub left_none : left S s 0 ≡ []
  unfolding left
  left_none =
      let all : count_at S s - 0 ≡ length (station_order S s) = omega (arith, order_count) in
      rw all (drop-length (station_order S s))

  pub left_count : (n : ℕ) → n ≤ count_at S s → length (left S s n) ≡ n
  unfolding left
  left_count n few = length-drop (count_at S s - n) (station_order S s) ∙ omega (arith, order_count)

  order_good : All (λ x. T ((aim S).good x.figures)) (trains S) → All (λ x. T ((aim S).good x.figures)) (station_order S s)
  unfolding trains
  order_good good = all_perm (order_perm S s) (at s)
    where
      at : (s : Station) → All (λ x. T ((aim S).good x.figures)) (trains_at S s)
      at one = (all_split (trains_at S one) good).0
      at two = (all_split (trains_at S one) good).1

  pub left_good : (n : ℕ) → All (λ x. T ((aim S).good x.figures)) (trains S) → All (λ x. T ((aim S).good x.figures)) (left S s n)
  unfolding left
  left_good n good =
      let k : ℕ = count_at S s - n in
      let whole : All (λ x. T ((aim S).good x.figures)) (take k (station_order S s) ++ drop k (station_order S s)) = rw take-append-drop (order_good good) in
      (all_split (take k (station_order S s)) whole).1

  module _ (n : ℕ) (some : 0 < n) (few : n ≤ count_at S s) where
    pub left_next : left S s n ≡ turn S s n ∷ left S s (n - 1)
    unfolding left turn
    left_next =
        let next : count_at S s - (n - 1) ≡ suc (count_at S s - n) = omega arith in
        rw next (drop-cons (station_order S s) (count_at S s - n) (train_at S s 0) (omega (arith, order_count)))

    turn_has : {P : Train → Type 0} → All P (station_order S s) → P (turn S s n)
    unfolding turn
    turn_has a = all_at a (count_at S s - n) (train_at S s 0) (omega (arith, order_count))

    pub turn_station : (turn S s n).station ≡ s
    turn_station = turn_has (order_station S s)

    pub turn_good : All (λ x. T ((aim S).good x.figures)) (trains S) → T ((aim S).good (turn S s n).figures)
    turn_good good = turn_has (order_good good)
