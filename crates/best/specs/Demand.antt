-- Demand 3: the plan is safe, it has the best value, no safe schedule has a smaller one; and each string's schedule is the earliest of its order.
-- The statements are over the rules alone; `demand_3` in proofs/ shows them of every section that the planner does not refuse.
use Rattle.std.specs.Prelude.{List, ◌∷◌, ◌≡◌, ℕ, ◌≤◌, ◌<◌, get_or, ◌≤ℤ◌, ◌<ℤ◌}
use Rattle.rules.specs.declared.Station.TheVariants.{One as one, Two as two}
use Rattle.rules.specs.Trains.{Section, count_at, Train}
use Rattle.rules.specs.Safe.{Safe}
use Rattle.rules.specs.Value.{value}
use Rattle.rules.specs.Orders.{Order, orders, leaving, station_order, departures_of, value_of, best_order, best_value, plan}
use Rattle.theory.specs.Schedule.{All, Pairs}

-- of any two of these trains, the one that stands first leaves first
abbrev pub LeaveInOrder : List ℕ → List Train → Type 0
LeaveInOrder departures xs = Pairs (λ x y. get_or departures x.number 0 < get_or departures y.number 0) xs

-- the day's trains leave in the order of the string
abbrev pub Follows : Section → Order → List ℕ → Type 0
Follows S o departures = LeaveInOrder departures (leaving o (station_order S one) (station_order S two))

-- A string's schedule follows the string and sends each train as early as R1 and R2 allow.
pub record Earliest (S : Section) (o : Order) : Type 0 where
  pub safe : Safe S (departures_of S o)
  pub follows : Follows S o (departures_of S o)
  -- in no safe schedule that follows the string does any train leave earlier
  pub earliest : (departures : List ℕ) → Safe S departures → Follows S o departures
      → (number : ℕ) → get_or (departures_of S o) number 0 ≤ get_or departures number 0
  -- nor is the string cheaper than the best, wherever it stands in dictionary order
  pub no_cheaper : best_value S ≤ℤ value_of S o

-- an order stands in the list, and all orders before it have a larger value
pub data First (S : Section) : Order → List Order → Type 0 where
  here : {best : Order} {os : List Order} → First S best (best ∷ os)
  later : {best o : Order} {os : List Order} → value_of S best <ℤ value_of S o → First S best os → First S best (o ∷ os)

pub record Best (S : Section) : Type 0 where
  pub safe : Safe S (plan S)
  pub true_value : value S (plan S) ≡ best_value S
  -- in any order and with any waiting; under objectives 3 and 4 a safe schedule keeps each station's list order
  pub least : (departures : List ℕ) → Safe S departures → best_value S ≤ℤ value S departures
  -- of every string of the section, best or not
  pub every : All (Earliest S) (orders (count_at S one) (count_at S two))
  -- of the strings with this value, the plan is the schedule of the first
  pub first : First S (best_order S) (orders (count_at S one) (count_at S two))
  pub of_first : plan S ≡ departures_of S (best_order S)
