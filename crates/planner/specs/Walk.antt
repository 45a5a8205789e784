-- The walk through a day: whose train leaves next under a goal, the clock then, and the runs that are left, as the theory has them.
-- A goal is the value that the day is to come to.
use Rattle.std.specs.Prelude.{cond, Option, None, Some, List, map, ◌≡◌, ℕ, ◌*◌, ◌≤◌, eqb, ℤ, take}
use Rattle.std.specs.Int.Signed.{le_z, mag}
use Rattle.rules.specs.Lists.{those}
use Rattle.rules.specs.declared.Station.{Station}
use Rattle.rules.specs.declared.Station.TheVariants.{One as one, Two as two}
use Rattle.rules.specs.Line.{same_station}
use Rattle.rules.specs.Trains.{Section, count_at, Run}
use Rattle.theory.specs.Schedule.{leave}
use Rattle.theory.specs.Orders as orders
use Rattle.best.specs.Instance.{line}
use Rattle.best.proofs.Objectives.{fair_aim}
use Rattle.planner.specs.declared.clock.Clock.{Clock}
use Rattle.planner.specs.declared.clock.Departure.{Departure}
use Rattle.planner.specs.Clock.{start}
use Rattle.planner.specs.Day.{left, goes_on, earliest, comes_to, gone}

-- whose next train leaves: station 1's if it has one, and station 2 has none or the day still comes to the goal
unfoldable pub goes : Section → ℤ → Clock → Station
goes S goal c =
    cond (eqb c.ones 0) two (cond (eqb c.twos 0) one (cond (le_z (comes_to S (goes_on S c one)) goal) one two))

unfoldable pub step : Section → ℤ → Clock → Clock
step S goal c = goes_on S c (goes S goal c)

-- the theory's value so far, and its walk's runs from a clock
abbrev pub sofar_after : (S : Section) → Option Departure → ℤ → (fair_aim S).values.Val
sofar_after S None value = (fair_aim S).values.none
sofar_after S (Some last) value = (fair_aim S).grade value

unfoldable pub sofar : (S : Section) → Clock → (fair_aim S).values.Val
sofar S c = sofar_after S c.last c.value

unfoldable pub runs_left : Section → ℤ → Clock → List Run
runs_left S goal c =
    leave (line S (fair_aim S)) (earliest S c)
    (orders.walk (line S (fair_aim S)) ((fair_aim S).grade goal) (sofar S c) (earliest S c) (left S one c.ones) (left S two c.twos))

-- the departures of a station's runs, as they leave
unfoldable pub times : Station → List Run → List ℕ
times s rs = map (λ r. r.departure) (those (λ r. same_station s r.train.station) rs)

-- the value so far is no more than so many trains can cost
pub record Counted (S : Section) (c : Clock) : Type 0 where
  pub small : (last : Departure) → c.last ≡ Some last → mag c.value ≤ gone S c * 100100000001

-- each station's first times are those of the whole day's runs
pub record Walks (S : Section) (goal : ℤ) (times1 times2 : List ℕ) : Type 0 where
  pub first : take (count_at S one) times1 ≡ times one (runs_left S goal (start (count_at S one) (count_at S two)))
  pub second : take (count_at S two) times2 ≡ times two (runs_left S goal (start (count_at S one) (count_at S two)))
