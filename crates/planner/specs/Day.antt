-- A section's day from a running clock, as the theory has it: the trains left, the earliest seconds, the best of the rest.
-- `Running` is what is known of a clock on its way, and `Tables` that the tables hold the best of every rest up to a place.
use Rattle.std.specs.Prelude.{true, false, Option, None, Some, List, [], ◌++◌, map, ◌≡◌, ℕ, ◌+◌, ◌-◌, ◌*◌, ◌≤◌, ◌<◌, ℤ, length, get_or, drop}
use Rattle.rules.specs.declared.Station.{Station}
use Rattle.rules.specs.declared.Station.TheVariants.{One as one, Two as two}
use Rattle.rules.specs.Line.{gap}
use Rattle.rules.specs.Trains.{Section, aim, count_at, Train, train_at}
use Rattle.rules.specs.Orders.{station_order}
use Rattle.theory.specs.Orders.{best}
use Rattle.best.specs.Instance.{line}
use Rattle.best.proofs.Objectives.{fair_aim}
use Rattle.planner.specs.declared.clock.Clock.{Clock}
use Rattle.planner.specs.declared.clock.Departure.{Departure}
use Rattle.planner.specs.declared.clock.Terms.{Terms}
use Rattle.planner.specs.Clock.{by_station, second_of, cell_clock, alone, next}
use Rattle.planner.specs.Rests.{Table, Counts, Rows, best_at, rise_at, row_at, day}
use Rattle.planner.specs.Cells.{rises, gone_of, seconds}

-- what is planned for, of a section
unfoldable pub terms_of : Section → Terms
terms_of S = record { objective = S.objective; timing = S.timing; ones = count_at S one; twos = count_at S two }

-- the last so many trains of a station's order
unfoldable pub left : Section → Station → ℕ → List Train
left S s n = drop (count_at S s - n) (station_order S s)

-- the next train of a station where so many are left; and from a clock
unfoldable pub turn : Section → Station → ℕ → Train
turn S s n = get_or (station_order S s) (count_at S s - n) (train_at S s 0)

abbrev pub next_of : Section → Clock → Station → Train
next_of S c s = turn S s (by_station s c.ones c.twos)

-- the clock once a station's next train has left, with that train's cost alone, and with the value so far
abbrev pub sends : Section → Clock → Station → Clock
sends S c s = alone (terms_of S) c s (next_of S c s).figures

abbrev pub goes_on : Section → Clock → Station → Clock
goes_on S c s = next (terms_of S) c s (next_of S c s).figures

-- the figures of the trains left at both stations
abbrev pub figures_left : Section → ℕ → ℕ → List (List ℤ)
figures_left S ones twos = map (λ x. x.figures) (left S one ones) ++ map (λ x. x.figures) (left S two twos)

-- the earliest second of each train after a departure; and from a clock, which has it at 0 before the first train
unfoldable pub since : Section → Station → ℕ → Train → ℕ
since S s departure x = departure + gap S.timing s x.station

abbrev pub earliest_after : Section → Option Departure → Train → ℕ
earliest_after S None x = 0
earliest_after S (Some last) x = since S last.station last.second x

unfoldable pub earliest : Section → Clock → Train → ℕ
earliest S c x = earliest_after S c.last x

-- the theory's best of the rest, as a number: from these seconds, where so many trains are left
unfoldable pub rest_from : Section → (Train → ℕ) → ℕ → ℕ → ℤ
rest_from S clock ones twos = (fair_aim S).shown (best (line S (fair_aim S)) clock (left S one ones) (left S two twos))

unfoldable pub rest : Section → Clock → ℤ
rest S c = rest_from S (earliest S c) c.ones c.twos

-- what the day comes to at best from a clock
abbrev pub comes_to : Section → Clock → ℤ
comes_to S c = day S.objective c (rest S c)

-- a clock that has come to a departure
abbrev pub at : Station → ℕ → ℕ → ℕ → Clock
at s departure ones twos = cell_clock s departure 0 ones twos

-- how many trains are gone
abbrev pub gone : Section → Clock → ℕ
gone S c = gone_of (terms_of S) c.ones c.twos

-- a clock on its way through a section's day
pub record Running (S : Section) (c : Clock) : Type 0 where
  pub ones_few : c.ones ≤ count_at S one
  pub twos_few : c.twos ≤ count_at S two
  pub soon : second_of c.last ≤ gone S c * 10000
  pub few : c.changes ≤ gone S c
  -- before the first train all are left; after it the changes of station, with rows, tell the departure
  pub unbegun : c.last ≡ None → (gone S c ≡ 0) × (c.changes ≡ 0)
  pub told : (aim S).listed ≡ true → (last : Departure) → c.last ≡ Some last
      → (c.changes < gone S c) × (last.second ≡ seconds S.timing c.changes (gone S c))

-- the cell of the tables where so many trains are left holds the best of the rest
pub record Right (S : Section) (counts : Counts) (changes : Rows) (ones twos : ℕ) : Type 0 where
  pub counted : (aim S).listed ≡ false → (s : Station) → best_at counts ones twos s ≡ rest S (at s 0 ones twos)
  pub risen : (aim S).listed ≡ false → rise_at counts ones twos ≡ rises (aim S) (figures_left S ones twos)
  pub changed : (aim S).listed ≡ true → (k : ℕ) → k < gone_of (terms_of S) ones twos → (s : Station)
      → row_at changes ones twos k s ≡ rest S (at s (seconds S.timing k (gone_of (terms_of S) ones twos)) ones twos)

-- a table of n rows of n cells
pub record Square {Cell : Type 0} (n : ℕ) (table : Table Cell) : Type 0 where
  pub rows : length table ≡ n
  pub cells : (ones : ℕ) → ones < n → length (get_or table ones []) ≡ n

-- the tables hold the best of the rest up to a place, where cells are counted row by row
pub record Tables (S : Section) (counts : Counts) (changes : Rows) (place : ℕ) : Type 0 where
  pub square : Square 49 counts
  pub square' : Square 13 changes
  pub right : (ones twos : ℕ) → ones ≤ count_at S one → twos ≤ count_at S two → ones * 49 + twos < place → Right S counts changes ones twos
