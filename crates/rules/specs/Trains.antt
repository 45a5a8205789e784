-- A section, its trains by number, and the runs that a list of departures gives them.
-- Trains are numbered from 0 through station 1's list and on through station 2's.
use Rattle.std.specs.Prelude.{List, ◌++◌, map, ℕ, ◌+◌, ◌*◌, ◌/◌, ℤ, length, get_or, take, drop}
use Rattle.rules.specs.declared.Timing.{Timing}
use Rattle.rules.specs.declared.Section.{Section as Sheet}
use Rattle.rules.specs.Lists.{count_from}
use Rattle.rules.specs.declared.Station.{Station}
use Rattle.rules.specs.declared.Station.TheVariants.{One as one, Two as two}
use Rattle.rules.specs.Objectives.{Objective, aim_of}

-- what a caller asks about: the objective's number, the timing, station 1's list and station 2's
pub record Section : Type 0 where
  pub objective : ℕ
  pub timing : Timing
  pub one : List ℤ
  pub two : List ℤ

-- the section of a call
abbrev pub asked : ℕ → Timing → List ℤ → List ℤ → Section
asked n t xs ys = record { objective = n; timing = t; one = xs; two = ys }

-- the section that the code's one tells
abbrev pub told : Sheet → Section
told s = asked s.objective s.timing s.one.now s.two.now

unfoldable pub aim : Section → Objective
aim S = aim_of S.objective

abbrev pub list_at : Section → Station → List ℤ
list_at S one = S.one
list_at S two = S.two

unfoldable pub count_at : Section → Station → ℕ
count_at S s = length (list_at S s) / (aim S).numbers

unfoldable pub count : Section → ℕ
count S = count_at S one + count_at S two

pub record Train : Type 0 where
  pub number : ℕ
  pub station : Station
  pub figures : List ℤ

abbrev pub first_number : Section → Station → ℕ
first_number S one = 0
first_number S two = count_at S one

-- the k-th train of a station, from 0
unfoldable pub train_at : Section → Station → ℕ → Train
train_at S s k = record {
  number = first_number S s + k;
  station = s;
  figures = take (aim S).numbers (drop (k * (aim S).numbers) (list_at S s));
}

unfoldable pub trains_at : Section → Station → List Train
trains_at S s = map (train_at S s) (count_from 0 (count_at S s))

unfoldable pub trains : Section → List Train
trains S = trains_at S one ++ trains_at S two

-- a train with its departure
abbrev pub Run : Type 0
Run = record { train : Train; departure : ℕ }

-- departures stand in train number order
unfoldable pub runs : Section → List ℕ → List Run
runs S departures = map (λ x. record { train = x; departure = get_or departures x.number 0 }) (trains S)
