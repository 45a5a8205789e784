-- The printed lines: the outcome and the value, then a line for each train; or the refusal.
-- Fields are parted by one space (32), and every line ends in a line end (10).
use Rattle.std.specs.Prelude.{List, [], ◌∷◌, ◌++◌, map, ℕ, ◌-◌}
use Rattle.rules.specs.declared.Station.{Station}
use Rattle.rules.specs.declared.Station.TheVariants.{One as one, Two as two}
use Rattle.rules.specs.Line.{arrival}
use Rattle.rules.specs.Trains.{Section, first_number, Run, runs}
use Rattle.rules.specs.Answers.{Verdict, value_is, refused}
use Rattle.text.specs.Bytes.{bytes}
use Rattle.text.specs.Written.{decimal, signed}

-- the words of an answer
unfoldable pub planned : List ℕ
planned = bytes "planned"

unfoldable pub judged : List ℕ
judged = bytes "judged"

unfoldable pub refused_word : List ℕ
refused_word = bytes "refused"

unfoldable pub unreadable_word : List ℕ
unreadable_word = bytes "unreadable"

-- fields, parted by a space, as a line
abbrev pub line : List (List ℕ) → List ℕ
line [] = 10 ∷ []
line (f ∷ []) = f ++ (10 ∷ [])
line (f ∷ g ∷ gs) = f ++ (32 ∷ line (g ∷ gs))

abbrev pub station_number : Station → ℕ
station_number one = 1
station_number two = 2

-- a train's station, its place in that station's list from 0, its departure, its arrival
unfoldable pub train_line : Section → Run → List ℕ
train_line S r =
    line
    (decimal (station_number r.train.station)
    ∷ decimal (r.train.number - first_number S r.train.station)
    ∷ decimal r.departure
    ∷ decimal (arrival S.timing r.train.station r.departure) ∷ [])

abbrev pub all_lines : List (List ℕ) → List ℕ
all_lines [] = []
all_lines (l ∷ ls) = l ++ all_lines ls

-- what is printed of an answer that begins with a word, and of the departures that it is about
abbrev pub printed : List ℕ → Section → Verdict → List ℕ → List ℕ
printed word S (value_is v) departures = line (word ∷ signed v ∷ []) ++ all_lines (map (train_line S) (runs S departures))
printed word S (refused number first second) departures = line (refused_word ∷ decimal number ∷ decimal first ∷ decimal second ∷ [])
