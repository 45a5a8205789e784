-- The printed lines as the code goes through them, station by station, and the answers whose departures are all there.
-- No public promise cites these. proofs/ shows that the lines are those of the section's trains.
use Rattle.std.specs.Prelude.{List, [], ◌∷◌, ◌++◌, ◌≡◌, ℕ, suc, ◌≤◌, length, take}
use Rattle.rules.specs.declared.Station.{Station}
use Rattle.rules.specs.declared.Timing.{Timing}
use Rattle.rules.specs.Line.{arrival}
use Rattle.rules.specs.Trains.{Section, count}
use Rattle.rules.specs.Answers.{Verdict, value_is, refused}
use Rattle.text.specs.Written.{decimal}
use Rattle.section_file.specs.Lines.{refused_word, line, station_number}

-- a page with more bytes on it, as many as it has room for
abbrev pub with_more : List ℕ → List ℕ → List ℕ
with_more page bytes = take 8192 (page ++ bytes)

-- the line of the train at a place of its station
abbrev pub train_at : Timing → Station → ℕ → ℕ → List ℕ
train_at t s place departure =
    line (decimal (station_number s) ∷ decimal place ∷ decimal departure ∷ decimal (arrival t s departure) ∷ [])

-- the lines of a station's trains from a place on, by their departures
abbrev pub station_lines : Timing → Station → ℕ → List ℕ → List ℕ
station_lines t s place [] = []
station_lines t s place (d ∷ ds) = train_at t s place d ++ station_lines t s (suc place) ds

-- the line of a refusal
abbrev pub refusal_line : ℕ → ℕ → ℕ → List ℕ
refusal_line number first second = line (refused_word ∷ decimal number ∷ decimal first ∷ decimal second ∷ [])

-- a value is of a departure for each train, and of no more trains than are accepted
abbrev pub Complete : Section → Verdict → List ℕ → Type 0
Complete S (value_is v) departures = (length departures ≡ count S) × (count S ≤ 96)
Complete S (refused number first second) departures = Unit
