-- A recorded schedule, train by train: whether one is late, which two are in conflict, and what the total asks of all.
use Rattle.std.specs.Prelude.{Bool, not, Option, Some, MatchOption, List, ℕ, suc, ◌<◌, ◌≤◌, ltb, length, get_or}
use Rattle.std.specs.Int.Signed.{mag}
use Rattle.rules.specs.Trains.{Section, count, Run}
use Rattle.rules.specs.Safe.{keeps}
use Rattle.rules.specs.Value.{cost_of}
use Rattle.rules.proofs.Trains.{nth}
use Rattle.refusals.specs.First.{NonePass, IsFirst}

-- the train with a number, and its recorded departure
abbrev pub run : Section → List ℕ → ℕ → Run
run S departures k = record { train = nth S k; departure = get_or departures k 0 }

unfoldable pub late : List ℕ → ℕ → Bool
late departures k = ltb 10000000 (get_or departures k 0)

-- two trains, the first with the smaller number, break R1, R2 or R3
unfoldable pub clash : Section → List ℕ → ℕ → ℕ → Bool
clash S departures i j = not (keeps S (run S departures i) (run S departures j))

-- no train after the i-th is in conflict with it
abbrev pub NoClash : Section → List ℕ → ℕ → Type 0
NoClash S departures i = NonePass (clash S departures i) (suc i) (length departures)

-- the pair in conflict with the smallest first number, then the smallest second; or nothing where there is none
abbrev pub IsFirstConflict : Section → List ℕ → Option (ℕ × ℕ) → Type 0
IsFirstConflict S departures found =
    MatchOption found ((i : ℕ) → i < length departures → NoClash S departures i)
    (λ pair. (pair.0 < length departures)
    × IsFirst (clash S departures pair.0) (suc pair.0) (length departures) (Some pair.1)
    × ((i : ℕ) → i < pair.0 → NoClash S departures i))

-- departures that are not refused: none is late, and no cost is so large that a total of 96 could not hold it
pub record Judged (S : Section) (departures : List ℕ) : Type 0 where
  pub filled : 0 < count S
  pub hurried : S.timing.running ≤ 10000
  pub timely : (k : ℕ) → k < count S → get_or departures k 0 ≤ 10000000
  pub small : (k : ℕ) → k < count S → mag (cost_of S (run S departures k)) ≤ 100100000000
