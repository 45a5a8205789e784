-- What trainees ask: can waiting help, can another order within a station, is the longer queue first best?
-- The answers are stated here over the rules, and shown in proofs/Trainees.antt.
use Rattle.std.specs.Prelude.{cond, List, ◌++◌, map, ℕ, ◌≤◌, leb, get_or, replicate, ◌≤ℤ◌}
use Rattle.rules.specs.declared.Station.{Station}
use Rattle.rules.specs.declared.Station.TheVariants.{One as one, Two as two}
use Rattle.rules.specs.Line.{arrival}
use Rattle.rules.specs.Trains.{Section, count_at, Train, trains_at, runs}
use Rattle.rules.specs.Safe.{Safe}
use Rattle.rules.specs.Value.{value}
use Rattle.rules.specs.Orders.{Order, sent, by_number, station_order}
use Rattle.theory.specs.Permutations.{Perm}
use Rattle.theory.specs.Timed.{timed}
use Rattle.best.specs.Demand.{LeaveInOrder}

-- a schedule's own order: its trains as they leave
unfoldable pub own_order : Section → List ℕ → List Train
own_order S departures = map (λ r. r.train) (timed (runs S departures))

-- the same order without waiting
unfoldable pub prompt : Section → List ℕ → List ℕ
prompt S departures = by_number S (sent S.timing (λ s. 0) (own_order S departures))

-- Can waiting help? Without it the schedule is safe, no train arrives later, and the value is no greater.
pub record WaitingNeverHelps (S : Section) (departures : List ℕ) : Type 0 where
  pub safe : Safe S (prompt S departures)
  pub no_later : (s : Station) (number : ℕ)
      → arrival S.timing s (get_or (prompt S departures) number 0) ≤ arrival S.timing s (get_or departures number 0)
  pub no_greater : value S (prompt S departures) ≤ℤ value S departures

-- the seconds at which a station's trains leave, by their list
unfoldable pub seconds : Section → List ℕ → Station → List ℕ
seconds S departures s = map (λ x. get_or departures x.number 0) (trains_at S s)

-- Can another order within a station help? At the same seconds, trains in the station's order are safe and cost no more.
pub record StationOrderServes (S : Section) (departures : List ℕ) : Type 0 where
  pub ordered : List ℕ
  pub safe : Safe S ordered
  pub same_seconds : (s : Station) → Perm (seconds S departures s) (seconds S ordered s)
  pub in_order : (s : Station) → LeaveInOrder ordered (station_order S s)
  pub no_greater : value S ordered ≤ℤ value S departures

-- Is it best to clear the longer queue first, station 1's where both are as long?
unfoldable pub longer_first : Section → Order
longer_first S =
    let firsts : Order = replicate (count_at S one) one in
    let seconds : Order = replicate (count_at S two) two in
    cond (leb (count_at S two) (count_at S one)) (firsts ++ seconds) (seconds ++ firsts)
