-- When a schedule is safe: R1, R2 and R3 hold for every pair of its trains.
-- Waiting and a late first train are safe: nothing here asks a train to leave early.
use Rattle.std.specs.Prelude.{Bool, not, ◌&&◌, ◌||◌, List, [], ◌≡◌, ℕ, ltb}
use Rattle.rules.specs.Lists.{those, pairs}
use Rattle.rules.specs.Line.{apart, same_station}
use Rattle.rules.specs.Trains.{Section, aim, Run, runs}

-- R3, of a train and one with a larger number: where list order is kept at their station, the first leaves first
unfoldable pub in_order : Section → Run → Run → Bool
in_order S r r' =
    not ((aim S).listed && same_station r.train.station r'.train.station) || ltb r.departure r'.departure

unfoldable pub keeps : Section → Run → Run → Bool
keeps S r r' =
    apart S.timing r.train.station r.departure r'.train.station r'.departure && in_order S r r'

-- the pairs that break R1, R2 or R3, by the first train's number, then the second's
unfoldable pub conflicts : Section → List ℕ → List (Run × Run)
conflicts S departures = those (λ pair. not (keeps S pair.0 pair.1)) (pairs (runs S departures))

unfoldable pub Safe : Section → List ℕ → Type 0
Safe S departures = conflicts S departures ≡ []
