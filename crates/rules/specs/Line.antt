-- The line: two stations and one track between them, how far apart departures are kept, and when a train arrives.
-- Who waits how long for whom is said here and nowhere else.
use Rattle.std.specs.Prelude.{Bool, true, false, ◌&&◌, ◌||◌, ℕ, ◌+◌, ◌-◌, leb}
use Rattle.rules.specs.declared.Station.{Station}
use Rattle.rules.specs.declared.Station.TheVariants.{One as one, Two as two}
use Rattle.rules.specs.declared.Timing.{Timing}

-- the running time p is 2 to 10,000, and the headway β is 1 to p - 1
unfoldable pub good_running : Timing → Bool
good_running t = leb 2 t.running && leb t.running 10000

unfoldable pub good_headway : Timing → Bool
good_headway t = leb 1 t.headway && leb t.headway (t.running - 1)

unfoldable pub good_timing : Timing → Bool
good_timing t = good_running t && good_headway t

-- seconds from a departure to the next one at the earliest: the headway at one station, the running time between the two
abbrev pub gap : Timing → Station → Station → ℕ
gap t one one = t.headway
gap t one two = t.running
gap t two one = t.running
gap t two two = t.headway

unfoldable pub running : Timing → Station → ℕ
running t s = t.running

unfoldable pub arrival : Timing → Station → ℕ → ℕ
arrival t s departure = departure + running t s

-- R1 and R2: of two departures, one is at least the gap after the other
unfoldable pub apart : Timing → Station → ℕ → Station → ℕ → Bool
apart t s d s' d' = leb (d + gap t s s') d' || leb (d' + gap t s' s) d

abbrev pub same_station : Station → Station → Bool
same_station one one = true
same_station one two = false
same_station two one = false
same_station two two = true
