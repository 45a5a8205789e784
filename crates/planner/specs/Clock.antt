-- The running clock: when a station's next train leaves, and the clock once it has.
-- Nothing here chooses between the stations.
use Rattle.std.specs.Prelude.{cond, List, ℕ, ◌+◌, ◌-◌, ◌≤◌, T, ℤ, pos, Option, None, Some}
use Rattle.rules.specs.declared.Timing.{Timing}
use Rattle.rules.specs.declared.Station.{Station}
use Rattle.rules.specs.declared.Station.TheVariants.{One as one, Two as two}
use Rattle.rules.specs.Line.{good_timing, gap, arrival, same_station}
use Rattle.rules.specs.Objectives.{aim_of}
use Rattle.planner.specs.declared.clock.Clock.{Clock}
use Rattle.planner.specs.declared.clock.Departure.{Departure}
use Rattle.planner.specs.declared.clock.Terms.{Terms}

-- what station 1 has, or what station 2 has
abbrev pub by_station : {A : Type 0} → Station → A → A → A
by_station one x y = x
by_station two x y = y

-- the second of the last departure, 0 before the first
abbrev pub second_of : Option Departure → ℕ
second_of None = 0
second_of (Some last) = last.second

-- before the first train second 0, then as early as the gap to the last one allows
abbrev pub departs_after : Timing → Option Departure → Station → ℕ
departs_after t None s = 0
departs_after t (Some last) s = last.second + gap t last.station s

unfoldable pub departs : Timing → Clock → Station → ℕ
departs t c s = departs_after t c.last s

-- 1 where the last train was another station's
abbrev pub change : Option Departure → Station → ℕ
change None s = 0
change (Some last) s = cond (same_station last.station s) 0 1

unfoldable pub changed : Clock → Station → ℕ
changed c s = c.changes + change c.last s

-- a value so far with one cost more; before the first train there is none
abbrev pub joined_after : (ℤ → ℤ → ℤ) → Option Departure → ℤ → ℤ → ℤ
joined_after join None value cost = cost
joined_after join (Some last) value cost = join value cost

-- before the first train, with so many left
unfoldable pub start : ℕ → ℕ → Clock
start ones twos = record { last = None; changes = 0; ones = ones; twos = twos; value = pos 0 }

-- the clock of a cell of the tables: after a departure and so many changes of station, with no value yet
unfoldable pub cell_clock : Station → ℕ → ℕ → ℕ → ℕ → Clock
cell_clock s departure changes ones twos =
    record {
      last = Some (record { station = s; second = departure });
      changes = changes;
      ones = ones;
      twos = twos;
      value = pos 0;
    }

-- the clock once the next train of a station, with these figures, has left; the value is its cost alone
unfoldable pub alone : Terms → Clock → Station → List ℤ → Clock
alone w c s x = record {
  last = Some (record { station = s; second = departs w.timing c s });
  changes = changed c s;
  ones = c.ones - by_station s 1 0;
  twos = c.twos - by_station s 0 1;
  value = (aim_of w.objective).cost x (arrival w.timing s (departs w.timing c s));
}

-- the same, with its cost joined to the value so far
unfoldable pub next : Terms → Clock → Station → List ℤ → Clock
next w c s x =
    let after : Clock = alone w c s x in
    record {
      last = after.last;
      changes = after.changes;
      ones = after.ones;
      twos = after.twos;
      value = joined_after (aim_of w.objective).joined c.last c.value after.value;
    }

-- a clock whose next train leaves and arrives in time to be counted in 32 bits
pub record Near (t : Timing) (c : Clock) : Type 0 where
  pub timed : T (good_timing t)
  pub soon : second_of c.last ≤ 1000000
  pub few : c.changes ≤ 96
