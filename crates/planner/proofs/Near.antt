-- How far a day can come: a gap is at most 10,000 seconds, and so the next train leaves and arrives in time.
use Rattle.std.proofs.Common.{ℕ, ◌+◌, ◌*◌, ◌≤◌, mul-le-mul, arith, T, Option, Some, None}
use Rattle.rules.specs.declared.Station.{Station}
use Rattle.rules.specs.declared.Timing.{Timing}
use Rattle.rules.specs.Line.{good_timing, arrival}
use Rattle.rules.proofs.Line.{gap_most, arrival_most}
use Rattle.planner.specs.declared.clock.Clock.{Clock}
use Rattle.planner.specs.declared.clock.Departure.{Departure}
use Rattle.planner.specs.Clock.{second_of, departs_after, departs, Near}

pub few_short : {n m : ℕ} → n ≤ 24 → m ≤ 10000 → n * m ≤ 240000
few_short h k = omega (arith, mul-le-mul h k)

pub departs_most : (t : Timing) → T (good_timing t) → (c : Clock) (s : Station) → departs t c s ≤ second_of c.last + 10000
unfolding departs
departs_most t good c s = after c.last
  where
    after : (last : Option Departure) → departs_after t last s ≤ second_of last + 10000
    after None = omega arith
    after (Some last) = omega (arith, gap_most t good last.station s)

pub arrives_by : {t : Timing} {c : Clock} → Near t c → (s : Station) → arrival t s (departs t c s) ≤ 1020000
arrives_by {t} {c} N s = omega (arith, N.soon, departs_most t N.timed c s, arrival_most t N.timed s (departs t c s))
