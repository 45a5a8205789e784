-- The loop's invariant: what is joined so far and the costs that are left make the value, and what is joined so far is small.
use Rattle.std.proofs.Common.{◌≡◌, ◌*◌, ◌≤◌}
use lib.Signed.{mag}
use Rattle.rules.specs.Trains.{told}
use Rattle.rules.specs.Value.{value}
use Rattle.judge.proofs.Totals.{from}
use Rattle.judge.proofs.recorded.Recorded.total.Given as goal

abbrev pub invariant-loop-k : goal.invariant-loop-k
invariant-loop-k l =
    (from (told l.self.section) l.self.departures.now l.total l.k ≡ value (told l.self.section) l.self.departures.now) ×
    (mag l.total ≤ l.k * 100100000001)
