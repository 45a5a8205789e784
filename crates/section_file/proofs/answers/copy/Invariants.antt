-- The loop's invariant: the departures so far are those recorded.
use Rattle.std.proofs.Common.{length, ◌≡◌, take, map, nat_abs}
use Rattle.section_file.proofs.answers.copy.Given as goal

abbrev pub invariant-loop-k : goal.invariant-loop-k
invariant-loop-k l =
    (length l.departures ≡ length l.recorded) × (take l.k l.departures ≡ map nat_abs (take l.k l.recorded))
