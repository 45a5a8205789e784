-- The loop's invariant: the trains at the places so far leave when the times tell.
use Rattle.std.proofs.Common.{length}
use Rattle.planner.proofs.Places.{Written}
use Rattle.planner.proofs.writer.write.Given as goal

abbrev pub invariant-loop-place : goal.invariant-loop-place
invariant-loop-place l = Written l.count l.places l.times (length l.yielded) l.departures
