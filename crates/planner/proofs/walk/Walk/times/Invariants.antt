-- The departures written so far and those of the runs left are the whole day's.
use Rattle.std.proofs.Common.{◌+◌}
use Rattle.planner.specs.Filled.{section_of}
use Rattle.planner.proofs.Timetable.{Noted}
use Rattle.planner.proofs.walk.Walk.times.Given as goal

abbrev pub invariant-loop-clock : goal.invariant-loop-clock
invariant-loop-clock l = Noted (section_of l.self.day.now) l.goal l.clock l.times.one l.times.two

abbrev pub decreases-loop-clock : goal.decreases-loop-clock
decreases-loop-clock l = l.clock.ones + l.clock.twos
