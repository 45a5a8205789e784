-- The departure of the train that leaves is written, at its place among its station's.
use Rattle.std.proofs.Common.{arith, refl, to_z-of_z}
use Rattle.planner.proofs.Entries.{gone_few}
use Rattle.planner.proofs.Stepping.{some_left}
use Rattle.planner.proofs.Strides.{next_near}
use Rattle.planner.proofs.Timetable.{noted_none, noted_all, step_fewer, one_placed, two_placed, one_noted, two_noted}
use Rattle.planner.proofs.walk.Walk.times.Goals as goal
use Rattle.planner.proofs.walk.Walk.times.Goals.{in-One, in-Two}

pub loop-clock-init : goal.loop-clock-init
loop-clock-init c = rw c.start-clock.ensures (noted_none c.args.self.day.now _ _ _ refl refl)

pub overflow_add-clock : goal.overflow_add-clock
overflow_add-clock c = omega (arith, gone_few _ c.args.self.day.now.planned.accepted _ c.loop-clock.invariant.running)

pub departs-second-requires : goal.departs-second-requires
departs-second-requires c = next_near c.args.self.day.now _ c.loop-clock.invariant.running

pub overflow_sub-times : goal.overflow_sub-times
overflow_sub-times c =
    (one_placed c.args.self.day.now _ c.loop-clock.invariant c.loop-clock-test.true c.goes-station.ensures c.in-One.is).0

pub offset_bounds-times-terms : goal.offset_bounds-times-terms
offset_bounds-times-terms c =
    record {
      fits = omega (arith, one_placed c.args.self.day.now _ c.loop-clock.invariant c.loop-clock-test.true c.goes-station.ensures c.in-One.is);
    }

pub bounds-times-terms : goal.bounds-times-terms
bounds-times-terms c =
    (one_placed c.args.self.day.now _ c.loop-clock.invariant c.loop-clock-test.true c.goes-station.ensures c.in-One.is).1

pub overflow_sub-times-in-Two : goal.overflow_sub-times-in-Two
overflow_sub-times-in-Two c =
    (two_placed c.args.self.day.now _ c.loop-clock.invariant c.loop-clock-test.true c.goes-station.ensures c.in-Two.is).0

pub offset_bounds-times-terms-in-Two : goal.offset_bounds-times-terms-in-Two
offset_bounds-times-terms-in-Two c =
    record {
      fits = omega (arith, two_placed c.args.self.day.now _ c.loop-clock.invariant c.loop-clock-test.true c.goes-station.ensures c.in-Two.is);
    }

pub bounds-times-terms-in-Two : goal.bounds-times-terms-in-Two
bounds-times-terms-in-Two c =
    (two_placed c.args.self.day.now _ c.loop-clock.invariant c.loop-clock-test.true c.goes-station.ensures c.in-Two.is).1

pub goes_on-clock-requires-clause-left : goal.goes_on-clock-requires-clause-left
goes_on-clock-requires-clause-left c = rw c.goes-station.ensures (some_left _ _ _ c.loop-clock-test.true)

pub loop-clock-smaller : goal.loop-clock-smaller
loop-clock-smaller c =
    step_fewer c.args.self.day.now _ c.loop-clock.invariant c.loop-clock-test.true c.goes-station.ensures c.goes_on-clock.ensures

pub loop-clock-preserved : goal.loop-clock-preserved
loop-clock-preserved c =
    elim c.match-station.branch [
      | in-One w ↦
          rw w.times-is
          (one_noted c.args.self.day.now _ c.loop-clock.invariant c.loop-clock-test.true c.goes-station.ensures c.goes_on-clock.ensures
          c.departs-second.ensures w.in-One.is)
      | in-Two w ↦
          rw w.times-is
          (two_noted c.args.self.day.now _ c.loop-clock.invariant c.loop-clock-test.true c.goes-station.ensures c.goes_on-clock.ensures
          c.departs-second.ensures w.in-Two.is)
    ]

pub returns : goal.returns
returns c =
    rw (to_z-of_z c.ranges.goal) at (noted_all _ c.args.self.day.now.planned.accepted _ _ _ _ c.loop-clock.invariant c.loop-clock-test.false)
