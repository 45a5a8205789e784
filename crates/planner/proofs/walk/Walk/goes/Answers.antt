-- Where both stations have a train, the code's test is the goal's.
use Rattle.std.proofs.Common.{arith, sym, to_z-of_z}
use borrow.Author.Rules.{sfits_of}
use Rattle.planner.proofs.Strides.{day_held, day_fits, tested}
use Rattle.planner.proofs.walk.Walk.goes.Goals as goal

pub day-requires-clause-held : goal.day-requires-clause-held
day-requires-clause-held c =
    day_held c.args.self.day.now c.args.self.filled _ c.requires.running c.requires.counted
    (omega (arith, c.if-clock-eq0.false)) c.goes_on-after.ensures

pub day-requires-clause-fits : goal.day-requires-clause-fits
day-requires-clause-fits c =
    day_fits c.args.self.day.now c.args.self.filled _ c.requires.running c.requires.counted
    (omega (arith, c.if-clock-eq0.false)) c.goes_on-after.ensures

pub returns-then-day-goal : goal.returns-then-day-goal
returns-then-day-goal c =
    sym
    (tested c.args.self.day.now c.args.self.filled _ c.requires.running c.requires.counted
    (omega (arith, c.if-clock-eq0.false)) c.goes_on-after.ensures (omega (arith, c.if-clock-eq0-2.false)) c.day.ensures c.args.goal
    (rw (to_z-of_z (sfits_of c.day.type_inv), to_z-of_z c.ranges.goal) at c.if-day-goal.true))

pub returns-else-day-goal : goal.returns-else-day-goal
returns-else-day-goal c =
    sym
    (tested c.args.self.day.now c.args.self.filled _ c.requires.running c.requires.counted
    (omega (arith, c.if-clock-eq0.false)) c.goes_on-after.ensures (omega (arith, c.if-clock-eq0-2.false)) c.day.ensures c.args.goal
    (rw (to_z-of_z (sfits_of c.day.type_inv), to_z-of_z c.ranges.goal) at c.if-day-goal.false))
