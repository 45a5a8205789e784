-- The tables are right up to the next row.
use Rattle.std.proofs.Common.{◌*◌}
use Rattle.planner.specs.Day.{Tables}
use Rattle.planner.specs.Filled.{section_of}
use Rattle.planner.proofs.tables.fill.Given as goal

abbrev pub invariant-loop-ones : goal.invariant-loop-ones
invariant-loop-ones l = Tables (section_of l.day) l.counts l.changes (l.ones * 49)
