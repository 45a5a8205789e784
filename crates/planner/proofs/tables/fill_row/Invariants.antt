-- The tables are right up to the next cell of the row.
use Rattle.std.proofs.Common.{◌+◌, ◌*◌}
use Rattle.planner.specs.Day.{Tables}
use Rattle.planner.specs.Filled.{section_of}
use Rattle.planner.proofs.tables.fill_row.Given as goal

abbrev pub invariant-loop-twos : goal.invariant-loop-twos
invariant-loop-twos g l = Tables (section_of l.day) l.counts l.changes (l.ones * 49 + l.twos)
