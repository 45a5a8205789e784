-- A row ends where all of station 2's trains are left.
use Rattle.std.proofs.Common.{arith}
use Rattle.planner.proofs.Filling.{row_filled}
use Rattle.planner.proofs.tables.fill_row.Goals as goal

pub returns-2 : goal.returns-2
returns-2 g c = row_filled _ _ _ _ _ c.args.day.now.planned c.args.ones c.loop-twos.twos (omega arith) c.fill_cell.ensures
