-- The pair is what the map over the stations made of each.
use Rattle.std.proofs.Common.{arith}
use Rattle.std.proofs.lemmas.Grind.{common_steps}
use Rattle.planner.proofs.CellPairs.{told}
use Rattle.planner.proofs.cells.pair.Goals as goal

pub returns : goal.returns
returns c = told _ _ (grind (arith, common_steps))
