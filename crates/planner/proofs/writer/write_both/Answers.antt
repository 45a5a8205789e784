-- Each part is as long as its station's list, and the parts come back one after the other.
use Rattle.planner.proofs.Lent.{both}
use Rattle.planner.proofs.writer.write_both.Goals as goal

pub returns : goal.returns
returns c = both _ _ _ c.requires.split c.write.auto.departures _ _ _ _ _ c.write.ensures c.write-2.ensures
