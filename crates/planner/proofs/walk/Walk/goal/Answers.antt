-- The best of the rest at the start, from the figures of the stations' first trains.
use Rattle.std.proofs.Common.{to_z-of_z}
use borrow.Author.Rules.{sfits_of}
use Rattle.planner.proofs.Strides.{start_chooses, start_best}
use Rattle.planner.proofs.walk.Walk.goal.Goals as goal

pub best-requires : goal.best-requires
best-requires c =
    rw c.start.ensures
    (start_chooses c.args.self.day.now c.args.self.filled c.next_trains-next.ensures.first c.next_trains-next.ensures.second)

pub returns : goal.returns
returns c =
    rw (to_z-of_z (sfits_of c.best.type_inv), c.best.ensures, c.start.ensures)
    (start_best c.args.self.day.now c.args.self.filled c.next_trains-next.ensures.first c.next_trains-next.ensures.second)
