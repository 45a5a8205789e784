-- The figures are those of the station's next train.
use Rattle.std.proofs.Common.{◌∙◌}
use Rattle.planner.proofs.Strides.{next_goes, next_fits, next_near, next_within}
use Rattle.planner.proofs.walk.Walk.goes_on.Goals as goal

pub next_train-figures-requires : goal.next_train-figures-requires
next_train-figures-requires c =
    rw c.left.ensures (next_within c.args.self.day.now _ c.requires.running c.args.station)

pub next-requires-clause-near : goal.next-requires-clause-near
next-requires-clause-near c = next_near c.args.self.day.now _ c.requires.running

pub next-requires-clause-fits : goal.next-requires-clause-fits
next-requires-clause-fits c =
    next_fits c.args.self.day.now _ c.requires.running c.args.station c.requires.left
    (rw c.left.ensures at c.next_train-figures.ensures) c.requires.counted

pub returns : goal.returns
returns c =
    c.next.ensures
    ∙ next_goes c.args.self.day.now _ c.requires.running c.args.station c.requires.left
    (rw c.left.ensures at c.next_train-figures.ensures)
