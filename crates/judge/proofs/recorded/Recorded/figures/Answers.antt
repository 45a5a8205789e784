-- The train is one of station 1's or of station 2's, as the test says.
use Rattle.std.proofs.Common.{◌∙◌}
use Rattle.rules.specs.Trains.{told, aim}
use Rattle.judge.proofs.Trains.{figures_one, figures_two, one_within, two_within}
use Rattle.judge.proofs.recorded.Recorded.figures.Goals as goal

pub figures_in-requires : goal.figures_in-requires
unfolding aim
figures_in-requires c = one_within (told c.args.self.now.section) c.args.k c.args.self.now.by_station c.if-k-self.true

pub figures_in-requires-else-k-self : goal.figures_in-requires-else-k-self
unfolding aim
figures_in-requires-else-k-self c =
    two_within (told c.args.self.now.section) c.args.k c.args.self.now.by_station c.if-k-self.false c.requires

pub returns-then-k-self : goal.returns-then-k-self
unfolding aim
returns-then-k-self c =
    c.figures_in.ensures ∙ figures_one (told c.args.self.now.section) c.args.k c.args.self.now.by_station c.if-k-self.true

pub returns-else-k-self : goal.returns-else-k-self
unfolding aim
returns-else-k-self c =
    c.figures_in-else-k-self.ensures ∙
    figures_two (told c.args.self.now.section) c.args.k c.args.self.now.by_station c.if-k-self.false
