-- The range counts up, and each is tried.
use Rattle.std.proofs.Common.{rules, tests, ◌≡◌, ◌≤◌, ◌<◌, true, false}
use Rattle.std.proofs.lemmas.Iterator.{first_from_Range}
use Rattle.rules.specs.Trains.{told}
use Rattle.judge.specs.Recorded.{clash}
use Rattle.judge.proofs.Pairs.{first_there}
use Rattle.judge.proofs.recorded.Recorded.conflict_among.Goals as goal

pub returns : goal.returns
returns c =
    let clashes = clash (told c.args.self.now.section) c.args.self.now.departures.now c.args.i in
    first_there
    clashes
    c.args.from
    c.args.end
    c.find.result
    (first_from_Range
    _
    _
    _
    _
    (λ j. c.args.from ≤ j → j < c.args.end → clashes j ≡ true)
    (λ j. c.args.from ≤ j → j < c.args.end → clashes j ≡ false)
    c.find.ensures.ran
    (λ j q called from before. let there = c.requires.there j from before in search (rules, tests))
    (λ j q called. (search (rules, tests), λ from before. let there = c.requires.there j from before in search (rules, tests))))
