-- The later trains of station 1 are tried, then those of station 2.
use Rattle.std.proofs.Common.{arith, add-one, ◌+◌, length}
use Rattle.rules.specs.Trains.{told}
use Rattle.judge.specs.Recorded.{clash}
use Rattle.judge.proofs.Pairs.{first_before}
use Rattle.judge.proofs.Trains.{ones_within, station_one, station_two}
use Rattle.judge.proofs.recorded.Recorded.conflict_after.Goals as goal

pub conflict_among-requires-clause-numbered : goal.conflict_among-requires-clause-numbered
conflict_among-requires-clause-numbered c =
    let ones = ones_within (told c.args.self.now.section) c.args.self.now.by_station in
    (c.requires, omega (arith, ones, c.args.self.now.each))

pub conflict_among-requires-clause-there : goal.conflict_among-requires-clause-there
conflict_among-requires-clause-there c = λ j from before.
    station_one (told c.args.self.now.section) j c.args.self.now.by_station (omega arith)

pub returns-in-Some : goal.returns-in-Some
returns-in-Some c =
    let ones = ones_within (told c.args.self.now.section) c.args.self.now.by_station in
    rw add-one at
    (first_before
    (clash (told c.args.self.now.section) c.args.self.now.departures.now c.args.i)
    (c.args.i + 1)
    c.max-twos.result
    (length c.args.self.now.departures.now)
    c.in-Some.j
    (omega (arith, ones, c.args.self.now.each))
    c.in-Some.ensures)

pub conflict_among-requires-2-clause-there : goal.conflict_among-requires-2-clause-there
conflict_among-requires-2-clause-there c = λ j from before.
    station_two (told c.args.self.now.section) j c.args.self.now.by_station (omega arith)
