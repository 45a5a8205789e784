-- The first bad train of station 1, else of station 2, is named.
use lib.IntN.{pos}
use Rattle.rules.specs.Trains.{told}
use Rattle.refusals.proofs.Parts.{bad_one, bad_two}
use Rattle.refusals.proofs.train_refusal.Goals as goal

pub returns-in-Some : goal.returns-in-Some
returns-in-Some c = bad_one (told c.args.section) c.args.places (pos 0) c.in-Some.bad c.in-Some.ensures

pub returns-in-Some-first_bad : goal.returns-in-Some-first_bad
returns-in-Some-first_bad c =
    rw c.trains_in-ones.ensures
    (bad_two
    (told c.args.section)
    c.args.places
    (pos 0)
    c.in_default.ensures
    c.in-Some-first_bad.bad
    c.in-Some-first_bad.ensures)
