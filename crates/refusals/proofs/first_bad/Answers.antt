-- The range counts up from the first train, and each is tried.
use Rattle.std.proofs.Common.{rules, tests, ◌≡◌, true, false}
use Rattle.std.proofs.lemmas.Iterator.{first_from_Range}
use Rattle.refusals.specs.Trains.{bad_at}
use Rattle.refusals.proofs.first_bad.Goals as goal

pub returns : goal.returns
returns c =
    let bad = bad_at c.args.objective c.args.list.now in
    rw (← c.trains_in.ensures)
    (first_from_Range _ _ _ _ (λ k. bad k ≡ true) (λ k. bad k ≡ false) c.find.ensures.ran (λ k q called. search (rules, tests)) (λ k q called. search (rules, tests)))
