-- What is put is what the planner's answer says, with the lines of the departures that it leaves.
use Rattle.std.proofs.Common.{◌∙◌, ap, length-take-le, take, ◌++◌}
use Rattle.rules.specs.Trains.{told}
use Rattle.section_file.specs.Lines.{planned}
use Rattle.section_file.proofs.Trains.{count_found, places_enough}
use Rattle.section_file.proofs.Outcomes.{plan_complete, plan_printed}
use Rattle.section_file.proofs.answers.put_plan.Goals as goal

pub put_answer-requires : goal.put_answer-requires
put_answer-requires c =
    let S = told c.file.inside.section in
    let room = places_enough S.one S.two c.numbers-numbers.result c.file.invariant.0 c.file.invariant.1 in
    rw (c.plan-answer.ensures.answers, c.plan-answer.ensures.leaves)
    (plan_complete S _ (length-take-le _ _ room ∙ count_found S c.numbers-numbers.ensures))

pub returns : goal.returns
unfolding planned
returns c =
    let S = told c.file.inside.section in
    let room = places_enough S.one S.two c.numbers-numbers.result c.file.invariant.0 c.file.invariant.1 in
    rw (← c.file.view_is, c.put_answer.ensures, c.plan-answer.ensures.answers, c.plan-answer.ensures.leaves)
    (ap (λ l. take 8192 (c.args.page.now ++ l)) (plan_printed S _ (length-take-le _ _ room ∙ count_found S c.numbers-numbers.ensures) planned))
