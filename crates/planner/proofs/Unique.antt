-- The planner's promise settles its answer and every departure.
use Rattle.std.proofs.Common.{sym, ◌∙◌}
use Rattle.promises.specs.Settles.{Settles, Leaves}
use Rattle.rules.proofs.Answers.{same_answer}
use Rattle.planner.proofs.plan.Reads as plan

pub one_answer : Settles plan.Post
one_answer κs args r r' exit exit' p q = same_answer r r' (p.0 ∙ sym q.0)

pub one_plan : Leaves plan.Post (λ κs exit. exit.1.1.1.1.0.now)
one_plan κs args r r' exit exit' p q = p.1.0 ∙ sym q.1.0
