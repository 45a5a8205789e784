-- Where the call is refused, nothing is written.
use Rattle.planner.proofs.Promise.{refused_leaves}
use Rattle.planner.proofs.outcome.Goals as goal

pub returns-in_err-refusal-clause-leaves : goal.returns-in_err-refusal-clause-leaves
returns-in_err-refusal-clause-leaves c = refused_leaves _ _ _ c.in_err-refusal.ensures
