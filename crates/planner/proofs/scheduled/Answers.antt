-- The tables are filled, the walk's goal is the best value, and what is written is the plan.
use Rattle.std.proofs.Common.{to_z-of_z}
use borrow.Author.Rules.{sfits_of}
use Rattle.planner.proofs.Beginning.{nothing_filled}
use Rattle.planner.proofs.Results.{first_covered, second_covered, goal_best, plan_left}
use Rattle.planner.proofs.scheduled.Goals as goal

pub fill-requires : goal.fill-requires
fill-requires c = nothing_filled _ _ _

pub write_both-requires-clause-first_covers : goal.write_both-requires-clause-first_covers
write_both-requires-clause-first_covers c = first_covered c.args.day c.requires

pub write_both-requires-clause-second_covers : goal.write_both-requires-clause-second_covers
write_both-requires-clause-second_covers c = second_covered c.args.day c.requires

pub returns-clause-value : goal.returns-clause-value
returns-clause-value c =
    rw (to_z-of_z (sfits_of c.goal-goal.type_inv)) (goal_best c.args.day c.goal-goal.ensures)

pub returns-clause-leaves : goal.returns-clause-leaves
returns-clause-leaves c =
    plan_left c.args.day c.goal-goal.ensures c.requires
    (rw (to_z-of_z (sfits_of c.goal-goal.type_inv)) at c.times-times.ensures) c.write_both.ensures
