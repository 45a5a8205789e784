-- The loop's invariant: the steps before `k` cost what the row does.
use Rattle.std.proofs.Common.{◌≡◌, ◌≤◌}
use Rattle.rules.specs.Figures.{row_cost}
use Rattle.costs.proofs.Rows.{so_far}
use Rattle.costs.proofs.Row.cost_at.Given as goal

abbrev pub invariant-loop-k : goal.invariant-loop-k
invariant-loop-k l = (l.k ≤ 8) × (so_far l.self.0.now l.arrival l.k ≡ row_cost l.self.0.now l.arrival)
