-- The loop's invariant: there is a pair for each train gone, and those of the changes so far are filled.
use Rattle.std.proofs.Common.{◌≡◌, length}
use Rattle.planner.specs.Clock.{cell_clock}
use Rattle.planner.specs.Cells.{seconds, Pairs}
use Rattle.planner.specs.Filled.{best_from}
use Rattle.planner.proofs.cells.change_cell.Given as goal

abbrev pub invariant-loop-k : goal.invariant-loop-k
invariant-loop-k l =
    (length l.values-items ≡ l.gone) × (l.k-end ≡ l.gone) × Pairs l.k
    (λ k s. best_from l.terms (cell_clock s (seconds l.terms.timing k l.gone) k l.ones l.twos) l.next l.rests)
    l.values-items
