-- The cell is right, and the tables with it are right one place further.
use Rattle.std.proofs.Common.{sym, ◌∙◌}
use Rattle.planner.proofs.Filling.{ChangeCell, CountCell, change_cell, count_cell}
use Rattle.planner.proofs.tables.fill_cell.Given.{Over}
use Rattle.planner.proofs.tables.fill_cell.Goals as goal
use Rattle.planner.proofs.tables.fill_cell.Goals.{Then-listed, Else-listed}

-- once both next trains are known: the cell as the laws have it, where list order is kept
listed : (g : Over) (c : Then-listed g)
    → ChangeCell c.args.day.now.terms c.args.day.now.one.list.now c.args.day.now.two.list.now c.args.counts.now c.args.changes.now c.args.ones c.args.twos
    c.next_trains-next.result.one.now c.next_trains-next.result.two.now
listed g c =
    change_cell _ _ _ _ _ c.args.day.now.planned c.args.ones c.args.twos c.requires.within c.requires.tables c.next_trains-next.ensures.first c.next_trains-next.ensures.second
    (sym c.listed.ensures ∙ c.if-listed.true)

-- and where it is free
free : (g : Over) (c : Else-listed g)
    → CountCell c.args.day.now.terms c.args.day.now.one.list.now c.args.day.now.two.list.now c.args.counts.now c.args.changes.now c.args.ones c.args.twos
    c.next_trains-next.result.one.now c.next_trains-next.result.two.now
free g c =
    count_cell _ _ _ _ _ c.args.day.now.planned c.args.ones c.args.twos c.requires.within c.requires.tables c.next_trains-next.ensures.first c.next_trains-next.ensures.second
    (sym c.listed.ensures ∙ c.if-listed.false)

pub change_cell-cell-requires : goal.change_cell-cell-requires
change_cell-cell-requires g c = (listed g c).asks

pub bounds-changes-ones : goal.bounds-changes-ones
bounds-changes-ones g c = (listed g c.before).place.0

pub bounds-changes-twos : goal.bounds-changes-twos
bounds-changes-twos g c = (listed g c.before).place.1

pub count_cell-cell-requires-clause-chooses : goal.count_cell-cell-requires-clause-chooses
count_cell-cell-requires-clause-chooses g c = (free g c).asks.0

pub count_cell-cell-requires-clause-rates : goal.count_cell-cell-requires-clause-rates
count_cell-cell-requires-clause-rates g c = (free g c).asks.1

pub returns-then-listed : goal.returns-then-listed
returns-then-listed g c = (listed g c.before).stored c.change_cell-cell.result c.change_cell-cell.ensures

pub returns-else-listed : goal.returns-else-listed
returns-else-listed g c =
    (free g c.before).stored c.count_cell-cell.result (c.count_cell-cell.ensures.pair, c.count_cell-cell.ensures.rises)
