-- The code's names for the table's rows.
use Rattle.std.specs.Prelude.{◌+ℤ◌}
use Rattle.rules.specs.Objectives.{Objective, larger, lateness, weighted, by_rows}
use Rattle.costs.specs.declared.Aim.{Aim}
use Rattle.costs.specs.declared.Aim.TheVariants.{Lateness, Weighted, Summed, Largest}

abbrev pub row_of : Aim → Objective
row_of Lateness = lateness
row_of Weighted = weighted
row_of Summed = by_rows ◌+ℤ◌
row_of Largest = by_rows larger
