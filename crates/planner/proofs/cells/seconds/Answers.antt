-- Each product is of at most 24 gaps, and so the sum fits.
use Rattle.std.proofs.Common.{◌≡◌, ℕ, ◌-◌, ◌*◌, ◌≤◌, T, arith}
use Rattle.rules.specs.declared.Timing.{Timing}
use Rattle.rules.specs.declared.Station.{Station}
use Rattle.rules.specs.declared.Station.TheVariants.{One as one, Two as two}
use Rattle.rules.specs.Line.{good_timing, gap}
use Rattle.rules.proofs.Line.{gap_most}
use Rattle.planner.proofs.Near.{few_short}
use Rattle.planner.proofs.cells.seconds.Goals as goal

gaps : (t : Timing) → T (good_timing t) → (s s' : Station) (n g : ℕ) → g ≡ gap t s s' → n ≤ 24 → n * g ≤ 240000
gaps t good s s' n g e few = rw e (few_short few (gap_most t good s s'))

pub overflow_mul-result : goal.overflow_mul-result
overflow_mul-result c = omega (arith, gaps c.args.timing c.requires.0 one two c.args.changes c.gap.result c.gap.ensures (omega arith))

pub overflow_mul-result-2 : goal.overflow_mul-result-2
overflow_mul-result-2 c =
    omega (arith, gaps c.args.timing c.requires.0 one one (c.args.gone - 1 - c.args.changes) c.gap-2.result c.gap-2.ensures (omega arith))

pub overflow_add-result : goal.overflow_add-result
overflow_add-result c =
    omega (
      arith,
      gaps c.args.timing c.requires.0 one two c.args.changes c.gap.result c.gap.ensures (omega arith),
      gaps c.args.timing c.requires.0 one one (c.args.gone - 1 - c.args.changes) c.gap-2.result c.gap-2.ensures (omega arith),
    )
