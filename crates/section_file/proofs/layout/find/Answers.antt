-- A heading has three numbers, and no list more than 512.
use Rattle.std.proofs.Common.{true, false, arith}
use Rattle.section_file.proofs.Sections.{counted}
use Rattle.section_file.proofs.layout.find.Goals as goal

pub bounds-heading-1 : goal.bounds-heading-1
bounds-heading-1 c = omega (arith, (counted 3 3 false _ c.in_ok-heading.ensures).enough)

pub bounds-heading-2 : goal.bounds-heading-2
bounds-heading-2 c = omega (arith, (counted 3 3 false _ c.in_ok-heading.ensures).enough)

pub bounds-heading-0 : goal.bounds-heading-0
bounds-heading-0 c = omega (arith, (counted 3 3 false _ c.in_ok-heading.ensures).enough)

pub invariant_of-result : goal.invariant_of-result
invariant_of-result c =
    ((counted 0 512 true _ c.in_ok-one.ensures).few, (counted 0 512 true _ c.in_ok-two.ensures).few, (counted 0 512 false _ c.in_ok-recorded.ensures).few)
