-- The gap is the same both ways, so that two departures are apart exactly where the seconds between them reach it.
use borrow.Author.Tests.{leb-true, leb-false, le-leb, lt-leb}
use Rattle.std.proofs.Common.{Bool, true, false, ◌||◌, ◌≡◌, refl, arith, ℕ, ◌+◌, ◌-◌}
use lib.Dec.{leb}
use Rattle.rules.specs.declared.Timing.{Timing}
use Rattle.rules.specs.declared.Station.{Station}
use Rattle.rules.specs.declared.Station.TheVariants.{One as one, Two as two}
use Rattle.rules.specs.Line.{gap, apart}
use Rattle.line.proofs.apart.Goals as goal

both_ways : (t : Timing) (s s' : Station) → gap t s' s ≡ gap t s s'
both_ways t one one = refl
both_ways t one two = refl
both_ways t two one = refl
both_ways t two two = refl

reached : (d e g : ℕ) (a b : Bool) → leb (d + g) e ≡ a → leb (e + g) d ≡ b → leb g ((d - e) + (e - d)) ≡ a || b
reached d e g true b p q = le-leb g ((d - e) + (e - d)) (omega (arith, leb-true (d + g) e p))
reached d e g false true p q = le-leb g ((d - e) + (e - d)) (omega (arith, leb-true (e + g) d q))
reached d e g false false p q =
    lt-leb g ((d - e) + (e - d)) (omega (arith, leb-false (d + g) e p, leb-false (e + g) d q))

pub returns : goal.returns
unfolding apart
returns c =
    let s = c.args in
    rw (c.gap.ensures, c.abs_diff.ensures, both_ways s.timing s.station s.other)
    (reached s.departure s.departed (gap s.timing s.station s.other) _ _ refl refl)
