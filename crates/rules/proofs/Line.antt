-- The laws of the line: a gap is at least a second, and a train in between makes no wait shorter.
-- What is shown of schedules rests on these two, and on nothing else about who waits how long.
use mathlib.Core.Logic.{◌↔◌}
use Prim.Native.Nat.{ℕ, ◌+◌, ◌≤◌, ◌<◌}
use native.Mathlib.Omega.{arith}
use lib.Dec.{T, leb, leb→le, le→leb}
use Rattle.rules.specs.declared.Timing.{Timing}
use Rattle.rules.proofs.Tests.{both}
use Rattle.rules.specs.declared.Station.{Station}
use Rattle.rules.specs.declared.Station.TheVariants.{One as one, Two as two}
use Rattle.rules.specs.Line.{good_running, good_headway, good_timing, gap, running, arrival}

at_most : (m n : ℕ) → T (leb m n) ↔ (m ≤ n)
at_most m n = (leb→le m n, le→leb m n)

module _ (t : Timing) (good : T (good_timing t)) where
  headway_bounds : (0 < t.headway) × (t.headway < t.running)
  unfolding good_running good_headway good_timing
  headway_bounds = omega (arith, simp (both, at_most) at good)

  pub gap_most : (s s' : Station) → gap t s s' ≤ 10000
  unfolding good_running good_headway good_timing
  gap_most one one = omega (arith, simp (both, at_most) at good)
  gap_most one two = omega (arith, simp (both, at_most) at good)
  gap_most two one = omega (arith, simp (both, at_most) at good)
  gap_most two two = omega (arith, simp (both, at_most) at good)

  pub arrival_most : (s : Station) (departure : ℕ) → arrival t s departure ≤ departure + 10000
  unfolding good_running good_headway good_timing running arrival
  arrival_most s departure = omega (arith, simp (both, at_most) at good)

  pub gap_positive : (s s' : Station) → 0 < gap t s s'
  gap_positive one one = omega (arith, headway_bounds)
  gap_positive one two = omega (arith, headway_bounds)
  gap_positive two one = omega (arith, headway_bounds)
  gap_positive two two = omega (arith, headway_bounds)

  pub gap_triangle : (s s' s'' : Station) → gap t s s'' ≤ gap t s s' + gap t s' s''
  gap_triangle one one one = omega arith
  gap_triangle one one two = omega arith
  gap_triangle one two one = omega (arith, headway_bounds)
  gap_triangle one two two = omega arith
  gap_triangle two one one = omega arith
  gap_triangle two one two = omega (arith, headway_bounds)
  gap_triangle two two one = omega arith
  gap_triangle two two two = omega arith
