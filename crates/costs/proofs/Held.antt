-- A number that fits 64 bits is held as it is.
use mathlib.Core.Path.{◌≡◌}
use native.Mathlib.Omega.{arith}
use lib.IntN.{ℤ}
use mir.Syntax.{w64}
use mir.Val.{SFits}
use Rattle.costs.specs.Held.{held}

pub held_fits : (z : ℤ) → SFits w64 z → held z ≡ z
held_fits z f = grind arith
