-- An i32 and its bits: it is read back from them, and the test for 0.
use borrow.Author.Rules.{sfits_of}
use lib.Dec.{eqb}
use lib.IntN.{ℤ}
use lib.Signed.{mag}
use mathlib.Core.Path.{◌≡◌}
use mir.Facts.{to_z-of_z}
use mir.Syntax.{w32}
use mir.Val.{SFits, to_z, of_z}
use native.Mathlib.Omega.{arith}
use Prim.Native.Nat.{◌^◌, ◌<◌}
use Rattle.std.proofs.lemmas.Int.{ints}
use Rattle.rules.specs.Figures.{is_zero, within}

pub read_back : (z : ℤ) → mag z < 2 ^ 31 → to_z w32 (of_z w32 z) ≡ z
read_back z h = to_z-of_z {w = w32} (sfits_of h)

pub zero_bits : (z : ℤ) → SFits w32 z → eqb (of_z w32 z) 0 ≡ is_zero z
unfolding is_zero within
zero_bits z f = grind (arith, ints)
