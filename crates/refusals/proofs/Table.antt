-- Bounds of the objectives' table, and where a train's numbers stand in its list.
use Prim.Native.Nat.{ℕ, ◌+◌, ◌*◌, ◌≤◌, ◌<◌}
use mathlib.Core.Bool.{Bool, true, false, cond}
use native.Mathlib.Nat.{suc-mul, mul-le-mul_right, div-mul-le_self}
use native.Mathlib.Omega.{arith}
use lib.ListN.{length}
use lib.IntN.{ℤ}
use mathlib.Core.List.{List}
use Rattle.rules.specs.Objectives.{aim_of}
use Rattle.costs.proofs.Table.{numbers_listed, most_listed}
use Rattle.refusals.specs.Trains.{trains_in}

pub numbers_positive : (n : ℕ) → 0 < (aim_of n).numbers
numbers_positive n = rw numbers_listed (row (aim_of n).listed)
  where
    row : (b : Bool) → 0 < cond b 17 1
    row true = omega arith
    row false = omega arith

pub most_bound : (n : ℕ) → (aim_of n).most ≤ 48
most_bound n = rw most_listed (row (aim_of n).listed)
  where
    row : (b : Bool) → cond b 12 48 ≤ 48
    row true = omega arith
    row false = omega arith

-- a list holds each of its trains whole
pub train_within :
    (n : ℕ) (xs : List ℤ) (k : ℕ) →
    k < trains_in n xs →
    k * (aim_of n).numbers + (aim_of n).numbers ≤ length xs
unfolding trains_in
train_within n xs k h =
    omega (
      arith,
      suc-mul k (aim_of n).numbers,
      mul-le-mul_right (aim_of n).numbers h,
      div-mul-le_self (length xs) (aim_of n).numbers,
    )
