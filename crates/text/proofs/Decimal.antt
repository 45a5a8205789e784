-- A decimal number is a smaller one with a digit after it; and how many bytes a number of 64 bits has.
use borrow.Author.Tests.{lt-ltb, le-ltb}
use mathlib.Core.Bool.{Bool, true, false, cond}
use mathlib.Core.List.{List, [], ◌∷◌, ◌++◌}
use mathlib.Core.Path.{◌≡◌, ◌∙◌}
use mir.Syntax.{w64}
use mir.Facts.{to_z-of_z}
use mir.Val.{Fits, SFits, to_z, of_z}
use Prim.Native.Nat.{ℕ, zero, suc, ◌+◌, ◌/◌, ◌%◌, ◌^◌, ◌≤◌, ◌<◌}
use native.Mathlib.Omega.{arith}
use lib.Dec.{ltb}
use lib.IntN.{ℤ, pos, negsuc, nat_abs}
use lib.Signed.{nat_abs-le}
use lib.ListN.{length, take, length-append}
use lib.Seq.{take_all}
use Rattle.text.specs.Written.{digits, decimal, signed}

-- room for more digits than a number has changes nothing
spare : (m n : ℕ) → n < 10 ^ suc m → digits (suc (suc m)) n ≡ digits (suc m) n
spare zero n h = rw (lt-ltb n 10 h)
spare (suc m) n h = rw (spare m (n / 10) (omega arith))

pub decimal_small : (n : ℕ) → n < 10 → decimal n ≡ (48 + n) ∷ []
unfolding decimal
decimal_small n h = rw (lt-ltb n 10 h)

pub decimal_next : (n : ℕ) → Fits w64 n → 10 ≤ n → decimal n ≡ decimal (n / 10) ++ ((48 + n % 10) ∷ [])
unfolding decimal
decimal_next n f h = rw (le-ltb n 10 h, spare 18 (n / 10) (omega arith))

pub length_digits : (m n : ℕ) → length (digits m n) ≤ m
length_digits zero n = omega arith
length_digits (suc m) n = by_test (ltb n 10) (length_digits m (n / 10))
  where
    by_test : (t : Bool) → length (digits m (n / 10)) ≤ m
        → length (cond t ((48 + n) ∷ []) (digits m (n / 10) ++ ((48 + n % 10) ∷ []))) ≤ suc m
    by_test true h = omega arith
    by_test false h = rw length-append (omega arith)

-- the smallest i64 is 2 ^ 63 without its sign
decimal_length : (z : ℤ) → SFits w64 z → length (decimal (nat_abs z)) ≤ 19
unfolding decimal
decimal_length z f = rw (spare 18 (nat_abs z) (omega (arith, nat_abs-le z f.sfits))) (length_digits 19 (nat_abs z))

pub signed_length : (z : ℤ) → SFits w64 z → length (signed z) ≤ 20
signed_length (pos n) f = omega (arith, decimal_length (pos n) f)
signed_length (negsuc n) f = omega (arith, decimal_length (negsuc n) f)

-- a page of 20 bytes has room for a number
pub signed_whole : {n : ℤ} {page : List ℕ} → SFits w64 n → page ≡ take 20 (signed (to_z w64 (of_z w64 n))) → page ≡ signed n
signed_whole {n} f e = rw (to_z-of_z f) at e ∙ take_all 20 (signed n) (signed_length n f)
