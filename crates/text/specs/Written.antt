-- How a number is written: a minus where it is below 0, then its decimal digits with no leading zero.
-- 48 is the digit 0.
use Rattle.std.specs.Prelude.{cond, List, [], ◌∷◌, ◌++◌, ℕ, zero, suc, ◌+◌, ◌/◌, ◌%◌, ltb, ℤ, pos, negsuc}

-- the digits of a number that has at most so many
abbrev pub digits : ℕ → ℕ → List ℕ
digits zero n = []
digits (suc most) n = cond (ltb n 10) ((48 + n) ∷ []) (digits most (n / 10) ++ ((48 + n % 10) ∷ []))

-- no number of 64 bits has more than 20
unfoldable pub decimal : ℕ → List ℕ
decimal n = digits 20 n

abbrev pub signed : ℤ → List ℕ
signed (pos n) = decimal n
signed (negsuc n) = 45 ∷ decimal (suc n)
