-- The numbers that words are: decimal, with no leading zero, in 32 signed bits; a minus, but no plus and no "-0".
-- A word that is no such number makes the whole text unreadable.
use Rattle.std.specs.Prelude.{Bool, false, not, ◌&&◌, ◌||◌, cond, Option, Some, None, List, [], ◌∷◌, ℕ, ◌+◌, ◌-◌, ◌*◌, leb, eqb, ℤ, pos, neg_ℤ, length}
use Rattle.std.specs.List.{list_all}
use Rattle.text.specs.Words.{words}

unfoldable pub digit : ℕ → Bool
digit byte = leb 48 byte && leb byte 57

-- digits, at least one, and a zero first only where it stands alone
abbrev pub plain : List ℕ → Bool
plain [] = false
plain (b ∷ bs) = list_all digit (b ∷ bs) && (not (eqb b 48) || eqb (length bs) 0)

-- what digits come to, after what those before them do
abbrev pub amount_on : ℕ → List ℕ → ℕ
amount_on n [] = n
amount_on n (b ∷ bs) = amount_on (n * 10 + (b - 48)) bs

unfoldable pub amount : List ℕ → ℕ
amount word = amount_on 0 word

unfoldable pub positive : List ℕ → Option ℤ
positive word = cond (plain word && leb (amount word) 2147483647) (Some (pos (amount word))) None

unfoldable pub negative : List ℕ → Option ℤ
negative word = cond (plain word && leb 1 (amount word) && leb (amount word) 2147483648) (Some (neg_ℤ (pos (amount word)))) None

-- a word as a number; 45 is the minus
abbrev pub number : List ℕ → Option ℤ
number [] = None
number (b ∷ bs) = cond (eqb b 45) (negative bs) (positive (b ∷ bs))

-- a word's number, where it is one, before those of the words after it, where they all are
abbrev pub after : Option ℤ → Option (List ℤ) → Option (List ℤ)
after (Some z) (Some zs) = Some (z ∷ zs)
after (Some z) None = None
after None zs = None

abbrev pub each_number : List (List ℕ) → Option (List ℤ)
each_number [] = Some []
each_number (w ∷ ws) = after (number w) (each_number ws)

-- the numbers of a text, or none where it is unreadable
unfoldable pub numbers : List ℕ → Option (List ℤ)
numbers text = each_number (words text)
