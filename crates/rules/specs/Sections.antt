-- Short ways to write a section, for the tables of cases: p = 10 and β = 2 unless said.
-- Nothing else is stated over these.
use Rattle.std.specs.Prelude.{List, [], ◌∷◌, ◌++◌, map, ℕ, zero, suc, ℤ, pos, length, take, replicate}
use Rattle.rules.specs.Trains.{Section, asked}

abbrev pub section : ℕ → ℕ → ℕ → List ℤ → List ℤ → Section
section n p β = asked n (record { running = p; headway = β })

abbrev pub on_line : ℕ → List ℤ → List ℤ → Section
on_line n = section n 10 2

abbrev pub weights : List ℕ → List ℕ → Section
weights xs ys = on_line 2 (map pos xs) (map pos ys)

-- one train, of weight 5, on a line with this running time and headway
abbrev pub line : ℕ → ℕ → Section
line p β = section 2 p β (pos 5 ∷ []) []

abbrev pub due : ℤ → Section
due d = on_line 1 (d ∷ []) []

-- one train with this row
abbrev pub tabled : List ℤ → Section
tabled xs = on_line 3 xs []

abbrev pub eight : List ℕ → List ℤ
eight xs = map pos (take 8 (xs ++ replicate 8 0))

-- a row by its step count, and its starts and costs as far as they are not 0
abbrev pub row_of : ℕ → List ℕ → List ℕ → List ℤ
row_of m starts costs = pos m ∷ eight starts ++ eight costs

-- a row by its used starts and costs
abbrev pub steps_at : List ℕ → List ℕ → List ℤ
steps_at starts costs = row_of (length starts) starts costs

-- the row of a train that never costs anything
abbrev pub free : List ℤ
free = steps_at (0 ∷ []) (0 ∷ [])

abbrev pub times : ℕ → List ℤ → List ℤ
times zero xs = []
times (suc n) xs = xs ++ times n xs

-- case I under an objective, with the start of its second table's second step
abbrev pub case_I : ℕ → ℕ → Section
case_I n start = on_line n (steps_at (0 ∷ 15 ∷ []) (0 ∷ 100 ∷ [])) (steps_at (0 ∷ start ∷ []) (0 ∷ 40 ∷ []))
