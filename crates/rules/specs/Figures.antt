-- A train's figures: its numbers in the list, which are one due time, one weight, or one row of 17.
-- The rule of a row stands here whole, and what a row costs at an arrival.
use Rattle.std.specs.Prelude.{Bool, ◌&&◌, List, [], ◌∷◌, map, ℕ, ◌+◌, ℤ, pos, negsuc, get_or, take, drop}
use Rattle.std.specs.Int.Signed.{le_z, lt_z}
use Rattle.rules.specs.Lists.{those, every, neighbours, count_from}

unfoldable pub figure : List ℤ → ℕ → ℤ
figure x k = get_or x k (pos 0)

unfoldable pub within : ℤ → ℤ → ℤ → Bool
within least most z = le_z least z && le_z z most

unfoldable pub is_zero : ℤ → Bool
is_zero z = within (pos 0) (pos 0) z

-- A row: the step count, eight starts, eight costs.
abbrev pub Step : Type 0
Step = record { start : ℤ; cost : ℤ }

unfoldable pub steps : List ℤ → List Step
steps x = map (λ k. record { start = figure x (1 + k); cost = figure x (9 + k) }) (count_from 0 8)

-- a step count as a number of steps: none where it is below 0
abbrev pub step_count : ℤ → ℕ
step_count (pos n) = n
step_count (negsuc n) = 0

unfoldable pub used : List ℤ → List Step
used x = take (step_count (figure x 0)) (steps x)

unfoldable pub unused : List ℤ → List Step
unused x = drop (step_count (figure x 0)) (steps x)

unfoldable pub good_row : List ℤ → Bool
good_row x =
    within (pos 1) (pos 8) (figure x 0) &&
    is_zero (figure x 1) &&
    neighbours (λ s s'. lt_z s.start s'.start) (used x) &&
    every (λ s. le_z s.start (pos 1000000)) (used x) &&
    every (λ s. within (pos 0) (pos 1000000) s.cost) (used x) &&
    neighbours (λ s s'. le_z s.cost s'.cost) (used x) &&
    every (λ s. is_zero s.start && is_zero s.cost) (unused x)

abbrev pub last_cost : ℤ → List Step → ℤ
last_cost c [] = c
last_cost c (s ∷ ss) = last_cost s.cost ss

-- an arrival pays the cost of the last used step whose start is not after it
unfoldable pub row_cost : List ℤ → ℕ → ℤ
row_cost x arrival = last_cost (pos 0) (those (λ s. le_z s.start (pos arrival)) (used x))
