-- The objectives' table: the row of each number, and what one column says of another.
use mathlib.Core.Bool.{Bool, true, false, cond}
use mathlib.Core.List.{List}
use mathlib.Core.Path.{◌≡◌, refl}
use Prim.Native.Nat.{ℕ}
use lib.Dec.{eqb}
use lib.IntN.{ℤ, ◌+ℤ◌}
use Rattle.rules.specs.Figures.{good_row}
use Rattle.rules.specs.Objectives.{Objective, larger, lateness, weighted, by_rows, aim_of}

-- what is said of each row of the table holds of every number's, with the tests for 1 and 2
pub each : (P : Bool → Bool → Objective → Type 0)
    → ((b : Bool) → P true b lateness) → P false true weighted → P false false (by_rows ◌+ℤ◌) → P false false (by_rows larger)
    → (n : ℕ) → P (eqb n 1) (eqb n 2) (aim_of n)
unfolding aim_of
each P one two three four n = tested (eqb n 1) (eqb n 2) (eqb n 3)
  where
    tested : (a b c : Bool) → P a b (cond a lateness (cond b weighted (cond c (by_rows ◌+ℤ◌) (by_rows larger))))
    tested true b c = one b
    tested false true c = two
    tested false false true = three
    tested false false false = four

pub numbers_listed : (n : ℕ) → (aim_of n).numbers ≡ cond (aim_of n).listed 17 1
unfolding lateness weighted by_rows
numbers_listed = each (λ a b o. o.numbers ≡ cond o.listed 17 1) (λ b. refl) refl refl refl

pub most_listed : (n : ℕ) → (aim_of n).most ≡ cond (aim_of n).listed 12 48
unfolding lateness weighted by_rows
most_listed = each (λ a b o. o.most ≡ cond o.listed 12 48) (λ b. refl) refl refl refl

pub good_listed : (n : ℕ) (x : List ℤ) → (aim_of n).listed ≡ true → good_row x ≡ (aim_of n).good x
unfolding lateness weighted by_rows
good_listed n x = each (λ a b o. o.listed ≡ true → good_row x ≡ o.good x) (λ b e. cc) (λ e. cc) (λ e. refl) (λ e. refl) n
