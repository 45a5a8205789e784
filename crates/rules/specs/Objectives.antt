-- What a plan can be for: objectives 1 to 4, a row of the table each.
-- Figures are a train's numbers in the list.
use Rattle.std.specs.Prelude.{Bool, true, false, cond, List, ℕ, eqb, ℤ, pos, neg_ℤ, ◌+ℤ◌, ◌-ℤ◌, ◌*ℤ◌}
use Rattle.std.specs.Int.Signed.{le_z, lt_z}
use Rattle.rules.specs.Figures.{figure, within, good_row, row_cost}

pub record Objective : Type 0 where
  -- the numbers a train, and the most trains a station
  pub numbers : ℕ
  pub most : ℕ
  -- a train's figures keep their rule
  pub good : List ℤ → Bool
  -- R3: trains of one station leave in list order
  pub listed : Bool
  -- in its station's order the first train goes ahead of the second, wherever they stand in the list
  pub ahead : List ℤ → List ℤ → Bool
  -- what a train costs that arrives at a second
  pub cost : List ℤ → ℕ → ℤ
  -- two costs as one: their sum, or the larger
  pub joined : ℤ → ℤ → ℤ

unfoldable pub larger : ℤ → ℤ → ℤ
larger a b = cond (le_z a b) b a

-- The table. Objective 1: the largest of arrival - due time.
unfoldable pub lateness : Objective
lateness = record {
  numbers = 1;
  most = 48;
  good = λ x. within (neg_ℤ (pos 1000000)) (pos 1000000) (figure x 0);
  listed = false;
  ahead = λ x y. lt_z (figure x 0) (figure y 0);
  cost = λ x arrival. pos arrival -ℤ figure x 0;
  joined = larger;
}

-- Objective 2: the sum of weight x arrival.
unfoldable pub weighted : Objective
weighted = record {
  numbers = 1;
  most = 48;
  good = λ x. within (pos 0) (pos 10000) (figure x 0);
  listed = false;
  ahead = λ x y. lt_z (figure y 0) (figure x 0);
  cost = λ x arrival. figure x 0 *ℤ pos arrival;
  joined = ◌+ℤ◌;
}

-- Objectives 3 and 4: the sum of the rows' costs, and the largest.
unfoldable pub by_rows : (ℤ → ℤ → ℤ) → Objective
by_rows join = record {
  numbers = 17;
  most = 12;
  good = good_row;
  listed = true;
  ahead = λ x y. false;
  cost = row_cost;
  joined = join;
}

-- what a section with this number aims at; only 1 to 4 are asked for, as any other number is refused before
unfoldable pub aim_of : ℕ → Objective
aim_of n = cond (eqb n 1) lateness (cond (eqb n 2) weighted (cond (eqb n 3) (by_rows ◌+ℤ◌) (by_rows larger)))
