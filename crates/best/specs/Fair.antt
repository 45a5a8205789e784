-- What an objective must keep so that its best order is its best schedule.
-- All that is shown of the four objectives is shown of a fair one.
use Rattle.std.specs.Prelude.{true, false, List, ◌⊎◌, ◌≡◌, ℕ, ◌≤◌, T, ℤ, pos, ◌≤ℤ◌}
use Rattle.rules.specs.Objectives.{Objective}
use Rattle.theory.specs.Values.{Values, Ordered}
use Rattle.theory.specs.Queue.{Before, Ranked}

-- list order is kept, and nobody goes ahead
pub record Listed (O : Objective) : Type 0 where
  pub kept : O.listed ≡ true
  pub nobody : (x y : List ℤ) → ¬ T (O.ahead x y)

-- list order is free, and two trains in the wrong order lose nothing by trading arrivals
pub record Trades (O : Objective) (W : Values) (grade : ℤ → W.Val) : Type 0 where
  pub free : O.listed ≡ false
  pub ranked : Ranked O.ahead
  pub swap : (x y : List ℤ) → T (O.good x) → T (O.good y) → Before O.ahead x y → {a b : ℕ} → a ≤ b
      → W.◌≼◌ (W.◌⊙◌ (grade (O.cost x a)) (grade (O.cost y b))) (W.◌⊙◌ (grade (O.cost x b)) (grade (O.cost y a)))

pub record Fair (O : Objective) : Type 1 where
  -- costs as ordered values: what two are joined to is their value, and neither is lost
  pub values : Values
  pub ordered : Ordered values
  pub grade : ℤ → values.Val
  pub joins : (a b : ℤ) → grade (O.joined a b) ≡ values.◌⊙◌ (grade a) (grade b)
  pub up : {a b : ℤ} → a ≤ℤ b → values.◌≼◌ (grade a) (grade b)
  pub down : (a b : ℤ) → values.◌≼◌ (grade a) (grade b) → a ≤ℤ b
  -- the number of a grade: nothing has 0, and whatever a cost is joined to has the number that it grades
  pub shown : values.Val → ℤ
  pub shown_none : shown values.none ≡ pos 0
  pub shown_grade : (a : ℤ) → shown (grade a) ≡ a
  pub shown_cost : (a : ℤ) (v : values.Val) → grade (shown (values.◌⊙◌ (grade a) v)) ≡ values.◌⊙◌ (grade a) v
  -- a later arrival costs no less
  pub rising : (x : List ℤ) → T (O.good x) → {a b : ℕ} → a ≤ b → O.cost x a ≤ℤ O.cost x b
  pub order : Listed O ⊎ Trades O values grade
