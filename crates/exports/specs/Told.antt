-- What a linked program is told: a verdict as four numbers.
-- A place that a verdict does not speak of is 0.
use Rattle.std.specs.Prelude.{List, ◌≡◌, ℕ, ℤ, pos}
use Rattle.rules.specs.Trains.{Section, asked}
use Rattle.rules.specs.Answers.{Verdict, value_is, refused}

-- the section of an exported call, whose timing comes as two numbers
abbrev pub called : ℕ → ℕ → ℕ → List ℤ → List ℤ → Section
called objective p β xs ys = asked objective (record { running = p; headway = β }) xs ys

-- the refusal number, 0 where there is none; the value; the two places
pub record Told : Type 0 where
  pub number : ℕ
  pub value : ℤ
  pub first : ℕ
  pub second : ℕ

abbrev pub told : Verdict → Told
told (value_is v) = record { number = 0; value = v; first = 0; second = 0 }
told (refused n first second) = record { number = n; value = pos 0; first = first; second = second }

-- the numbers that a call leaves tell a verdict
abbrev pub Tells : ℕ → ℤ → ℕ → ℕ → Verdict → Type 0
Tells n v first second verdict = record { number = n; value = v; first = first; second = second } ≡ told verdict
