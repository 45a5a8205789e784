-- What `plan` promises beside the rules' answer and departures: demand 3, of the very list that it leaves.
-- It says nothing of a call that is refused.
use Rattle.std.specs.Prelude.{List, ◌≡◌, ℕ, ℤ, ◌≤ℤ◌}
use Rattle.rules.specs.declared.Answer.{Answer}
use Rattle.rules.specs.Trains.{Section}
use Rattle.rules.specs.Safe.{Safe}
use Rattle.rules.specs.Value.{value}
use Rattle.rules.specs.Answers.{value_is, says}

-- departures with a value that no safe schedule of the same trains betters, in any order and with any waiting
pub record Unbeaten (S : Section) (departures : List ℕ) (worth : ℤ) : Type 0 where
  pub safe : Safe S departures
  pub true_value : value S departures ≡ worth
  pub least : (others : List ℕ) → Safe S others → worth ≤ℤ value S others

-- where the answer is a value, the departures are unbeaten
unfoldable pub BestLeft : Section → Answer → List ℕ → Type 0
BestLeft S a departures = (worth : ℤ) → says a ≡ value_is worth → Unbeaten S departures worth
