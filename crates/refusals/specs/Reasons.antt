-- Which refusal a reason is, and what an outcome with such a reason says, in the rules' terms.
use Rattle.std.specs.Prelude.{ℤ, Result, Ok, Err}
use Rattle.rules.specs.Answers.{Verdict, value_is, refused}
use Rattle.refusals.specs.declared.Reason.{Reason}
use Rattle.refusals.specs.declared.Reason.TheVariants.{UnknownObjective, BadTiming, RaggedList, NoTrain, CrowdedStation, BadTrain, DepartureCount, LateDeparture, Conflict}

abbrev pub tells : Reason → Verdict
tells UnknownObjective = refused 1 0 0
tells BadTiming = refused 2 0 0
tells RaggedList = refused 3 0 0
tells NoTrain = refused 4 0 0
tells CrowdedStation = refused 5 0 0
tells (BadTrain k) = refused 6 k 0
tells DepartureCount = refused 7 0 0
tells (LateDeparture k) = refused 8 k 0
tells (Conflict a b) = refused 9 a b

abbrev pub outcome_tells : Result ℤ Reason → Verdict
outcome_tells (Ok v) = value_is v
outcome_tells (Err r) = tells r

-- what a check tells: a reason, or the value that follows where it passes
abbrev pub checked : Result Unit Reason → ℤ → Verdict
checked (Ok u) v = value_is v
checked (Err r) v = tells r
