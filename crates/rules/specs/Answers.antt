-- What planner and judge answer, what the planner leaves in the departures, and how the code's answer says it.
-- These are the definitions that the public promises cite.
use Rattle.std.specs.Prelude.{List, [], ◌∷◌, ℕ, ℤ, length, Result, Ok, Err}
use Rattle.rules.specs.declared.Answer.{Answer}
use Rattle.rules.specs.declared.Refusal.{Refusal as Told}
use Rattle.rules.specs.Trains.{Section}
use Rattle.rules.specs.Value.{value}
use Rattle.rules.specs.Orders.{best_value, plan}
use Rattle.rules.specs.Refusals.{Refusal, refusals, judge_refusals}

-- a value; or a refusal's number and two places
pub data Verdict : Type 0 where
  value_is : ℤ → Verdict
  refused : ℕ → ℕ → ℕ → Verdict

abbrev pub outcome_says : Result ℤ Told → Verdict
outcome_says (Ok v) = value_is v
outcome_says (Err r) = refused r.number r.first r.second

-- what the code's answer says, in these terms
unfoldable pub says : Answer → Verdict
says a = outcome_says a.outcome

-- the first refusal that applies, else the value
abbrev pub verdict : List Refusal → ℤ → Verdict
verdict [] v = value_is v
verdict (r ∷ rs) v = refused r.number r.first r.second

-- what stands in the departures afterwards: where nothing is refused, all are set
abbrev pub written : List Refusal → List ℕ → List ℕ → List ℕ
written [] set before = set
written (r ∷ rs) set before = before

unfoldable pub planner_answers : Section → ℕ → Verdict
planner_answers S places = verdict (refusals S places) (best_value S)

unfoldable pub planner_leaves : Section → List ℕ → List ℕ
planner_leaves S before = written (refusals S (length before)) (plan S) before

unfoldable pub judge_answers : Section → List ℕ → Verdict
judge_answers S departures = verdict (judge_refusals S departures) (value S departures)
