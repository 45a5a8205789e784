-- What a schedule is worth: its trains' costs as one number, signed and exact.
-- Costs are joined from the first train's on, so that a largest lateness can be below 0.
use Rattle.std.specs.Prelude.{List, [], ◌∷◌, map, ℕ, ℤ, pos}
use Rattle.rules.specs.Line.{arrival}
use Rattle.rules.specs.Trains.{Section, aim, Run, runs}

unfoldable pub cost_of : Section → Run → ℤ
cost_of S r = (aim S).cost r.train.figures (arrival S.timing r.train.station r.departure)

abbrev pub join_on : (ℤ → ℤ → ℤ) → ℤ → List ℤ → ℤ
join_on joined total [] = total
join_on joined total (c ∷ cs) = join_on joined (joined total c) cs

-- no section without trains is accepted: the first case is never asked for
abbrev pub join_all : (ℤ → ℤ → ℤ) → List ℤ → ℤ
join_all joined [] = pos 0
join_all joined (c ∷ cs) = join_on joined c cs

unfoldable pub value : Section → List ℕ → ℤ
value S departures = join_all (aim S).joined (map (cost_of S) (runs S departures))
