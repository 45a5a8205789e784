-- Two schedules put together into one, by departure.
-- The theorem that no schedule beats the best order puts the two queues together so.
use Rattle.std.proofs.Math.Decide.{dec_le}
use Rattle.std.specs.Prelude.{List, [], ◌∷◌}
use Rattle.theory.specs.Schedule.{Run}
use Rattle.theory.specs.Orders.{pick}

-- the earlier of the two next runs goes first, that of the first schedule where both leave at one second
abbrev pub merge : {X : Type 0} → List (Run X) → List (Run X) → List (Run X)
merge [] ss = ss
merge (r ∷ rs) [] = r ∷ rs
merge (r ∷ rs) (s ∷ ss) = pick (dec_le r.departure s.departure) (r ∷ merge rs (s ∷ ss)) (s ∷ merge (r ∷ rs) ss)
