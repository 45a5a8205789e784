-- The answers to trainees, of every section that the planner does not refuse.
use mathlib.Core.List.{List, [], ◌∷◌}
use mathlib.Core.Path.{◌≡◌, refl}
use Prim.Native.Nat.{ℕ}
use native.Mathlib.Omega.{arith}
use lib.IntN.{pos}
use Rattle.rules.specs.Line.{good_running, good_headway, good_timing, running, arrival}
use Rattle.rules.specs.Figures.{figure, within}
use Rattle.rules.specs.Objectives.{weighted, aim_of}
use Rattle.rules.specs.Trains.{Section, aim, count_at, count, train_at, trains_at, trains, runs}
use Rattle.rules.specs.Safe.{Safe}
use Rattle.rules.specs.Value.{cost_of, value}
use Rattle.rules.specs.Orders.{station_order, schedule, by_number, departures_of, value_of, best_order, best_value}
use Rattle.rules.specs.Refusals.{refuse, naming, known, ragged, crowded, call_refusals, train_refusals, refusals}
use Rattle.rules.specs.Sections.{weights}
use Rattle.best.specs.Trainees.{WaitingNeverHelps, StationOrderServes, longer_first}
use Rattle.best.proofs.Objectives.{fair_aim}
use Rattle.best.proofs.Instance.{lawful}
use Rattle.best.proofs.Accepted.{accepted}
use Rattle.best.proofs.NoWaiting.{never_helps}
use Rattle.best.proofs.StationOrder.{serves}

module _ (S : Section) (places : ℕ) (accepts : refusals S places ≡ []) (departures : List ℕ) (safe : Safe S departures) where
  pub waiting_never_helps : WaitingNeverHelps S departures
  waiting_never_helps =
      let A = accepted S places accepts in
      never_helps S (fair_aim S) (lawful S (fair_aim S) A.timed) A departures safe

  pub station_order_serves : StationOrderServes S departures
  station_order_serves =
      let A = accepted S places accepts in
      serves S (fair_aim S) (lawful S (fair_aim S) A.timed) A departures safe

-- case D, where the pair of station 1 goes first for 132 and station 2's heavy train for 92
pub longer_first_is_not_best : ¬ ((S : Section) (places : ℕ) → refusals S places ≡ [] → value_of S (longer_first S) ≡ best_value S)
unfolding good_running good_headway good_timing running arrival figure within weighted aim_of
    aim count_at count train_at trains_at trains runs cost_of value
    station_order schedule by_number departures_of value_of best_order best_value
    refuse naming known ragged crowded call_refusals train_refusals refusals longer_first
longer_first_is_not_best claim =
    let e : pos 132 ≡ pos 92 = claim (weights (1 ∷ 1 ∷ []) (5 ∷ [])) 3 refl in
    let z : ◌≡◌ {A = ℕ} 132 92 = cc in
    omega arith
