-- Demand 3, for the four objectives at once.
use mathlib.Core.List.{List, []}
use mathlib.Core.Path.{◌≡◌, refl}
use Prim.Native.Nat.{ℕ, zero-le}
use lib.Signed.{◌≤ℤ◌}
use Rattle.rules.specs.declared.Station.TheVariants.{One as one, Two as two}
use Rattle.rules.specs.Trains.{Section, aim, runs}
use Rattle.rules.specs.Safe.{Safe}
use Rattle.rules.specs.Value.{value}
use Rattle.rules.specs.Orders.{Order, station_order, departures_of, value_of, best_order, best_value, plan}
use Rattle.rules.specs.Refusals.{refusals}
use Rattle.theory.specs.Line.{Lawful}
use Rattle.theory.specs.Schedule.{worth}
use Rattle.theory.specs.Orders.{best}
use Rattle.theory.proofs.Facts.{each, all_any}
use Rattle.theory.proofs.Dominance.{dominance}
use Rattle.best.specs.Fair.{Fair}
use Rattle.best.specs.Instance.{line}
use Rattle.best.specs.Demand.{Earliest, Best}
use Rattle.best.proofs.Objectives.{fair_aim}
use Rattle.best.proofs.Instance.{lawful}
use Rattle.best.proofs.FirstOrder.{best_first}
use Rattle.best.proofs.Reindex.{graded_value}
use Rattle.best.proofs.Accepted.{Accepted, accepted}
use Rattle.best.proofs.Days.{Whole}
use Rattle.best.proofs.BestOrder.{order_woven, best_woven, best_graded}
use Rattle.best.proofs.Earliest.{order_safe, order_follows, order_earliest}
use Rattle.best.proofs.Settled.{settled, good_settled, apart_settled, settled_cheaper}

module _ (S : Section) (F : Fair (aim S)) (P : Lawful (line S F)) (A : Accepted S) where
  module _ (departures : List ℕ) (safe : Safe S departures) where
    dominated :
        F.values.◌≼◌ (best (line S F) (λ x. 0) (station_order S one) (station_order S two)) (worth (line S F) (runs S departures))
    dominated =
        let at = settled S F P A.good departures safe in
        let fit = good_settled S F P A.good departures safe in
        rw (← (at one).queued, ← (at two).queued)
        (F.ordered.trans
        (dominance (line S F) P (at one).leaving (at two).leaving (apart_settled S F P A.good departures safe)
        (all_any (λ r. zero-le) (at one).runs) (all_any (λ r. zero-le) (at two).runs) (fit one) (fit two))
        (settled_cheaper S F P A.good departures safe))

    no_better : best_value S ≤ℤ value S departures
    no_better = F.down _ _ (rw (best_graded S F P A.filled, graded_value S F A.filled departures) dominated)

  order_holds : (o : Order) → Whole S o → Earliest S o
  unfolding value_of
  order_holds o whole =
      let safe = order_safe S F P A o whole in
      record {
        safe = safe;
        follows = order_follows S F P A o whole;
        earliest = order_earliest S F P A o whole;
        no_cheaper = no_better (departures_of S o) safe;
      }

  best_holds : Best S
  unfolding best_value value_of plan
  best_holds =
      record {
        safe = order_safe S F P A (best_order S) (best_woven S F P A.filled);
        true_value = refl;
        least = no_better;
        every = each order_holds (order_woven S F P A.filled);
        first = best_first S;
        of_first = refl;
      }

pub demand_3 : (S : Section) (places : ℕ) → refusals S places ≡ [] → Best S
demand_3 S places accepts =
    let A = accepted S places accepts in
    let F = fair_aim S in
    best_holds S F (lawful S F A.timed) A
