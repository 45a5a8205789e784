-- The walk's goal is the best value, and what is written of its times is the rules' plan.
use Rattle.std.proofs.Common.{List, ◌≡◌, sym, ◌∙◌, ap, ap₂, ℕ, ◌+◌, ◌-◌, le_refl, arith, ℤ}
use Rattle.rules.specs.declared.Station.TheVariants.{One as one, Two as two}
use Rattle.rules.specs.Trains.{Section, count_at, count}
use Rattle.rules.specs.Orders.{station_order, best_value, plan}
use Rattle.theory.specs.Orders.{best}
use Rattle.best.specs.Instance.{line}
use Rattle.best.proofs.Objectives.{fair_aim}
use Rattle.best.proofs.Accepted.{Accepted}
use Rattle.planner.specs.declared.clock.Clock.{Clock}
use Rattle.planner.specs.declared.day.Day.{Day}
use Rattle.planner.specs.Clock.{start}
use Rattle.planner.specs.Day.{earliest, rest}
use Rattle.planner.specs.Walk.{times, Walks}
use Rattle.planner.specs.Order.{Placed}
use Rattle.planner.specs.Filled.{section_of}
use Rattle.planner.specs.Writer.{Covers, Tells, BothInListOrder}
use Rattle.planner.proofs.Sending.{rest_grade}
use Rattle.planner.proofs.Entries.{count_few}
use Rattle.planner.proofs.Placing.{ones_are, twos_are}
use Rattle.planner.proofs.PlanRuns.{all_left, places_cover, leaves_at, from_start, goal_is_best, times_by_place, plan_by_place}

module _ (S : Section) (A : Accepted S) where
  abbrev first_clock : Clock
  first_clock = start (count_at S one) (count_at S two)

  graded : (fair_aim S).grade (rest S first_clock) ≡ best (line S (fair_aim S)) (λ x. 0) (station_order S one) (station_order S two)
  unfolding start earliest count
  graded =
      rest_grade S first_clock (le_refl _) (le_refl _) A.filled
      ∙ ap₂ (best (line S (fair_aim S)) (λ x. 0)) (all_left S one) (all_left S two)

  pub goal_is : rest S first_clock ≡ best_value S
  goal_is = goal_is_best S A.timed A.filled (rest S first_clock) graded

  module _ {ones twos : List ℕ} (walks : Walks S (rest S first_clock) ones twos) where
    tells_first : (places : List ℕ) → Placed S one places → Tells (count_at S one) places ones (leaves_at S one)
    unfolding Placed
    tells_first places placed =
        walks.first ∙ ap (times one) (from_start S A.timed A.filled _ graded) ∙ times_by_place S A.timed A.filled one places placed

    tells_second : (places : List ℕ) → Placed S two places → Tells (count_at S two) places twos (leaves_at S two)
    unfolding Placed
    tells_second places placed =
        walks.second ∙ ap (times two) (from_start S A.timed A.filled _ graded) ∙ times_by_place S A.timed A.filled two places placed

    pub plan_written : (first second departures : List ℕ) → Placed S one first → Placed S two second
        → BothInListOrder (count_at S one) (count_at S two) first second ones twos departures → departures ≡ plan S
    unfolding BothInListOrder
    plan_written first second departures placed placed' written =
        written (leaves_at S one) (leaves_at S two) (tells_first first placed) (tells_second second placed')
        ∙ sym (plan_by_place S A.timed A.filled)

-- the same by a call's day, and as many departures as there are trains
module _ (d : Day) where
  abbrev asks : Section
  asks = section_of d

  module _ {places : ℕ} (all : places ≡ d.terms.ones + d.terms.twos) where
    rest_are : places - d.terms.ones ≡ count_at asks two
    rest_are = omega (arith, twos_are _ _ _ _ _ d.planned)

    pub first_covered : Covers d.terms.ones d.one.places
    unfolding Placed
    first_covered = rw (ones_are _ _ _ _ _ d.planned) (places_cover asks one _ d.planned.first_placed (count_few asks d.planned.accepted one))

    pub second_covered : Covers (places - d.terms.ones) d.two.places
    unfolding Placed
    second_covered = rw rest_are (places_cover asks two _ d.planned.second_placed (count_few asks d.planned.accepted two))

  module _ {goal : ℤ} (e : goal ≡ rest asks (start d.terms.ones d.terms.twos)) where
    goal_from : goal ≡ rest asks (first_clock asks d.planned.accepted)
    goal_from = e ∙ ap₂ (λ n m. rest asks (start n m)) (ones_are _ _ _ _ _ d.planned) (twos_are _ _ _ _ _ d.planned)

    pub goal_best : goal ≡ best_value asks
    goal_best = goal_from ∙ goal_is asks d.planned.accepted

    pub plan_left : {places : ℕ} → places ≡ d.terms.ones + d.terms.twos → {ones twos departures : List ℕ} → Walks asks goal ones twos
        → BothInListOrder d.terms.ones (places - d.terms.ones) d.one.places d.two.places ones twos departures → departures ≡ plan asks
    plan_left all walks written =
        plan_written asks d.planned.accepted (rw goal_from at walks) _ _ _ d.planned.first_placed d.planned.second_placed
        (rw (rest_are all, ones_are _ _ _ _ _ d.planned) at written)
