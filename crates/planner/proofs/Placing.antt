-- The figures that the code takes for a station's next train are those of the next train in the station's order.
use Rattle.std.proofs.Common.{List, ◌≡◌, ◌∙◌, ap, ℕ, ◌-◌, ◌≤◌, ◌<◌, arith, ne_eqb, ℤ, get_or, take, get_or-take}
use lib.ListN.{get_or-map}
use Rattle.rules.specs.declared.Station.{Station}
use Rattle.rules.specs.declared.Station.TheVariants.{One as one, Two as two}
use Rattle.rules.specs.Trains.{Section, aim, list_at, count_at, train_at}
use Rattle.best.proofs.Accepted.{Accepted}
use Rattle.refusals.specs.Trains.{trains_in}
use Rattle.refusals.proofs.Table.{train_within}
use Rattle.planner.specs.declared.clock.Terms.{Terms}
use Rattle.planner.specs.Trains.{next_figures, Queued}
use Rattle.planner.specs.Day.{terms_of, turn}
use Rattle.planner.specs.Order.{Placed}
use Rattle.planner.specs.Planning.{asked_by, Planning}
use Rattle.planner.proofs.Places.{inside}
use Rattle.planner.proofs.Entries.{count_few}
use Rattle.planner.proofs.PlanRuns.{places_cover}

module _ (S : Section) (s : Station) (places : List ℕ) (placed : Placed S s places) (n : ℕ) (some : 0 < n) (few : n ≤ count_at S s) where
  turn_placed : turn S s n ≡ train_at S s (get_or places (count_at S s - n) 0)
  unfolding Placed turn
  turn_placed =
      rw (← placed)
      (get_or-map (train_at S s) (take (count_at S s) places) (count_at S s - n) 0
      ∙ ap (train_at S s) (get_or-take (count_at S s) places (count_at S s - n) 0 (omega arith)))

  pub next_is : next_figures S.objective (list_at S s) places (count_at S s) n ≡ (turn S s n).figures
  unfolding next_figures train_at aim
  next_is = rw (turn_placed, ne_eqb n 0 (λ e. omega arith))

-- the list holds the figures of every place
module _ (S : Section) (A : Accepted S) (s : Station) (places : List ℕ) (placed : Placed S s places) where
  place_within : (k : ℕ) → k < count_at S s → get_or places k 0 < count_at S s
  unfolding Placed
  place_within k h = inside (places_cover S s places placed (count_few S A s)) k h

  pub all_queued : (n : ℕ) → n ≤ count_at S s → Queued S.objective (list_at S s) places (count_at S s) n
  unfolding count_at trains_in aim
  all_queued n few =
      record {
        few = count_few S A s;
        some = few;
        held = λ k h. train_within S.objective (list_at S s) (get_or places k 0) (place_within k h);
      }

-- the same of a call's two stations, by its terms
module _ (w : Terms) (list list' : List ℤ) (first second : List ℕ) (P : Planning w list list' first second) where
  abbrev S : Section
  S = asked_by w list list'

  pub ones_are : w.ones ≡ count_at S one
  unfolding terms_of
  ones_are = ap (λ v. v.ones) P.terms

  pub twos_are : w.twos ≡ count_at S two
  unfolding terms_of
  twos_are = ap (λ v. v.twos) P.terms

  pub ones_most : w.ones ≤ 48
  ones_most = omega (arith, ones_are, count_few S P.accepted one)

  pub twos_most : w.twos ≤ 48
  twos_most = omega (arith, twos_are, count_few S P.accepted two)

  module _ (n : ℕ) (few : n ≤ w.ones) where
    pub first_queued : Queued w.objective list first w.ones n
    first_queued = rw ones_are (all_queued S P.accepted one first P.first_placed n (omega (arith, ones_are)))

    pub first_next : 0 < n → next_figures w.objective list first w.ones n ≡ (turn S one n).figures
    first_next some = rw ones_are (next_is S one first P.first_placed n some (omega (arith, ones_are)))

  module _ (n : ℕ) (few : n ≤ w.twos) where
    pub second_queued : Queued w.objective list' second w.twos n
    second_queued = rw twos_are (all_queued S P.accepted two second P.second_placed n (omega (arith, twos_are)))

    pub second_next : 0 < n → next_figures w.objective list' second w.twos n ≡ (turn S two n).figures
    second_next some = rw twos_are (next_is S two second P.second_placed n some (omega (arith, twos_are)))
