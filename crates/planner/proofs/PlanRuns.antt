-- The runs of the plan: those of the walk from the start; and their departures by station, and by each station's places.
use Rattle.std.proofs.Common.{Bool, true, false, List, ◌++◌, map, map-id, ◌≡◌, refl, sym, ◌∙◌, ap, ap₂, ℕ, ◌-◌, ◌≤◌, ◌<◌, arith, T, ℤ, take}
use mathlib.Core.List.{map-map, map-append}
use Rattle.rules.specs.Lists.{those, count_from}
use Rattle.rules.specs.declared.Station.{Station}
use Rattle.rules.specs.declared.Station.TheVariants.{One as one, Two as two}
use Rattle.rules.specs.Line.{same_station, good_timing}
use Rattle.rules.specs.Trains.{Section, aim, count_at, count, Train, first_number, train_at, trains_at, trains, Run}
use Rattle.rules.specs.Orders.{station_order, leaving, departure_of, by_number, best_order, best_value, plan}
use Rattle.rules.proofs.Lists.{those_map}
use Rattle.theory.specs.Line.{Lawful}
use Rattle.theory.specs.Schedule.{All, leave}
use Rattle.theory.specs.Orders.{Woven, best, walk}
use Rattle.theory.proofs.Facts.{each}
use Rattle.theory.proofs.Permutations.{perm_map}
use Rattle.theory.proofs.Soundness.{same_trains}
use Rattle.best.specs.Fair.{Fair}
use Rattle.best.specs.Instance.{line}
use Rattle.best.proofs.Objectives.{fair_aim}
use Rattle.best.proofs.Instance.{lawful}
use Rattle.best.proofs.Numbers.{leaving_at}
use Rattle.best.proofs.Reindex.{found, rebuilt, unlike}
use Rattle.best.proofs.Stations.{order_perm, order_station}
use Rattle.best.proofs.Days.{woven_same}
use Rattle.best.proofs.BestOrder.{order_departures, order_day, best_woven, best_graded}
use Rattle.planner.specs.Day.{left, earliest}
use Rattle.planner.specs.Clock.{start}
use Rattle.planner.specs.Walk.{sofar, runs_left, times}
use Rattle.planner.specs.Writer.{Covers}

-- Two queues woven: either may be named first, and a test that tells them apart gives one back.
module _ {X : Type 0} where
  turned : {xs ys day : List X} → Woven xs ys day → Woven ys xs day
  turned Woven.none = Woven.none
  turned (Woven.first w) = Woven.second (turned w)
  turned (Woven.second w) = Woven.first (turned w)

  those_woven : (p : X → Bool) {xs ys day : List X} → Woven xs ys day
      → All (λ x. p x ≡ true) xs → All (λ y. p y ≡ false) ys → those p day ≡ xs
  those_woven p Woven.none a b = refl
  those_woven p (Woven.first w) (All.more e a) b = rw (e, those_woven p w a b)
  those_woven p (Woven.second w) a (All.more e b) = rw (e, those_woven p w a b)

-- a station's departures are those of its trains
times_of : (s : Station) (f : Train → ℕ) (xs : List Train) → times s (map (leaving_at f) xs) ≡ map f (those (λ x. same_station s x.station) xs)
unfolding times
times_of s f xs = simp (those_map, map-map)

module _ (S : Section) where
  abbrev F : Fair (aim S)
  F = fair_aim S

  -- the trains of the best order, as they leave, and their runs
  abbrev day : List Train
  day = leaving (best_order S) (station_order S one) (station_order S two)

  abbrev pub best_runs : List Run
  best_runs = leave (line S F) (λ x. 0) day

  -- when a train leaves, and when the train at a place of a station's list does
  abbrev leaves : Train → ℕ
  leaves x = departure_of x.number best_runs

  abbrev pub leaves_at : Station → ℕ → ℕ
  leaves_at s place = leaves (train_at S s place)

  -- at the start all of a station's trains are left, in its order
  pub all_left : (s : Station) → left S s (count_at S s) ≡ station_order S s
  unfolding left
  all_left s = let none : count_at S s - count_at S s ≡ 0 = omega arith in rw none

  -- a test for one station says the same of all trains of a station's order
  at_station : (s s' : Station) → All (λ x. same_station s x.station ≡ same_station s s') (station_order S s')
  at_station s s' = each (λ x e. ap (same_station s) e) (order_station S s')

  module _ (timed : T (good_timing S.timing)) (filled : 0 < count S) where
    P : Lawful (line S F)
    P = lawful S F timed

    -- the walk from the start makes the plan's runs, where its goal is the best that the day can come to
    module _ (goal : ℤ) (graded : F.grade goal ≡ best (line S F) (λ x. 0) (station_order S one) (station_order S two)) where
      pub from_start : runs_left S goal (start (count_at S one) (count_at S two)) ≡ best_runs
      unfolding runs_left start sofar earliest
      from_start =
          ap (leave (line S F) (λ x. 0))
          (ap₂ (walk (line S F) (F.grade goal) F.values.none (λ x. 0)) (all_left one) (all_left two)
          ∙ ap (λ value. walk (line S F) value F.values.none (λ x. 0) (station_order S one) (station_order S two)) graded
          ∙ sym (order_day S F P filled))

      pub goal_is_best : goal ≡ best_value S
      goal_is_best = sym (F.shown_grade goal) ∙ ap F.shown (graded ∙ sym (best_graded S F P filled)) ∙ F.shown_grade (best_value S)

    -- each station's trains leave in its own order
    woven : Woven (station_order S one) (station_order S two) day
    woven = best_woven S F P filled

    order_back : (s : Station) → those (λ x. same_station s x.station) day ≡ station_order S s
    order_back one = those_woven _ woven (at_station one one) (at_station one two)
    order_back two = those_woven _ (turned woven) (at_station two two) (at_station two one)

    -- each run is its train's, at the second that is found by its number
    runs_found : map (leaving_at leaves) day ≡ best_runs
    runs_found =
        let same : map (λ r. r.train) best_runs ≡ day = same_trains (line S F) P (λ x. 0) day in
        rw same at (rebuilt leaves (found (unlike S best_runs (rw same (woven_same S woven)))))

    pub times_by_place : (s : Station) (places : List ℕ) → map (train_at S s) (take (count_at S s) places) ≡ station_order S s
        → times s best_runs ≡ map (leaves_at s) (take (count_at S s) places)
    times_by_place s places ordered =
        ap (times s) (sym runs_found)
        ∙ times_of s leaves day
        ∙ ap (map leaves) (order_back s ∙ sym ordered)
        ∙ map-map leaves (train_at S s) (take (count_at S s) places)

    pub plan_by_place : plan S ≡ map (leaves_at one) (count_from 0 (count_at S one)) ++ map (leaves_at two) (count_from 0 (count_at S two))
    unfolding plan by_number trains trains_at
    plan_by_place = order_departures S F P filled (best_order S) ∙ simp (map-append, map-map)

  -- the places of a station's order are those of its list, each once
  module _ (s : Station) (places : List ℕ) (ordered : map (train_at S s) (take (count_at S s) places) ≡ station_order S s) where
    abbrev place : Train → ℕ
    place x = x.number - first_number S s

    places_back : (ks : List ℕ) → map place (map (train_at S s) ks) ≡ ks
    unfolding train_at
    places_back ks = map-map place (train_at S s) ks ∙ ap (λ f. map f ks) (λ i k. same k i) ∙ map-id ks
      where
        same : (k : ℕ) → place (train_at S s k) ≡ k
        same k = omega arith

    pub places_cover : count_at S s ≤ 48 → Covers (count_at S s) places
    unfolding trains_at
    places_cover few =
        record {
          few = few;
          all = simp (← ordered, places_back) at (perm_map place (order_perm S s));
        }
