-- The order that the rules choose is the one that the theory's walk finds, and its value is the best of the rest from the start.
use mathlib.Core.List.{List, map}
use mathlib.Core.Path.{◌≡◌, refl, sym, ◌∙◌, ap}
use Prim.Native.Nat.{◌<◌}
use lib.ListN.{length}
use Rattle.rules.specs.declared.Station.{Station}
use Rattle.rules.specs.declared.Station.TheVariants.{One as one, Two as two}
use Rattle.rules.specs.Trains.{Section, aim, count_at, count, Train, Run}
use Rattle.rules.specs.Orders.{Order, orders, leaving, station_order, schedule, by_number, departures_of, value_of, best_order, best_value}
use Rattle.theory.specs.Line.{Lawful}
use Rattle.theory.specs.Schedule.{All, leave, worth}
use Rattle.theory.specs.Orders.{days, Woven, first_best, best, best_day}
use Rattle.theory.proofs.Facts.{at, each, all_unmapped}
use Rattle.theory.proofs.Permutations.{perm_length}
use Rattle.theory.proofs.Woven.{woven_days}
use Rattle.theory.proofs.FirstBest.{day_listed, day_best, day_first}
use Rattle.best.specs.Fair.{Fair}
use Rattle.best.specs.Instance.{line}
use Rattle.best.proofs.Instance.{sent_leaves}
use Rattle.best.proofs.Orders.{days_same}
use Rattle.best.proofs.Chosen.{chosen_same}
use Rattle.best.proofs.Numbers.{trains_count_at}
use Rattle.best.proofs.Stations.{order_perm}
use Rattle.best.proofs.Days.{woven_same, Whole, day_value}

module _ (S : Section) (F : Fair (aim S)) (P : Lawful (line S F)) (filled : 0 < count S) where
  abbrev pub Q : Station → List Train
  Q s = station_order S s

  order_count : (s : Station) → length (Q s) ≡ count_at S s
  order_count s = sym (perm_length (order_perm S s)) ∙ trains_count_at S s

  -- a day's runs without waiting
  abbrev pub sent_day : List Train → List Run
  sent_day day = leave (line S F) (λ x. 0) day

  pub order_departures : (o : Order) → departures_of S o ≡ by_number S (sent_day (leaving o (Q one) (Q two)))
  unfolding departures_of schedule
  order_departures o = ap (by_number S) (sym (sent_leaves S F (λ s. 0) (λ x. 0) (λ x. refl) (leaving o (Q one) (Q two))))

  section_days : map (λ o. leaving o (Q one) (Q two)) (orders (count_at S one) (count_at S two)) ≡ days (Q one) (Q two)
  section_days = rw (← order_count one, ← order_count two) (days_same (Q one) (Q two))

  pub order_woven : All (Whole S) (orders (count_at S one) (count_at S two))
  order_woven =
      all_unmapped {P = Woven (Q one) (Q two)} (λ o. leaving o (Q one) (Q two)) _ (rw section_days (woven_days (Q one) (Q two)))

  order_value : (o : Order) → Whole S o
      → F.grade (value_of S o) ≡ worth (line S F) (sent_day (leaving o (Q one) (Q two)))
  unfolding value_of
  order_value o w = rw (order_departures o) (day_value S F P _ (woven_same S w) filled)

  pub order_day : leaving (best_order S) (Q one) (Q two)
      ≡ best_day (line S F) (Q one) (Q two)
  unfolding best_order
  order_day =
      chosen_same F (value_of S) (λ o. leaving o (Q one) (Q two)) (λ d. worth (line S F) (sent_day d)) _ refl (each order_value order_woven)
      ∙ ap (first_best F.values _) section_days
      ∙ sym (day_first (line S F) P (Q one) (Q two))

  pub best_woven : Whole S (best_order S)
  best_woven = rw order_day (at (woven_days (Q one) (Q two)) (day_listed (line S F) P (Q one) (Q two)))

  pub best_graded : F.grade (best_value S) ≡ best (line S F) (λ x. 0) (Q one) (Q two)
  unfolding best_value
  best_graded =
      order_value (best_order S) best_woven
      ∙ ap (λ d. worth (line S F) (sent_day d)) order_day
      ∙ day_best (line S F) P (Q one) (Q two)
