-- A day's order, sent without waiting: its departures by number are safe and in that order, and their value is its worth.
use mathlib.Core.List.{List, ◌++◌, map}
use mathlib.Core.Logic.{⊎_elim}
use mathlib.Core.Path.{◌≡◌, sym, ◌∙◌}
use Prim.Native.Nat.{ℕ, ◌<◌}
use native.Mathlib.Omega.{arith}
use lib.Dec.{T}
use lib.ListN.{get_or}
use Rattle.rules.specs.declared.Station.{Station}
use Rattle.rules.specs.declared.Station.TheVariants.{One as one, Two as two}
use Rattle.rules.specs.Trains.{Section, aim, count, Train, trains_at, trains, Run}
use Rattle.rules.specs.Safe.{Safe}
use Rattle.rules.specs.Value.{value}
use Rattle.rules.specs.Orders.{Order, leaving, station_order, by_number}
use Rattle.theory.specs.Line.{Lawful}
use Rattle.theory.specs.Schedule.{All, Pairs, leave, worth, Leaves, Apart}
use Rattle.theory.specs.Orders.{Woven}
use Rattle.theory.specs.Permutations.{Perm, then}
use Rattle.theory.proofs.Facts.{each, pairs_each, pairs_together, pairs_any, pairs_of, pairs_mapped, pairs_unmapped}
use Rattle.theory.proofs.Permutations.{perm_before, perm_after}
use Rattle.theory.proofs.Woven.{woven_perm, woven_pairs}
use Rattle.theory.proofs.Soundness.{sound, same_trains}
use Rattle.best.specs.Fair.{Fair}
use Rattle.best.specs.Instance.{line}
use Rattle.best.specs.Demand.{LeaveInOrder}
use Rattle.best.proofs.Numbers.{rising_at}
use Rattle.best.proofs.Reindex.{same_value, still_safe, reads}
use Rattle.best.proofs.Safety.{→same, Fine}
use Rattle.best.proofs.Stations.{order_perm, order_station, order_listed}

module _ (S : Section) where
  -- the section's trains are those of the two stations' orders, one after the other or woven
  pub stations_same : Perm (trains S) (station_order S one ++ station_order S two)
  unfolding trains
  stations_same = then (perm_before (order_perm S one) (trains_at S two)) (perm_after (station_order S one) (order_perm S two))

  pub woven_same : {day : List Train} → Woven (station_order S one) (station_order S two) day → Perm (trains S) day
  woven_same w = then stations_same (woven_perm w)

  -- a string that sends all trains of both stations
  abbrev pub Whole : Order → Type 0
  Whole o = Woven (station_order S one) (station_order S two) (leaving o (station_order S one) (station_order S two))

  -- where list order is kept, the first of two trains of one station has the smaller number
  abbrev pub Turn : Train → Train → Type 0
  Turn x y = T (aim S).listed → x.station ≡ y.station → x.number < y.number

  module _ (F : Fair (aim S)) where
    pub order_turns : (s : Station) → Pairs Turn (station_order S s)
    order_turns s =
        ⊎_elim
        (λ listed. rw (order_listed S s listed) (pairs_each (λ x y h l e. h) (rising_at S s)))
        (λ trades. pairs_any (λ x y l e. absurd (rw trades.free at l)) (station_order S s)) F.order

    pub strangers : (s s' : Station) → (s ≡ s' → ⊥) → All (λ x. All (Turn x) (station_order S s')) (station_order S s)
    strangers s s' n =
        each (λ x a. each (λ y b l e. absurd (n (sym a ∙ e ∙ b))) (order_station S s')) (order_station S s)

    pub day_turns : {day : List Train} → Woven (station_order S one) (station_order S two) day → Pairs Turn day
    day_turns w =
        woven_pairs w (order_turns one) (order_turns two) (strangers one two (→same one two)) (strangers two one (→same two one))

module _ (S : Section) (F : Fair (aim S)) (P : Lawful (line S F)) where
  -- of two runs the first leaves first, and has its turn first
  in_turn : (r s : Run) → Leaves (line S F) r s → Turn S r.train s.train → Fine S F r s
  in_turn r s l t =
      record {
        apart = Apart.first l;
        first = λ k e n. omega (arith, l.waits, P.positive r.train s.train);
        second = λ k e n. absurd (omega (arith, t k e));
      }

  pub all_in_turn : {rs : List Run} → Pairs (Leaves (line S F)) rs → Pairs (Turn S) (map (λ r. r.train) rs) → Pairs (Fine S F) rs
  all_in_turn {rs} leaves turns = pairs_together in_turn leaves (pairs_unmapped (λ r. r.train) rs turns)

  -- runs listed as they leave: their departures, read by number, are in that order
  pub in_order : (departures : List ℕ) {rs : List Run} → Pairs (Leaves (line S F)) rs
      → All (λ r. get_or departures r.train.number 0 ≡ r.departure) rs → LeaveInOrder departures (map (λ r. r.train) rs)
  in_order departures leaves found =
      pairs_mapped (λ r. r.train)
      (pairs_together (λ r z l e. omega (arith, l.waits, P.positive r.train z.train, e.0, e.1)) leaves (pairs_of found))

  -- trains that leave in this order without waiting
  module _ (day : List Train) (same : Perm (trains S) day) where
    abbrev sent_day : List Run
    sent_day = leave (line S F) (λ x. 0) day

    sent_same : Perm (trains S) (map (λ r. r.train) sent_day)
    sent_same = rw (same_trains (line S F) P (λ x. 0) day) same

    pub day_value : 0 < count S → F.grade (value S (by_number S sent_day)) ≡ worth (line S F) sent_day
    day_value = same_value S sent_day sent_same F

    pub day_safe : Pairs (Turn S) day → Safe S (by_number S sent_day)
    day_safe turns =
        still_safe S sent_day sent_same F
        (all_in_turn (sound (line S F) P (λ x. 0) day) (rw (same_trains (line S F) P (λ x. 0) day) turns))

    pub day_in_order : LeaveInOrder (by_number S sent_day) day
    day_in_order =
        rw (same_trains (line S F) P (λ x. 0) day) at
        (in_order (by_number S sent_day) (sound (line S F) P (λ x. 0) day) (reads S sent_day sent_same))
