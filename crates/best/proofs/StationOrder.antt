-- No order within a station beats the station's: at the same seconds, trains in the station's order are safe and cost no more.
use mathlib.Core.List.{List, ◌++◌, map, map-map, map-append}
use mathlib.Core.Path.{◌≡◌, refl, sym, ◌∙◌, ap}
use Prim.Native.Nat.{ℕ}
use lib.ListN.{get_or}
use lib.Signed.{◌≤ℤ◌}
use Rattle.rules.specs.declared.Station.{Station}
use Rattle.rules.specs.declared.Station.TheVariants.{One as one, Two as two}
use Rattle.rules.specs.Trains.{Section, aim, Train, trains, Run}
use Rattle.rules.specs.Safe.{Safe}
use Rattle.rules.specs.Value.{value}
use Rattle.rules.specs.Orders.{by_number, station_order}
use Rattle.theory.specs.Line.{Lawful}
use Rattle.theory.specs.Schedule.{All, Pairs, Apart}
use Rattle.theory.specs.Permutations.{Perm, then}
use Rattle.theory.proofs.Facts.{each, together, all_split, all_unmapped, pairs_append}
use Rattle.theory.proofs.Permutations.{perm_back, perm_map, worth_append}
use Rattle.best.specs.Fair.{Fair}
use Rattle.best.specs.Instance.{line}
use Rattle.best.specs.Trainees.{seconds, StationOrderServes}
use Rattle.best.proofs.Accepted.{Accepted}
use Rattle.best.proofs.Safety.{→same, Fine}
use Rattle.best.proofs.Reindex.{graded_value, same_value, still_safe, reads}
use Rattle.best.proofs.Stations.{order_perm, order_station, Settled}
use Rattle.best.proofs.Settled.{runs_at, settled, apart_settled, settled_cheaper}
use Rattle.best.proofs.Days.{stations_same, order_turns, all_in_turn, in_order}

agree : {X Y : Type 0} (f g : X → Y) {xs : List X} → All (λ x. f x ≡ g x) xs → map f xs ≡ map g xs
agree f g All.none = refl
agree f g (All.more e a) = rw (e, agree f g a)

module _ (S : Section) (F : Fair (aim S)) (P : Lawful (line S F)) (A : Accepted S) (departures : List ℕ) (safe : Safe S departures) where
  abbrev at : (s : Station) → Settled S F P s (runs_at S departures s)
  at s = settled S F P A.good departures safe s

  abbrev both : List Run
  both = (at one).runs ++ (at two).runs

  same : Perm (trains S) (map (λ r. r.train) both)
  same = rw (map-append (λ r. r.train) (at one).runs (at two).runs, (at one).queued, (at two).queued) (stations_same S)

  stationed : (s : Station) → All (λ r. r.train.station ≡ s) (at s).runs
  stationed s = all_unmapped (λ r. r.train) (at s).runs (rw (at s).queued (order_station S s))

  fine_at : (s : Station) → Pairs (Fine S F) (at s).runs
  fine_at s = all_in_turn S F P (at s).leaving (rw (at s).queued (order_turns S F s))

  -- trains of different stations need only keep apart
  parted : (r z : Run) → r.train.station ≡ one → z.train.station ≡ two → Apart (line S F) r z → Fine S F r z
  parted r z e f a =
      let never : r.train.station ≡ z.train.station → ⊥ = λ h. →same one two (sym e ∙ h ∙ f) in
      record { apart = a; first = λ l h. absurd (never h); second = λ l h. absurd (never h) }

  fine : Pairs (Fine S F) both
  fine =
      pairs_append (fine_at one) (fine_at two)
      (together (λ r e a. together (λ z f b. parted r z e f b) (stationed two) a) (stationed one) (apart_settled S F P A.good departures safe))

  abbrev ordered : List ℕ
  ordered = by_number S both

  reads_at : (s : Station) → All (λ r. get_or ordered r.train.number 0 ≡ r.departure) (at s).runs
  reads_at one = (all_split (at one).runs (reads S both same)).0
  reads_at two = (all_split (at one).runs (reads S both same)).1

  same_seconds : (s : Station) → Perm (seconds S departures s) (seconds S ordered s)
  unfolding seconds
  same_seconds s =
      let read : Train → ℕ = λ x. get_or ordered x.number 0 in
      let settled : map (λ r. r.departure) (at s).runs ≡ map read (station_order S s) =
      agree (λ r. r.departure) (λ r. read r.train) (each (λ r. sym) (reads_at s)) ∙ sym (map-map _ _ (at s).runs) ∙ ap (map read) (at s).queued in
      then (rw (map-map, settled) at (at s).seconds) (perm_back (perm_map read (order_perm S s)))

  no_greater : value S ordered ≤ℤ value S departures
  no_greater =
      F.down _ _
      (rw (same_value S both same F A.filled, graded_value S F A.filled departures, worth_append (line S F) F.ordered (at one).runs (at two).runs)
      (settled_cheaper S F P A.good departures safe))

  pub serves : StationOrderServes S departures
  serves =
      record {
        ordered = ordered;
        safe = still_safe S both same F fine;
        same_seconds = same_seconds;
        in_order = λ s. rw (at s).queued at (in_order S F P ordered (at s).leaving (reads_at s));
        no_greater = no_greater;
      }
