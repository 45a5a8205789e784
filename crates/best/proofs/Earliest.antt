-- A string's schedule is the earliest of its order: any safe schedule's order, sent without waiting, lets no train leave later.
use mathlib.Core.Bool.{Bool, true, false, cond}
use mathlib.Core.List.{List, map, map-map, map-id}
use Prim.Native.Nat.{ℕ, ◌≤◌, zero-le}
use native.Mathlib.Nat.{le_of_lt}
use lib.Dec.{eqb}
use lib.ListN.{get_or}
use Rattle.rules.specs.declared.Station.TheVariants.{One as one, Two as two}
use Rattle.rules.specs.Trains.{Section, aim, Train, Run, runs}
use Rattle.rules.specs.Safe.{Safe}
use Rattle.rules.specs.Orders.{Order, leaving, station_order, departure_of, by_number, departures_of}
use Rattle.theory.specs.Line.{Lawful}
use Rattle.theory.specs.Schedule.{Pairs, leave, Leaves}
use Rattle.theory.specs.Permutations.{Perm}
use Rattle.theory.specs.Waiting.{NoLater}
use Rattle.theory.proofs.Facts.{each, all_any, pairs_together, pairs_mapped}
use Rattle.theory.proofs.Permutations.{perm_map, pairs_perm}
use Rattle.theory.proofs.Apart.{leaves_first}
use Rattle.theory.proofs.Waiting.{no_later}
use Rattle.best.specs.Fair.{Fair}
use Rattle.best.specs.Instance.{line}
use Rattle.best.specs.Demand.{Follows}
use Rattle.best.proofs.Numbers.{leaving_at, by_place}
use Rattle.best.proofs.Accepted.{Accepted}
use Rattle.best.proofs.Safety.{fine_turn}
use Rattle.best.proofs.Reindex.{recorded}
use Rattle.best.proofs.Settled.{runs_fine}
use Rattle.best.proofs.Days.{woven_same, Whole, day_turns, day_safe, day_in_order}
use Rattle.best.proofs.BestOrder.{order_departures}

cond_le : (t : Bool) {a b c d : ℕ} → a ≤ b → c ≤ d → cond t a c ≤ cond t b d
cond_le true h k = h
cond_le false h k = k

-- of two schedules of one order, each number's departure is no later where each train's is
found_no_later : {rs ss : List Run} → NoLater rs ss → (number : ℕ) → departure_of number rs ≤ departure_of number ss
found_no_later NoLater.none number = zero-le
found_no_later (NoLater.more {s = s} e h t) number = rw e (cond_le (eqb number s.train.number) h (found_no_later t number))

module _ (S : Section) (F : Fair (aim S)) (P : Lawful (line S F)) where
  -- runs listed as they leave: the same order without waiting lets none of them leave later
  pub none_later : (departures : List ℕ) {rs : List Run} → Perm (runs S departures) rs → Pairs (Leaves (line S F)) rs
      → (number : ℕ) → get_or (by_number S (leave (line S F) (λ x. 0) (map (λ r. r.train) rs))) number 0 ≤ get_or departures number 0
  unfolding by_number
  none_later departures {rs} same leaves =
      let early = no_later (line S F) P (λ x. 0) leaves (all_any (λ r. zero-le) rs) (all_any (λ r. zero-le) rs) in
      by_place S (λ x. departure_of x.number (leave (line S F) (λ y. 0) (map (λ r. r.train) rs))) departures
      (each (λ x e. rw (← e) (found_no_later early x.number)) (recorded S departures rs same))

  module _ (A : Accepted S) (o : Order) (whole : Whole S o) where
    pub order_safe : Safe S (departures_of S o)
    order_safe = rw (order_departures S F P A.filled o) (day_safe S F P _ (woven_same S whole) (day_turns S F whole))

    pub order_follows : Follows S o (departures_of S o)
    order_follows = rw (order_departures S F P A.filled o) (day_in_order S F P _ (woven_same S whole))

    -- a safe schedule that follows the string, listed as it leaves
    module _ (departures : List ℕ) (safe : Safe S departures) (follows : Follows S o departures) where
      abbrev run : Train → Run
      run = leaving_at (λ x. get_or departures x.number 0)

      listed : Perm (runs S departures) (map run (leaving o (station_order S one) (station_order S two)))
      unfolding runs
      listed = perm_map run (woven_same S whole)

      leaves : Pairs (Leaves (line S F)) (map run (leaving o (station_order S one) (station_order S two)))
      leaves =
          pairs_together (λ r s f h. leaves_first (line S F) P (le_of_lt h) f.apart)
          (pairs_perm (fine_turn S F) listed (runs_fine S F P A.good departures safe)) (pairs_mapped run follows)

      pub order_earliest : (number : ℕ) → get_or (departures_of S o) number 0 ≤ get_or departures number 0
      order_earliest = rw (order_departures S F P A.filled o) (rw (map-map, map-id) at (none_later departures listed leaves))
