-- The judge's own refusals, number by number: what the searches find is what the rules list first.
use mathlib.Core.List.{List, map, map-map}
use mathlib.Core.Path.{◌≡◌}
use Prim.Native.Nat.{ℕ}
use lib.Dec.{ltb}
use Rattle.rules.specs.Lists.{those, pairs, count_from}
use Rattle.rules.specs.Trains.{Section, count, runs}
use Rattle.rules.specs.Safe.{conflicts}
use Rattle.rules.specs.Refusals.{Refusal, naming, naming_two}
use Rattle.rules.proofs.Lists.{those_map, pairs_map}
use Rattle.rules.proofs.Trains.{nth_number, runs_nth}
use Rattle.judge.specs.Recorded.{late, clash}

-- the refusal of two trains by number
abbrev pub named : ℕ × ℕ → Refusal
named pair = record { number = 9; first = pair.0; second = pair.1 }

module _ (S : Section) (departures : List ℕ) where
  pub late_refusals : naming 8 (map (λ r. r.train) (those (λ r. ltb 10000000 r.departure) (runs S departures)))
      ≡ map (λ k. record { number = 8; first = k; second = 0 }) (those (late departures) (count_from 0 (count S)))
  unfolding naming late
  late_refusals = rw (runs_nth S departures, those_map) (simp (map-map, nth_number S))

  pub conflict_refusals : naming_two 9 (conflicts S departures)
      ≡ map named (those (λ pair. clash S departures pair.0 pair.1) (pairs (count_from 0 (count S))))
  unfolding naming_two conflicts clash
  conflict_refusals = rw (runs_nth S departures, pairs_map, those_map) (simp (map-map, nth_number S))
