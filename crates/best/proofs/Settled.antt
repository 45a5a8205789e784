-- The runs of a safe schedule, station by station, settled into the stations' orders.
use mathlib.Core.List.{List, ◌++◌, map, map-map, map-id, map-append}
use mathlib.Core.Path.{◌≡◌, ◌∙◌}
use Prim.Native.Nat.{ℕ}
use lib.Dec.{T}
use lib.ListN.{get_or}
use Rattle.rules.specs.declared.Station.{Station}
use Rattle.rules.specs.declared.Station.TheVariants.{One as one, Two as two}
use Rattle.rules.specs.Trains.{Section, aim, trains_at, trains, Run, runs}
use Rattle.rules.specs.Safe.{Safe}
use Rattle.theory.specs.Line.{Lawful}
use Rattle.theory.specs.Schedule.{All, Pairs, worth, Apart}
use Rattle.theory.proofs.Values.{both}
use Rattle.theory.proofs.Facts.{each, all_split, pairs_together, pairs_split, all_unmapped, across}
use Rattle.theory.proofs.Permutations.{all_perm, worth_append}
use Rattle.theory.proofs.Apart.{apart_turn}
use Rattle.best.specs.Fair.{Fair}
use Rattle.best.specs.Instance.{line}
use Rattle.best.proofs.Pairwise.{safe_pairs}
use Rattle.best.proofs.Numbers.{runs_rising}
use Rattle.best.proofs.Safety.{Fine, keeps_fine}
use Rattle.best.proofs.Stations.{order_perm, Settled, settle}

module _ (S : Section) (departures : List ℕ) where
  -- the runs of a station's trains
  abbrev pub runs_at : Station → List Run
  runs_at s = map (λ x. record { train = x; departure = get_or departures x.number 0 }) (trains_at S s)

  pub runs_split : runs S departures ≡ runs_at one ++ runs_at two
  unfolding runs trains
  runs_split = map-append _ (trains_at S one) (trains_at S two)

  trains_kept : (s : Station) → map (λ r. r.train) (runs_at s) ≡ trains_at S s
  trains_kept s = map-map _ _ (trains_at S s) ∙ map-id (trains_at S s)

module _ (S : Section) (F : Fair (aim S)) (P : Lawful (line S F)) (good : All (λ x. T ((aim S).good x.figures)) (trains S))
    (departures : List ℕ) (safe : Safe S departures) where
  pub runs_fine : Pairs (Fine S F) (runs S departures)
  runs_fine = pairs_together (λ r s n k. keeps_fine S F r s n k) (runs_rising S departures) (safe_pairs S departures safe)

  good_at : (s : Station) → All (λ x. T ((aim S).good x.figures)) (trains_at S s)
  unfolding trains
  good_at one = (all_split (trains_at S one) good).0
  good_at two = (all_split (trains_at S one) good).1

  parts : Pairs (Fine S F) (runs_at S departures one) × Pairs (Fine S F) (runs_at S departures two) × All (λ r. All (Fine S F r) (runs_at S departures two)) (runs_at S departures one)
  parts = pairs_split (runs_at S departures one) (rw (runs_split S departures) at runs_fine)

  pub settled : (s : Station) → Settled S F P s (runs_at S departures s)
  settled one = settle S F P one (runs_at S departures one) (trains_kept S departures one) parts.0 (good_at one)
  settled two = settle S F P two (runs_at S departures two) (trains_kept S departures two) parts.1 (good_at two)

  pub good_settled : (s : Station) → All (λ r. T ((aim S).good r.train.figures)) (settled s).runs
  good_settled s = all_unmapped (λ r. r.train) (settled s).runs (rw (settled s).queued (all_perm (order_perm S s) (good_at s)))

  -- the two stations' settled runs keep apart, as the runs did that they come from
  pub apart_settled : All (λ r. All (Apart (line S F) r) (settled two).runs) (settled one).runs
  apart_settled =
      let first = each (λ r a. (settled two).clear r (each (λ z f. f.apart) a)) parts.2 in
      let second = each (λ z. (settled one).clear z) (across (apart_turn (line S F)) (settled two).runs first) in
      across (apart_turn (line S F)) (settled one).runs second

  pub settled_cheaper :
      F.values.◌≼◌ (F.values.◌⊙◌ (worth (line S F) (settled one).runs) (worth (line S F) (settled two).runs))
      (worth (line S F) (runs S departures))
  settled_cheaper =
      rw (runs_split S departures, worth_append (line S F) F.ordered (runs_at S departures one) (runs_at S departures two))
      (both F.values F.ordered (settled one).cheaper (settled two).cheaper)
