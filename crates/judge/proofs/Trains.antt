-- The train with a number is one of station 1's, or one of station 2's past station 1's count.
use mathlib.Core.Path.{◌≡◌, ◌∙◌, ap}
use Prim.Native.Nat.{ℕ, ◌+◌, ◌-◌, ◌*◌, ◌≤◌, ◌<◌}
use native.Mathlib.Omega.{arith}
use lib.ListN.{length, take, drop}
use Rattle.rules.specs.declared.Station.TheVariants.{One as one, Two as two}
use Rattle.rules.specs.Trains.{Section, aim, count_at, count, train_at}
use Rattle.rules.proofs.Trains.{nth, nth_one, nth_two}
use Rattle.refusals.specs.Trains.{trains_in}
use Rattle.refusals.proofs.Table.{train_within}

pub ones_within : (S : Section) {n : ℕ} → n ≡ count_at S one → n ≤ count S
unfolding count
ones_within S counted = omega arith

-- station 1 has n trains
module _ (S : Section) {n : ℕ} (k : ℕ) (counted : n ≡ count_at S one) where
  first_trains : k < n → nth S k ≡ train_at S one k
  first_trains h = nth_one S k (omega arith)

  later_trains : n ≤ k → nth S k ≡ train_at S two (k - n)
  later_trains h =
      let past : k ≡ count_at S one + (k - n) = omega arith in
      ap (nth S) past ∙ nth_two S (k - n)

  pub station_one : k < n → one ≡ (nth S k).station
  unfolding train_at
  station_one h = rw (first_trains h)

  pub station_two : n ≤ k → two ≡ (nth S k).station
  unfolding train_at
  station_two h = rw (later_trains h)

  pub figures_one : k < n → take (aim S).numbers (drop (k * (aim S).numbers) S.one) ≡ (nth S k).figures
  unfolding train_at
  figures_one h = rw (first_trains h)

  pub figures_two : n ≤ k → take (aim S).numbers (drop ((k - n) * (aim S).numbers) S.two) ≡ (nth S k).figures
  unfolding train_at
  figures_two h = rw (later_trains h)

  pub one_within : k < n → k * (aim S).numbers + (aim S).numbers ≤ length S.one
  unfolding count_at trains_in aim
  one_within h = train_within S.objective S.one k (omega arith)

  pub two_within : n ≤ k → k < count S → (k - n) * (aim S).numbers + (aim S).numbers ≤ length S.two
  unfolding count count_at trains_in aim
  two_within h l = train_within S.objective S.two (k - n) (omega arith)
