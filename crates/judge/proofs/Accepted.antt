-- What is known of departures of which the call's refusals are none, number by number.
use mathlib.Core.List.{List, []}
use mathlib.Core.Logic.{by_cases}
use mathlib.Core.Path.{◌≡◌}
use Prim.Native.Nat.{ℕ, zero, suc, ◌+◌, ◌≤◌, ◌<◌, zero-le}
use native.Mathlib.Omega.{arith}
use native.Mathlib.Decide.{ℕ_discrete}
use borrow.Author.Tests.{ltb-false}
use lib.Dec.{T, leb→le}
use lib.IntN.{pos}
use lib.ListN.{length, get_or}
use Rattle.std.specs.Prelude.{None}
use Rattle.rules.specs.Lists.{count_from}
use Rattle.rules.specs.declared.Station.{Station}
use Rattle.rules.specs.declared.Station.TheVariants.{One as one, Two as two}
use Rattle.rules.specs.Line.{good_running, good_headway, good_timing, running, arrival}
use Rattle.rules.specs.Trains.{Section, aim, count}
use Rattle.rules.specs.Refusals.{refusals}
use Rattle.rules.specs.Answers.{value_is, verdict}
use Rattle.rules.specs.Value.{cost_of}
use Rattle.rules.proofs.Tests.{both}
use Rattle.rules.proofs.Trains.{nth, trains_nth}
use Rattle.theory.specs.Schedule.{All}
use Rattle.theory.proofs.Facts.{all_unmapped}
use Rattle.best.proofs.Accepted.{Accepted, accepted, accepted_places}
use Rattle.costs.proofs.Bounds.{cost_bound}
use Rattle.refusals.specs.First.{IsFirst}
use Rattle.refusals.proofs.Reasons.{none_found}
use Rattle.refusals.proofs.Table.{most_bound}
use Rattle.judge.specs.Recorded.{late, Judged}

-- what holds of numbers in a row holds of each of them
at_number : {P : ℕ → Type 0} (k n : ℕ) → All P (count_from k n) → (i : ℕ) → k ≤ i → i < k + n → P i
at_number k zero a i l h = absurd (omega arith)
at_number k (suc n) (All.more p a) i l h =
    by_cases (ℕ_discrete k i) (λ e. rw e at p) (λ other. at_number (suc k) n a i (omega arith) (omega arith))

module _ (S : Section) (departures : List ℕ) (passed : value_is (pos 0) ≡ verdict (refusals S (length departures)) (pos 0)) where
  pub unrefused : refusals S (length departures) ≡ []
  unrefused = none_found (refusals S (length departures)) (pos 0) passed

  call : Accepted S
  call = accepted S (length departures) unrefused

  all : length departures ≡ count S
  all = accepted_places S (length departures) unrefused

  few : length departures ≤ 96
  unfolding count aim
  few = omega (arith, all, most_bound S.objective, call.few one, call.few two)

  pub counted : (length departures ≡ count S) × (length departures ≤ 96)
  counted = (all, few)

  hurried : S.timing.running ≤ 10000
  unfolding good_running good_headway good_timing
  hurried = let ((_, p), _) = simp both at call.timed in leb→le S.timing.running 10000 p

  good_nth : (k : ℕ) → k < count S → T ((aim S).good (nth S k).figures)
  good_nth k h =
      at_number 0 (count S) (all_unmapped (nth S) (count_from 0 (count S)) (rw (trains_nth S) at call.good)) k zero-le (omega arith)

  arrives_by : (s : Station) (departure : ℕ) → departure ≤ 10000000 → arrival S.timing s departure ≤ 10010000
  unfolding running arrival
  arrives_by s departure h = omega (arith, hurried)

  -- what the total asks, once no train is late
  pub judged : IsFirst (late departures) 0 (length departures) None → Judged S departures
  unfolding late aim cost_of
  judged in_time =
      record {
        filled = call.filled;
        hurried = hurried;
        timely = soon;
        small = λ k l. cost_bound (nth S k).figures _ (arrives_by (nth S k).station _ (soon k l)) S.objective (good_nth k l);
      }
    where
      soon : (k : ℕ) → k < count S → get_or departures k 0 ≤ 10000000
      soon k l = ltb-false 10000000 (get_or departures k 0) (in_time k zero-le (omega (arith, all)))
