-- The best of the rest is small enough to be counted with: so many trains cost at most so much.
use Rattle.std.proofs.Common.{List, ◌≡◌, ℕ, zero, suc, ◌+◌, ◌*◌, ◌≤◌, ◌<◌, arith, T, ℤ}
use mathlib.Core.Logic.{by_cases}
use native.Mathlib.Decide.{dec_le}
use lib.Signed.{mag}
use Rattle.std.proofs.lemmas.Grind.{common_steps}
use Rattle.rules.specs.declared.Station.{Station}
use Rattle.rules.specs.declared.Station.TheVariants.{One as one, Two as two}
use Rattle.rules.specs.Line.{good_timing}
use Rattle.rules.specs.Trains.{Section, aim, count_at, trains}
use Rattle.rules.proofs.Line.{arrival_most}
use Rattle.theory.specs.Schedule.{All}
use Rattle.costs.proofs.Bounds.{cost_bound, joined_bound}
use Rattle.planner.specs.declared.clock.Clock.{Clock}
use Rattle.planner.specs.Clock.{by_station, second_of, departs, alone}
use Rattle.planner.specs.Rests.{lesser}
use Rattle.planner.specs.Day.{terms_of, next_of, sends, rest, comes_to}
use Rattle.planner.proofs.Near.{departs_most}
use Rattle.planner.proofs.Left.{turn_good}
use Rattle.planner.proofs.Sending.{day_none, day_some, rest_none, rest_one, rest_two, rest_both}

lesser_small : (a b : ℤ) {k : ℕ} → mag a ≤ k → mag b ≤ k → mag (lesser a b) ≤ k
unfolding lesser
lesser_small a b h l = grind (arith, common_steps)

module _ (S : Section) (timed : T (good_timing S.timing)) (good : All (λ x. T ((aim S).good x.figures)) (trains S)) where
  module _ (c : Clock) (ones_few : c.ones ≤ count_at S one) (twos_few : c.twos ≤ count_at S two) where
    next_good : (s : Station) → 0 < by_station s c.ones c.twos → T ((aim S).good (next_of S c s).figures)
    next_good one some = turn_good S one c.ones some ones_few good
    next_good two some = turn_good S two c.twos some twos_few good

    pub cost_small : (s : Station) → 0 < by_station s c.ones c.twos → second_of c.last ≤ 9990000 → mag (sends S c s).value ≤ 100100000000
    unfolding alone terms_of aim
    cost_small s some soon =
        cost_bound _ _ (omega (arith, arrival_most S.timing timed s (departs S.timing c s), departs_most S.timing timed c s))
        S.objective (next_good s some)

    -- one train more costs at most as much more
    pub sent_small : (s : Station) (k : ℕ) → 0 < by_station s c.ones c.twos → c.ones + c.twos ≡ suc k → second_of c.last ≤ 9990000
        → mag (rest S (sends S c s)) ≤ k * 100100000001
        → mag (comes_to S (sends S c s)) ≤ suc k * 100100000001
    sent_small s k some all soon small =
        let after : Clock = sends S c s in
        let cost = cost_small s some soon in
        by_cases (dec_le 1 (after.ones + after.twos))
        (λ more. rw (day_some S.objective after (rest S after) more) (omega (arith, joined_bound after.value (rest S after) S.objective)))
        (λ empty. rw (day_none S.objective after (rest S after) (omega arith) (omega arith)) (omega arith))

  -- the trains left when a station's next train has left, and when it leaves
  pub ones_fewer : (c : Clock) (x : List ℤ) (s : Station) → (alone (terms_of S) c s x).ones ≤ c.ones
  unfolding alone
  ones_fewer c x s = omega arith

  pub twos_fewer : (c : Clock) (x : List ℤ) (s : Station) → (alone (terms_of S) c s x).twos ≤ c.twos
  unfolding alone
  twos_fewer c x s = omega arith

  pub leaves_soon : (c : Clock) (x : List ℤ) (s : Station) → second_of (alone (terms_of S) c s x).last ≤ second_of c.last + 10000
  unfolding alone terms_of
  leaves_soon c x s = departs_most S.timing timed c s

  pub one_fewer : (c : Clock) (x : List ℤ) (s : Station) → 0 < by_station s c.ones c.twos
      → suc ((alone (terms_of S) c s x).ones + (alone (terms_of S) c s x).twos) ≡ c.ones + c.twos
  unfolding alone
  one_fewer c x s some = grind (arith, common_steps)

  pub rest_small : (k : ℕ) (c : Clock) → c.ones ≤ count_at S one → c.twos ≤ count_at S two → c.ones + c.twos ≡ k
      → second_of c.last + k * 10000 ≤ 10000000 → mag (rest S c) ≤ k * 100100000001
  rest_small zero c ones_few twos_few all soon = rw (rest_none S c ones_few twos_few (omega arith) (omega arith)) (omega arith)
  rest_small (suc k) c ones_few twos_few all soon =
      let first : 0 < c.ones → mag (comes_to S (after one)) ≤ suc k * 100100000001 = λ some. sent one some (rest_small k (after one)) in
      let second : 0 < c.twos → mag (comes_to S (after two)) ≤ suc k * 100100000001 = λ some. sent two some (rest_small k (after two)) in
      let one_left = rest_one S c ones_few twos_few in
      let two_left = rest_two S c ones_few twos_few in
      let both_left = rest_both S c ones_few twos_few in
      let smaller = lesser_small (comes_to S (after one)) (comes_to S (after two)) {k = suc k * 100100000001} in
      grind (arith, common_steps, first, second, one_left, two_left, both_left, smaller)
    where
      after : Station → Clock
      after s = sends S c s

      sent : (s : Station) → 0 < by_station s c.ones c.twos
          → ((after s).ones ≤ count_at S one → (after s).twos ≤ count_at S two → (after s).ones + (after s).twos ≡ k
          → second_of (after s).last + k * 10000 ≤ 10000000 → mag (rest S (after s)) ≤ k * 100100000001)
          → mag (comes_to S (after s)) ≤ suc k * 100100000001
      sent s some small = sent_small c ones_few twos_few s k some all (omega arith)
          (small (omega (arith, ones_fewer c x s)) (omega (arith, twos_fewer c x s)) (omega (arith, one_fewer c x s some)) (omega (arith, leaves_soon c x s)))
        where
          x : List ℤ
          x = (next_of S c s).figures
