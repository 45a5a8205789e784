-- A clock stays on its way through the day when a station's next train leaves.
use Rattle.std.proofs.Common.{true, cond, List, ◌≡◌, refl, sym, ◌∙◌, ap, ap₂, ℕ, suc, ◌+◌, ◌-◌, ◌≤◌, ◌<◌, suc-mul, zero-mul, arith, T, ℤ, Option, Some, None}
use Rattle.std.proofs.lemmas.Option.{none-some}
use Rattle.std.proofs.lemmas.Grind.{common_steps}
use Rattle.rules.specs.declared.Timing.{Timing}
use Rattle.rules.specs.declared.Station.{Station}
use Rattle.rules.specs.declared.Station.TheVariants.{One as one, Two as two}
use Rattle.rules.specs.Line.{good_timing, gap, same_station}
use Rattle.rules.specs.Trains.{Section, aim}
use Rattle.planner.specs.declared.clock.Clock.{Clock}
use Rattle.planner.specs.declared.clock.Departure.{Departure}
use Rattle.planner.specs.Clock.{by_station, second_of, departs_after, departs, change, changed, alone, next}
use Rattle.planner.specs.Cells.{gone_of, seconds}
use Rattle.planner.specs.Day.{terms_of, gone, Running}
use Rattle.planner.proofs.Near.{departs_most}

-- one train more leaves the headway after the last, or at a change of station the running time after it
module _ (t : Timing) (k n : ℕ) (h : k < n) where
  seconds_same : seconds t k (suc n) ≡ seconds t k n + gap t one one
  unfolding seconds
  seconds_same =
      let more : suc n - 1 - k ≡ suc (n - 1 - k) = omega arith in
      rw (more, suc-mul) (omega arith)

  seconds_changed : seconds t (suc k) (suc n) ≡ seconds t k n + gap t one two
  unfolding seconds
  seconds_changed =
      let same : suc n - 1 - suc k ≡ n - 1 - k = omega arith in
      rw (same, suc-mul) (omega arith)

  seconds_next : (s s' : Station) → seconds t (k + cond (same_station s s') 0 1) (suc n) ≡ seconds t k n + gap t s s'
  seconds_next one one = ap (λ j. seconds t j (suc n)) (omega arith) ∙ seconds_same
  seconds_next one two = ap (λ j. seconds t j (suc n)) (omega arith) ∙ seconds_changed
  seconds_next two one = ap (λ j. seconds t j (suc n)) (omega arith) ∙ seconds_changed
  seconds_next two two = ap (λ j. seconds t j (suc n)) (omega arith) ∙ seconds_same

seconds_start : (t : Timing) → seconds t 0 1 ≡ 0
unfolding seconds
seconds_start t = simp zero-mul

change_most : (last : Option Departure) (s : Station) → change last s ≤ 1
change_most None s = omega arith
change_most (Some last) s = grind (arith, common_steps)

module _ (S : Section) (timed : T (good_timing S.timing)) (c : Clock) (R : Running S c) (s : Station) (some : 0 < by_station s c.ones c.twos) (x : List ℤ) where
  abbrev after : Clock
  after = alone (terms_of S) c s x

  pub gone_more : gone S after ≡ suc (gone S c)
  unfolding alone gone_of terms_of
  gone_more = grind (arith, common_steps, some, R.ones_few, R.twos_few)

  -- with rows, the changes tell the departure before and after
  still_told : (aim S).listed ≡ true → (changed c s < suc (gone S c)) × (departs S.timing c s ≡ seconds S.timing (changed c s) (suc (gone S c)))
  unfolding changed departs
  still_told listed = by_last c.last refl
    where
      by_last : (last : Option Departure) → c.last ≡ last
          → (c.changes + change last s < suc (gone S c)) × (departs_after S.timing last s ≡ seconds S.timing (c.changes + change last s) (suc (gone S c)))
      by_last (Some last) e =
          let (fewer, at) = R.told listed last e in (
            omega (arith, change_most (Some last) s),
            ap (λ d. d + gap S.timing last.station s) at ∙ sym (seconds_next S.timing c.changes (gone S c) fewer last.station s),
          )
      by_last None e =
          let (none, fresh) = R.unbegun e in
          (omega arith, sym (ap₂ (seconds S.timing) {x = c.changes + 0} {y = 0} (omega arith) (ap suc none) ∙ seconds_start S.timing))

  pub next_running : Running S after
  unfolding alone changed terms_of
  next_running =
      record {
        ones_few = omega (arith, R.ones_few);
        twos_few = omega (arith, R.twos_few);
        soon = rw gone_more (omega (arith, R.soon, departs_most S.timing timed c s));
        few = rw gone_more (omega (arith, R.few, change_most c.last s));
        unbegun = λ e. absurd (none-some _ (sym e));
        told = λ listed last e. let (fewer, at) = still_told listed in rw (gone_more, ← ap second_of e) (fewer, at);
      }

  -- what has been counted so far makes no difference to that
  pub on_running : Running S (next (terms_of S) c s x)
  unfolding alone next
  on_running =
      let R' = next_running in
      record { ones_few = R'.ones_few; twos_few = R'.twos_few; soon = R'.soon; few = R'.few; unbegun = R'.unbegun; told = R'.told }
