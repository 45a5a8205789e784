-- From a clock, the best of the rest is the smaller of what comes of sending either station's next train.
use Rattle.std.proofs.Common.{cond, List, [], ◌∷◌, ◌≡◌, refl, sym, ◌∙◌, ap, ap₂, ℕ, ◌+◌, ◌-◌, ◌≤◌, ◌<◌, max, arith, ℤ, pos, length, Option, Some, None}
use mathlib.Core.Logic.{by_cases}
use native.Mathlib.Decide.{dec_le}
use lib.Signed.{le_z, le_z_yes}
use Rattle.std.proofs.lemmas.Grind.{common_steps}
use Rattle.rules.specs.declared.Station.{Station}
use Rattle.rules.specs.declared.Station.TheVariants.{One as one, Two as two}
use Rattle.rules.specs.Line.{gap}
use Rattle.rules.specs.Objectives.{aim_of}
use Rattle.rules.specs.Trains.{Section, aim, count_at, Train}
use Rattle.rules.specs.Value.{cost_of}
use Rattle.theory.specs.Schedule.{after}
use Rattle.theory.specs.Orders.{best, least}
use Rattle.theory.proofs.Choices.{pick_ind, cond_ind}
use Rattle.theory.proofs.Values.{none_right}
use Rattle.best.specs.Fair.{Fair}
use Rattle.best.specs.Instance.{line}
use Rattle.best.proofs.Objectives.{fair_aim}
use Rattle.planner.specs.declared.clock.Clock.{Clock}
use Rattle.planner.specs.declared.clock.Departure.{Departure}
use Rattle.planner.specs.Clock.{departs_after, departs, alone}
use Rattle.planner.specs.Rests.{day, lesser}
use Rattle.planner.specs.Day.{terms_of, left, next_of, sends, since, earliest_after, earliest, rest_from, rest, comes_to}
use Rattle.planner.proofs.Left.{left_none, left_count, left_next, turn_station}

-- where nothing is left the value so far is the day's
pub day_none : (n : ℕ) (c : Clock) (v : ℤ) → c.ones ≡ 0 → c.twos ≡ 0 → day n c v ≡ c.value
unfolding day
day_none n c v e f = grind (arith, common_steps)

pub day_some : (n : ℕ) (c : Clock) (v : ℤ) → 0 < c.ones + c.twos → day n c v ≡ (aim_of n).joined c.value v
unfolding day
day_some n c v h = grind (arith, common_steps)

module _ (S : Section) where
  abbrev F : Fair (aim S)
  F = fair_aim S

  -- a train of a station leaves when the clock says
  pub departs_earliest : (c : Clock) (s : Station) (x : Train) → x.station ≡ s → earliest S c x ≡ departs S.timing c s
  unfolding earliest departs since
  departs_earliest c s x e = by_last c.last
    where
      by_last : (last : Option Departure) → earliest_after S last x ≡ departs_after S.timing last s
      by_last None = refl
      by_last (Some last) = rw e

  next_earliest : (c : Clock) (s : Station) (x : List ℤ) (y : Train)
      → earliest S (alone (terms_of S) c s x) y ≡ departs S.timing c s + gap S.timing s y.station
  unfolding terms_of alone earliest since
  next_earliest c s x y = refl

  -- once it has left, the others wait as the next clock says
  pub after_earliest : (c : Clock) (s : Station) (x : Train) → x.station ≡ s
      → after (line S F) x (earliest S c x) ≡ earliest S (alone (terms_of S) c s x.figures)
  after_earliest c s x e = λ i y. waits y i
    where
      waits : (y : Train) → max 0 (earliest S c x + gap S.timing x.station y.station) ≡ earliest S (alone (terms_of S) c s x.figures) y
      waits y = rw (next_earliest c s x.figures y, departs_earliest c s x e, e) (omega arith)

  -- its cost is what the next clock has for its value
  pub cost_alone : (c : Clock) (s : Station) (x : Train) → x.station ≡ s
      → (line S F).cost x (earliest S c x) ≡ F.grade (alone (terms_of S) c s x.figures).value
  unfolding terms_of alone aim cost_of
  cost_alone c s x e = rw (departs_earliest c s x e, e)

  -- the best of the rest has a number where a train is left
  numbered : (clock : Train → ℕ) (xs ys : List Train) → 0 < length xs + length ys
      → F.grade (F.shown (best (line S F) clock xs ys)) ≡ best (line S F) clock xs ys
  numbered clock [] [] h = absurd (omega arith)
  numbered clock [] (y ∷ ys) h = F.shown_cost _ _
  numbered clock (x ∷ xs) [] h = F.shown_cost _ _
  numbered clock (x ∷ xs) (y ∷ ys) h =
      pick_ind (λ v. F.grade (F.shown v) ≡ v) (F.values.compare _ _) (λ _. F.shown_cost _ _) (λ _. F.shown_cost _ _)

  module _ (c : Clock) (ones_few : c.ones ≤ count_at S one) (twos_few : c.twos ≤ count_at S two) where
    abbrev best_left : F.values.Val
    best_left = best (line S F) (earliest S c) (left S one c.ones) (left S two c.twos)

    nothing_left : c.ones ≡ 0 → c.twos ≡ 0 → best_left ≡ F.values.none
    nothing_left e f = rw (e, f, left_none S one, left_none S two)

    pub rest_grade : 0 < c.ones + c.twos → F.grade (rest S c) ≡ best_left
    unfolding rest rest_from
    rest_grade some = numbered (earliest S c) (left S one c.ones) (left S two c.twos) (rw (left_count S one _ ones_few, left_count S two _ twos_few) some)

    pub graded_day : F.grade (comes_to S c) ≡ F.values.◌⊙◌ (F.grade c.value) best_left
    unfolding aim
    graded_day =
        by_cases (dec_le 1 (c.ones + c.twos))
        (λ some.
        ap F.grade (day_some S.objective c (rest S c) some)
        ∙ F.joins c.value (rest S c)
        ∙ ap (F.values.◌⊙◌ (F.grade c.value)) (rest_grade some))
        (λ empty.
        let e : c.ones ≡ 0 = omega arith in
        let f : c.twos ≡ 0 = omega arith in
        ap F.grade (day_none S.objective c (rest S c) e f)
        ∙ sym (none_right F.values F.ordered (F.grade c.value))
        ∙ ap (F.values.◌⊙◌ (F.grade c.value)) (sym (nothing_left e f)))

  -- the smaller of two grades, as numbers
  lesser_shown : (a b : ℤ) → F.shown (least F.values (F.grade a) (F.grade b)) ≡ lesser a b
  unfolding lesser
  lesser_shown a b =
      pick_ind (λ v. F.shown v ≡ cond (le_z a b) a b) (F.values.compare (F.grade a) (F.grade b))
      (λ h. F.shown_grade a ∙ cond_ind (λ z. a ≡ z) (le_z a b) (λ t. refl) (λ n. absurd (n (F.down a b h).le)))
      (λ k. F.shown_grade b ∙ cond_ind (λ z. b ≡ z) (le_z a b) (λ t. absurd (k (F.up (le_z_yes t)))) (λ n. refl))

  module _ (c : Clock) (ones_few : c.ones ≤ count_at S one) (twos_few : c.twos ≤ count_at S two) where
    send : (s : Station) {xs ys : List Train} → (next_of S c s).station ≡ s
        → left S one (sends S c s).ones ≡ xs → left S two (sends S c s).twos ≡ ys
        → F.values.◌⊙◌ ((line S F).cost (next_of S c s) (earliest S c (next_of S c s)))
        (best (line S F) (after (line S F) (next_of S c s) (earliest S c (next_of S c s))) xs ys)
        ≡ F.grade (comes_to S (sends S c s))
    unfolding alone
    send s here e f =
        ap₂ F.values.◌⊙◌ (cost_alone c s (next_of S c s) here)
        (ap₂ (best (line S F) (after (line S F) (next_of S c s) (earliest S c (next_of S c s)))) (sym e) (sym f)
        ∙ ap (λ clock. best (line S F) clock (left S one (sends S c s).ones) (left S two (sends S c s).twos)) (after_earliest c s (next_of S c s) here))
        ∙ sym (graded_day (sends S c s) (omega arith) (omega arith))

    pub rest_none : c.ones ≡ 0 → c.twos ≡ 0 → rest S c ≡ pos 0
    unfolding rest rest_from
    rest_none e f = ap F.shown (nothing_left c ones_few twos_few e f) ∙ F.shown_none

    pub rest_one : 0 < c.ones → c.twos ≡ 0 → rest S c ≡ comes_to S (sends S c one)
    unfolding rest rest_from alone
    rest_one some f =
        let none : left S two c.twos ≡ [] = ap (left S two) f ∙ left_none S two in
        let none' : left S two (c.twos - 0) ≡ [] = ap (left S two) (omega arith) ∙ left_none S two in
        ap F.shown
        (ap₂ (best (line S F) (earliest S c)) (left_next S one c.ones some ones_few) none
        ∙ send one (turn_station S one c.ones some ones_few) refl none')
        ∙ F.shown_grade _

    pub rest_two : c.ones ≡ 0 → 0 < c.twos → rest S c ≡ comes_to S (sends S c two)
    unfolding rest rest_from alone
    rest_two e some =
        let none : left S one c.ones ≡ [] = ap (left S one) e ∙ left_none S one in
        let none' : left S one (c.ones - 0) ≡ [] = ap (left S one) (omega arith) ∙ left_none S one in
        ap F.shown
        (ap₂ (best (line S F) (earliest S c)) none (left_next S two c.twos some twos_few)
        ∙ send two (turn_station S two c.twos some twos_few) none' refl)
        ∙ F.shown_grade _

    pub rest_both : 0 < c.ones → 0 < c.twos → rest S c ≡ lesser (comes_to S (sends S c one)) (comes_to S (sends S c two))
    unfolding rest rest_from alone
    rest_both some some' =
        let first = left_next S one c.ones some ones_few in
        let second = left_next S two c.twos some' twos_few in
        let first' : left S one (c.ones - 0) ≡ _ = ap (left S one) (omega arith) ∙ first in
        let second' : left S two (c.twos - 0) ≡ _ = ap (left S two) (omega arith) ∙ second in
        ap F.shown
        (ap₂ (best (line S F) (earliest S c)) first second
        ∙ ap₂ (least F.values) (send one (turn_station S one c.ones some ones_few) refl second')
        (send two (turn_station S two c.twos some' twos_few) first' refl))
        ∙ lesser_shown _ _
