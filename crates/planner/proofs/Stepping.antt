-- A step through the day: the next run is that of the train which the goal lets leave, and the rest are those of the next clock.
use Rattle.std.proofs.Common.{Bool, true, false, cond, List, [], ◌∷◌, ◌≡◌, refl, sym, ◌∙◌, ap, ap₂, ℕ, ◌+◌, ◌-◌, ◌≤◌, ◌<◌, arith, eq-eqb, ne_eqb, T, ℤ, Option, None, Some}
use mathlib.Core.Logic.{by_cases}
use native.Mathlib.Decide.{ℕ_discrete}
use lib.Signed.{le_z, le_z_yes}
use Rattle.rules.specs.declared.Station.{Station}
use Rattle.rules.specs.declared.Station.TheVariants.{One as one, Two as two}
use Rattle.rules.specs.Trains.{Section, aim, count_at, Train}
use Rattle.theory.specs.Line.{Line}
use Rattle.theory.specs.Schedule.{after, leave}
use Rattle.theory.specs.Orders.{best, walk}
use Rattle.theory.proofs.Choices.{pick_yes, pick_no}
use Rattle.best.specs.Fair.{Fair}
use Rattle.best.specs.Instance.{line}
use Rattle.best.proofs.Objectives.{fair_aim}
use Rattle.planner.specs.declared.clock.Clock.{Clock}
use Rattle.planner.specs.declared.clock.Departure.{Departure}
use Rattle.planner.specs.Clock.{by_station, departs, joined_after, alone, next}
use Rattle.planner.specs.Day.{terms_of, left, next_of, goes_on, earliest, comes_to}
use Rattle.planner.specs.Walk.{goes, step, sofar_after, sofar, runs_left}
use Rattle.planner.proofs.Left.{left_none, left_next, turn_station}
use Rattle.planner.proofs.Sending.{departs_earliest, after_earliest, cost_alone, graded_day}

-- where the other station has no train, a station's trains leave in its own order
walk_alone : (L : Line) (goal value : L.values.Val) (clock : L.Train → ℕ) (xs : List L.Train) → walk L goal value clock xs [] ≡ xs
walk_alone L goal value clock [] = refl
walk_alone L goal value clock (x ∷ xs) = refl

module _ (S : Section) where
  abbrev F : Fair (aim S)
  F = fair_aim S

  -- the value so far has one more cost joined to it
  sofar_on : (c : Clock) (s : Station) (x : Train) → x.station ≡ s
      → F.values.◌⊙◌ (sofar S c) ((line S F).cost x (earliest S c x)) ≡ sofar S (next (terms_of S) c s x.figures)
  unfolding sofar next alone terms_of aim
  sofar_on c s x e =
      ap (F.values.◌⊙◌ (sofar S c)) (cost_alone S c s x e) ∙ joined c.last c.value (alone (terms_of S) c s x.figures).value
    where
      joined : (last : Option Departure) (v a : ℤ)
          → F.values.◌⊙◌ (sofar_after S last v) (F.grade a) ≡ F.grade (joined_after (aim S).joined last v a)
      joined None v a = F.ordered.none_left (F.grade a)
      joined (Some last) v a = sym (F.joins v a)

  -- once the train has left, the others wait as the clock with its value says
  after_on : (c : Clock) (s : Station) (x : Train) → x.station ≡ s
      → after (line S F) x (earliest S c x) ≡ earliest S (next (terms_of S) c s x.figures)
  unfolding next alone earliest
  after_on c s x e = after_earliest S c s x e

  module _ (goal : ℤ) (c : Clock) where
    -- who goes next, by which stations have a train
    pub goes_two_alone : c.ones ≡ 0 → goes S goal c ≡ two
    unfolding goes
    goes_two_alone e = simp (eq-eqb c.ones 0 e)

    pub goes_one_alone : 0 < c.ones → c.twos ≡ 0 → goes S goal c ≡ one
    unfolding goes
    goes_one_alone some e = simp (ne_eqb c.ones 0 (λ f. omega arith), eq-eqb c.twos 0 e)

    pub goes_by_goal : 0 < c.ones → 0 < c.twos → goes S goal c ≡ cond (le_z (comes_to S (goes_on S c one)) goal) one two
    unfolding goes
    goes_by_goal some some' = simp (ne_eqb c.ones 0 (λ f. omega arith), ne_eqb c.twos 0 (λ f. omega arith))

    -- the station whose train leaves has one
    pub some_left : 0 < c.ones + c.twos → 0 < by_station (goes S goal c) c.ones c.twos
    some_left some =
        by_cases (ℕ_discrete c.ones 0)
        (λ e. rw (goes_two_alone e) (omega arith))
        (λ has.
        by_cases (ℕ_discrete c.twos 0)
        (λ e. rw (goes_one_alone (omega arith) e) (omega arith))
        (λ has'. both (goes S goal c) (omega arith) (omega arith)))
      where
        both : (s : Station) → 0 < c.ones → 0 < c.twos → 0 < by_station s c.ones c.twos
        both one some some' = some
        both two some some' = some'

    -- the trains of two queues in the order in which the goal lets them leave; and those that are left from a clock
    abbrev sent : F.values.Val → (Train → ℕ) → List Train → List Train → List Train
    sent = walk (line S F) (F.grade goal)

    abbrev day_left : Clock → List Train
    day_left k = sent (sofar S k) (earliest S k) (left S one k.ones) (left S two k.twos)

    pub no_runs : c.ones ≡ 0 → c.twos ≡ 0 → runs_left S goal c ≡ []
    unfolding runs_left
    no_runs e f =
        ap (leave (line S F) (earliest S c))
        (ap₂ (sent (sofar S c) (earliest S c)) (ap (left S one) e ∙ left_none S one) (ap (left S two) f ∙ left_none S two))

    module _ (ones_few : c.ones ≤ count_at S one) (twos_few : c.twos ≤ count_at S two) where
      -- the next train of a station is the first of the day, and the rest of the day is that of the next clock
      abbrev Next : Station → Type 0
      Next s = day_left c ≡ next_of S c s ∷ day_left (goes_on S c s)

      pub here : (s : Station) → 0 < by_station s c.ones c.twos → (next_of S c s).station ≡ s
      here one some = turn_station S one c.ones some ones_few
      here two some = turn_station S two c.twos some twos_few

      -- a station's next train: its cost, and how the others wait once it has left
      abbrev cost : Station → F.values.Val
      cost s = (line S F).cost (next_of S c s) (earliest S c (next_of S c s))

      abbrev waits : Station → Train → ℕ
      waits s = after (line S F) (next_of S c s) (earliest S c (next_of S c s))

      first : 0 < c.ones → left S one c.ones ≡ next_of S c one ∷ left S one (c.ones - 1)
      first some = left_next S one c.ones some ones_few

      second : 0 < c.twos → left S two c.twos ≡ next_of S c two ∷ left S two (c.twos - 1)
      second some = left_next S two c.twos some twos_few

      -- a station keeps its trains when one of the other leaves
      ones_stay : left S one c.ones ≡ left S one (c.ones - 0)
      ones_stay = ap (left S one) (omega arith)

      twos_stay : left S two c.twos ≡ left S two (c.twos - 0)
      twos_stay = ap (left S two) (omega arith)

      first_alone : 0 < c.ones → c.twos ≡ 0 → Next one
      unfolding next alone
      first_alone some e =
          let none : left S two c.twos ≡ [] = ap (left S two) e ∙ left_none S two in
          ap₂ (sent (sofar S c) (earliest S c)) (first some) none
          ∙ ap (λ day. next_of S c one ∷ day)
          (sym (walk_alone (line S F) _ _ _ _) ∙ ap (sent _ _ (left S one (c.ones - 1))) (sym none ∙ twos_stay))

      second_alone : c.ones ≡ 0 → 0 < c.twos → Next two
      unfolding next alone
      second_alone e some =
          let none : left S one c.ones ≡ [] = ap (left S one) e ∙ left_none S one in
          ap₂ (sent (sofar S c) (earliest S c)) none (second some)
          ∙ ap (λ day. next_of S c two ∷ day)
          (ap (λ xs. sent (sofar S (goes_on S c two)) (earliest S (goes_on S c two)) xs (left S two (c.twos - 1))) (sym none ∙ ones_stay))

      -- the walk goes on from the next clock
      on_from : (s : Station) {xs ys : List Train} → 0 < by_station s c.ones c.twos
          → xs ≡ left S one (goes_on S c s).ones → ys ≡ left S two (goes_on S c s).twos
          → sent (F.values.◌⊙◌ (sofar S c) (cost s)) (waits s) xs ys ≡ day_left (goes_on S c s)
      on_from s {xs} {ys} some e f =
          ap₂ (λ value clock. sent value clock xs ys) (sofar_on c s (next_of S c s) (here s some)) (after_on c s (next_of S c s) (here s some))
          ∙ ap₂ (sent (sofar S (goes_on S c s)) (earliest S (goes_on S c s))) e f

      module _ (some : 0 < c.ones) (some' : 0 < c.twos) where
        -- what the day comes to if station 1's next train leaves
        first_comes : F.values.◌⊙◌ (sofar S c)
            (F.values.◌⊙◌ (cost one) (best (line S F) (waits one) (left S one (c.ones - 1)) (next_of S c two ∷ left S two (c.twos - 1))))
            ≡ F.grade (comes_to S (goes_on S c one))
        unfolding sofar next alone
        first_comes =
            let x = next_of S c one in
            sym (F.ordered.assoc _ _ _)
            ∙ ap₂ F.values.◌⊙◌ (sofar_on c one x (here one some))
            (ap₂ (λ clock ys. best (line S F) clock (left S one (c.ones - 1)) ys) (after_on c one x (here one some)) (sym (second some') ∙ twos_stay))
            ∙ sym (graded_day S (goes_on S c one) (omega arith) (omega arith))

        first_goes : T (le_z (comes_to S (goes_on S c one)) goal) → Next one
        unfolding next alone
        first_goes t =
            ap₂ (sent (sofar S c) (earliest S c)) (first some) (second some')
            ∙ pick_yes (F.values.compare _ _) _ _ (rw first_comes (F.up (le_z_yes t)))
            ∙ ap (λ day. next_of S c one ∷ day) (on_from one some refl (sym (second some') ∙ twos_stay))

        second_goes : ¬ T (le_z (comes_to S (goes_on S c one)) goal) → Next two
        unfolding next alone
        second_goes n =
            ap₂ (sent (sofar S c) (earliest S c)) (first some) (second some')
            ∙ pick_no (F.values.compare _ _) _ _ (λ h. n (F.down _ _ (rw first_comes at h)).le)
            ∙ ap (λ day. next_of S c two ∷ day) (on_from two some' (sym (first some) ∙ ones_stay) refl)

        by_goal : (b : Bool) → le_z (comes_to S (goes_on S c one)) goal ≡ b → Next (cond b one two)
        by_goal true e = first_goes (rw e tt)
        by_goal false e = second_goes (λ t. rw e at t)

      goes_next : 0 < c.ones + c.twos → Next (goes S goal c)
      goes_next some =
          by_cases (ℕ_discrete c.ones 0)
          (λ e. rw (goes_two_alone e) (second_alone e (omega arith)))
          (λ has.
          by_cases (ℕ_discrete c.twos 0)
          (λ e. rw (goes_one_alone (omega arith) e) (first_alone (omega arith) e))
          (λ has'. rw (goes_by_goal (omega arith) (omega arith)) (by_goal (omega arith) (omega arith) _ refl)))

      pub step_runs : 0 < c.ones + c.twos
          → runs_left S goal c
          ≡ record { train = next_of S c (goes S goal c); departure = departs S.timing c (goes S goal c) } ∷ runs_left S goal (step S goal c)
      unfolding runs_left step
      step_runs some =
          let s : Station = goes S goal c in
          let at = here s (some_left some) in
          ap (leave (line S F) (earliest S c)) (goes_next some)
          ∙ ap₂ (λ departure clock. record { train = next_of S c s; departure = departure } ∷ leave (line S F) clock (day_left (goes_on S c s)))
          (departs_earliest S c s (next_of S c s) at) (after_on c s (next_of S c s) at)
