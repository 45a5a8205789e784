-- From clock to clock: the value so far stays small, what the walk's calls require holds, and they give the next clock.
use Rattle.std.proofs.Common.{Bool, cond, List, ◌≡◌, refl, sym, ◌∙◌, ap, subst, ◌+◌, ◌*◌, ◌≤◌, ◌<◌, arith, ℤ, w64, SFits, Option, None, Some}
use mathlib.Core.Logic.{by_cases}
use native.Mathlib.Decide.{dec_le}
use lib.Signed.{mag, le_z}
use Rattle.std.proofs.lemmas.Option.{none-some}
use Rattle.rules.specs.declared.Station.{Station}
use Rattle.rules.specs.declared.Station.TheVariants.{One as one, Two as two}
use Rattle.rules.specs.Trains.{Section, aim}
use Rattle.costs.proofs.Bounds.{joined_bound, joined_small}
use Rattle.best.proofs.Accepted.{Accepted}
use Rattle.planner.specs.declared.clock.Clock.{Clock}
use Rattle.planner.specs.declared.clock.Departure.{Departure}
use Rattle.planner.specs.declared.day.Day.{Day}
use Rattle.planner.specs.Clock.{by_station, Near, departs, joined_after, start, alone, next}
use Rattle.planner.specs.Rests.{Counts, Rows, day, looked_up, Held, best_by, Chooses}
use Rattle.planner.specs.Day.{terms_of, next_of, sends, goes_on, rest, comes_to, gone, Running, Right, Tables}
use Rattle.planner.specs.Cells.{gone_of}
use Rattle.planner.specs.Walk.{Counted, goes}
use Rattle.planner.specs.Filled.{section_of, next_at}
use Rattle.planner.proofs.Sending.{day_none, day_some}
use Rattle.planner.proofs.Small.{cost_small}
use Rattle.planner.proofs.Underway.{gone_more, on_running}
use Rattle.planner.proofs.Entries.{looked_is, gone_few, near, left_small, held, chooses, best_is, count_few}
use Rattle.planner.proofs.Stepping.{goes_by_goal}
use Rattle.planner.proofs.Placing.{ones_are, twos_are, first_next, second_next}

module _ (S : Section) (A : Accepted S) (c : Clock) (R : Running S c) (K : Counted S c) where
  -- one train more costs at most as much more
  module _ (s : Station) (some : 0 < by_station s c.ones c.twos) where
    cost : mag (sends S c s).value ≤ 100100000000
    cost = cost_small S A.timed A.good c R.ones_few R.twos_few s some (omega (arith, R.soon, gone_few S A c R))

    on_small : mag (goes_on S c s).value ≤ (gone S c + 1) * 100100000001
    unfolding next terms_of aim
    on_small = by_last c.last refl
      where
        by_last : (last : Option Departure) → c.last ≡ last
            → mag (joined_after (aim S).joined last c.value (sends S c s).value) ≤ (gone S c + 1) * 100100000001
        by_last None e = omega (arith, cost)
        by_last (Some last) e = joined_small S.objective c.value (sends S c s).value (gone S c) (K.small last e) cost

    pub on_counted : Counted S (goes_on S c s)
    unfolding next
    on_counted =
        record { small = λ _ _. rw (gone_more S A.timed c R s some (next_of S c s).figures) (omega (arith, on_small)) }

    on_fits : SFits w64 (goes_on S c s).value
    on_fits = record { sfits = omega (arith, on_small, gone_few S A c R) }

  -- what the day comes to at best is small enough to be counted with
  comes_fits : {last : Departure} → c.last ≡ Some last → SFits w64 (comes_to S c)
  comes_fits {last} left =
      by_cases (dec_le 1 (c.ones + c.twos))
      (λ some.
      rw (day_some S.objective c (rest S c) some)
      (record { sfits = omega (arith, joined_bound c.value (rest S c) S.objective, K.small last left, left_small S A c R, gone_few S A c R) }))
      (λ empty.
      rw (day_none S.objective c (rest S c) (omega arith) (omega arith))
      (record { sfits = omega (arith, K.small last left, gone_few S A c R) }))

-- a call, by its day
module _ (d : Day) where
  abbrev S : Section
  S = section_of d

  pub start_running : Running S (start d.terms.ones d.terms.twos)
  unfolding start gone_of terms_of
  start_running =
      let ones = ones_are _ _ _ _ _ d.planned in
      let twos = twos_are _ _ _ _ _ d.planned in
      record {
        ones_few = omega arith;
        twos_few = omega arith;
        soon = omega arith;
        few = omega arith;
        unbegun = λ _. (omega arith, refl);
        told = λ _ _ e. absurd (none-some _ e);
      }

  module _ (c : Clock) (R : Running S c) where
    next_taken : (s : Station) → 0 < by_station s c.ones c.twos → next_at d s (by_station s c.ones c.twos) ≡ (next_of S c s).figures
    next_taken one some = first_next _ _ _ _ _ d.planned c.ones (omega (arith, R.ones_few, ones_are _ _ _ _ _ d.planned)) some
    next_taken two some = second_next _ _ _ _ _ d.planned c.twos (omega (arith, R.twos_few, twos_are _ _ _ _ _ d.planned)) some

    -- that train leaves
    module _ (s : Station) (some : 0 < by_station s c.ones c.twos) {x : List ℤ} (x_next : x ≡ next_at d s (by_station s c.ones c.twos)) where
      pub next_goes : next d.terms c s x ≡ goes_on S c s
      unfolding next alone terms_of
      next_goes = rw (x_next ∙ next_taken s some)

      pub next_fits : Counted S c → SFits w64 (next d.terms c s x).value
      next_fits K = rw next_goes (on_fits S d.planned.accepted c R K s some)

    pub next_near : Near d.terms.timing c
    next_near = near S d.planned.accepted c R

    pub next_within : (s : Station) → by_station s c.ones c.twos ≤ by_station s d.terms.ones d.terms.twos
    next_within one = omega (arith, R.ones_few, ones_are _ _ _ _ _ d.planned)
    next_within two = omega (arith, R.twos_few, twos_are _ _ _ _ _ d.planned)

  -- the tables hold the best of every rest
  module _ {counts : Counts} {changes : Rows} (tables : Tables S counts changes ((d.terms.ones + 1) * 49)) where
    within : (c : Clock) → Running S c → c.ones * 49 + c.twos < (d.terms.ones + 1) * 49
    within c R = omega (arith, R.ones_few, R.twos_few, count_few S d.planned.accepted two, ones_are _ _ _ _ _ d.planned)

    -- the choice at the start
    module _ {x y : List ℤ} (x_next : x ≡ next_at d one d.terms.ones) (y_next : y ≡ next_at d two d.terms.twos) where
      abbrev c₀ : Clock
      c₀ = start d.terms.ones d.terms.twos

      pub start_chooses : Chooses d.terms c₀ x y counts changes
      unfolding start
      start_chooses =
          subst (λ v. Chooses v c₀ x y counts changes) (sym d.planned.terms)
          (chooses S d.planned.accepted tables c₀ start_running (omega (arith, within c₀ start_running))
          (λ some. x_next ∙ next_taken c₀ start_running one some) (λ some. y_next ∙ next_taken c₀ start_running two some))

      pub start_best : best_by d.terms c₀ x y counts changes ≡ rest S c₀
      unfolding start
      start_best =
          ap (λ v. best_by v c₀ x y counts changes) d.planned.terms
          ∙ best_is S d.planned.accepted tables c₀ start_running (omega (arith, within c₀ start_running))
          (λ some. x_next ∙ next_taken c₀ start_running one some) (λ some. y_next ∙ next_taken c₀ start_running two some)

    -- what the day comes to once station 1's next train has left
    module _ (c : Clock) (R : Running S c) (K : Counted S c) (some : 0 < c.ones) where
      abbrev c' : Clock
      c' = goes_on S c one

      R' : Running S c'
      R' = on_running S d.planned.accepted.timed c R one some (next_of S c one).figures

      begun : c'.last ≡ Some (record { station = one; second = departs S.timing c one })
      unfolding next alone terms_of
      begun = refl

      cell : Right S counts changes c'.ones c'.twos
      cell = tables.right c'.ones c'.twos R'.ones_few R'.twos_few (within c' R')

      day_is : day d.terms.objective c' (looked_up d.terms.objective c' counts changes) ≡ comes_to S c'
      day_is = ap (day d.terms.objective c') (looked_is S counts changes c' R' begun cell)

      module _ {after : Clock} (e : after ≡ c') where
        pub day_held : Held d.terms.objective after counts changes
        day_held = rw e (held S d.planned.accepted counts changes c' R' begun cell)

        pub day_fits : SFits w64 (day d.terms.objective after (looked_up d.terms.objective after counts changes))
        day_fits = rw (e, day_is) (comes_fits S d.planned.accepted c' R' (on_counted S d.planned.accepted c R K one some) begun)

        -- the code's test is the goal's, where station 2 has a train too
        pub tested : 0 < c.twos → {spent : ℤ} → spent ≡ day d.terms.objective after (looked_up d.terms.objective after counts changes)
            → (goal : ℤ) {b : Bool} → le_z spent goal ≡ b → goes S goal c ≡ cond b one two
        tested some' {spent} spent_is goal test =
            let comes : spent ≡ comes_to S c' = (rw e at spent_is) ∙ day_is in
            goes_by_goal S goal c some some' ∙ ap (λ v. cond (le_z v goal) one two) (sym comes) ∙ ap (λ b. cond b one two) test
