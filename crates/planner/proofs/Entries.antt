-- Where the tables hold the best of every smaller rest, what the code reads and chooses is the best of the rest.
use Rattle.std.proofs.Common.{Bool, true, false, cond, List, ◌++◌, map, ◌≡◌, refl, sym, ◌∙◌, ap, ap₂, ℕ, ◌+◌, ◌*◌, ◌≤◌, ◌<◌, arith, T, ℤ, pos, ◌+ℤ◌, ◌*ℤ◌, length, length-append, Some, is_some}
use mathlib.Core.Logic.{by_cases}
use native.Mathlib.Decide.{dec_le}
use lib.IntN.{zero-*ℤ}
use lib.ListN.{length-map}
use lib.Signed.{mag}
use Rattle.std.proofs.lemmas.Grind.{common_steps}
use Rattle.rules.specs.declared.Station.{Station}
use Rattle.rules.specs.declared.Station.TheVariants.{One as one, Two as two}
use Rattle.rules.specs.Figures.{within}
use Rattle.rules.specs.Trains.{Section, aim, count_at}
use Rattle.theory.proofs.Facts.{all_append, all_mapped}
use Rattle.best.proofs.Accepted.{Accepted}
use Rattle.costs.proofs.Table.{most_listed}
use Rattle.refusals.proofs.Table.{most_bound}
use Rattle.planner.specs.declared.clock.Clock.{Clock}
use Rattle.planner.specs.declared.clock.Departure.{Departure}
use Rattle.planner.specs.Clock.{by_station, departs, cell_clock, Near, alone}
use Rattle.planner.specs.Rests.{Counts, Rows, best_at, rise_at, row_at, day, looked_after, looked_up, Held, through, Sends, best_by, Chooses}
use Rattle.planner.specs.Cells.{rises, gone_of}
use Rattle.planner.specs.Day.{terms_of, left, figures_left, next_of, sends, earliest_after, earliest, rest_from, rest, comes_to, at, gone, Running, Right, Tables}
use Rattle.planner.proofs.Left.{left_none, left_count, left_good}
use Rattle.planner.proofs.Sending.{rest_none, rest_one, rest_two, rest_both}
use Rattle.planner.proofs.Steady.{steady, rises_most, wider}
use Rattle.planner.proofs.Later.{from_start}
use Rattle.planner.proofs.Underway.{next_running}
use Rattle.planner.proofs.Small.{sent_small, rest_small, one_fewer}

module _ (S : Section) where
  -- a clock under way counts from its last departure, whatever its changes and its value
  rest_begun : (c : Clock) {last : Departure} → c.last ≡ Some last → rest S c ≡ rest S (at last.station last.second c.ones c.twos)
  unfolding rest earliest cell_clock
  rest_begun c begun = λ i. rest_from S (λ x. earliest_after S (begun i) x) c.ones c.twos

  pub no_rises : (n m : ℕ) → n ≡ 0 → m ≡ 0 → rises (aim S) (figures_left S n m) ≡ pos 0
  no_rises n m e f =
      ap₂ (λ xs ys. rises (aim S) (map (λ x. x.figures) xs ++ map (λ y. y.figures) ys))
      (ap (left S one) e ∙ left_none S one) (ap (left S two) f ∙ left_none S two)

  module _ (counts : Counts) (changes : Rows) (c : Clock) (R : Running S c) {last : Departure} (begun : c.last ≡ Some last) (cell : Right S counts changes c.ones c.twos) where
    -- by the changes of station
    by_changes : (aim S).listed ≡ true → row_at changes c.ones c.twos c.changes last.station ≡ rest S c
    by_changes listed =
        let (few, at_second) = R.told listed last begun in
        cell.changed listed c.changes few last.station
        ∙ ap (λ d. rest S (at last.station d c.ones c.twos)) (sym at_second)
        ∙ sym (rest_begun c begun)

    -- from second 0, and what the departure adds
    by_counts : (aim S).listed ≡ false
        → best_at counts c.ones c.twos last.station +ℤ rise_at counts c.ones c.twos *ℤ pos last.second ≡ rest S c
    unfolding aim cell_clock
    by_counts free =
        ap₂ (λ v r. v +ℤ r *ℤ pos last.second) (cell.counted free last.station) (cell.risen free)
        ∙ by_cases (dec_le 1 (c.ones + c.twos))
        (λ some. sym (from_start S (steady S.objective free) last.station last.second c.ones c.twos R.ones_few R.twos_few some) ∙ sym (rest_begun c begun))
        (λ empty.
        let e : c.ones ≡ 0 = omega arith in
        let f : c.twos ≡ 0 = omega arith in
        ap₂ (λ v r. v +ℤ r *ℤ pos last.second) (rest_none S (at last.station 0 c.ones c.twos) R.ones_few R.twos_few e f) (no_rises c.ones c.twos e f)
        ∙ ap (λ z. pos 0 +ℤ z) (zero-*ℤ (pos last.second))
        ∙ sym (rest_none S c R.ones_few R.twos_few e f))

    pub looked_is : looked_up S.objective c counts changes ≡ rest S c
    unfolding looked_up aim
    looked_is = ap (λ o. looked_after S.objective o c counts changes) begun ∙ by_listed (aim S).listed refl
      where
        by_listed : (l : Bool) → (aim S).listed ≡ l
            → cond l (row_at changes c.ones c.twos c.changes last.station)
            (best_at counts c.ones c.twos last.station +ℤ rise_at counts c.ones c.twos *ℤ pos last.second) ≡ rest S c
        by_listed true e = by_changes e
        by_listed false e = by_counts e

module _ (S : Section) (A : Accepted S) where
  -- no station has more than 48 trains, and with rows none more than 12
  pub count_few : (s : Station) → count_at S s ≤ 48
  unfolding aim
  count_few s = omega (arith, most_bound S.objective, A.few s)

  pub rows_few : (s : Station) → (aim S).listed ≡ true → count_at S s ≤ 12
  unfolding aim
  rows_few s listed = rw (most_listed, listed) at (A.few s)

  -- the trains left together rise by less than 1,000,000 a second
  pub risen_few : (n m : ℕ) → n ≤ count_at S one → m ≤ count_at S two → (aim S).listed ≡ false
      → T (within (pos 0) (pos 1000000) (rises (aim S) (figures_left S n m)))
  unfolding aim
  risen_few n m n_few m_few free =
      let count : length (figures_left S n m) ≡ n + m =
      simp (length-append, length-map, left_count S one n n_few, left_count S two m m_few) in
      let good = all_append (all_mapped (λ x. x.figures) (left_good S one n A.good)) (all_mapped (λ x. x.figures) (left_good S two m A.good)) in
      wider (length (figures_left S n m) * 10000) 1000000 _ (omega (arith, count, count_few one, count_few two))
      (rises_most (aim S) (steady S.objective free) good)

  module _ (c : Clock) (R : Running S c) where
    pub gone_few : gone S c + (c.ones + c.twos) ≤ 96
    unfolding gone_of terms_of
    gone_few = omega (arith, R.ones_few, R.twos_few, count_few one, count_few two)

    gone_rows : (aim S).listed ≡ true → gone S c ≤ 24
    unfolding gone_of terms_of
    gone_rows listed = omega (arith, rows_few one listed, rows_few two listed)

    pub near : Near S.timing c
    near = record { timed = A.timed; soon = omega (arith, R.soon, gone_few); few = omega (arith, R.few, gone_few) }

    pub left_small : mag (rest S c) ≤ (c.ones + c.twos) * 100100000001
    left_small =
        rest_small S A.timed A.good (c.ones + c.twos) c R.ones_few R.twos_few refl (omega (arith, R.soon, gone_few))

  module _ (counts : Counts) (changes : Rows) (c : Clock) (R : Running S c) {last : Departure} (begun : c.last ≡ Some last) (cell : Right S counts changes c.ones c.twos) where
    pub held : Held S.objective c counts changes
    unfolding aim
    held =
        record {
          begun = ap is_some begun;
          ones_few = omega (arith, R.ones_few, count_few one);
          twos_few = omega (arith, R.twos_few, count_few two);
          rows = λ listed.
              let (few, _) = R.told listed last begun in
              (omega (arith, R.ones_few, rows_few one listed), omega (arith, R.twos_few, rows_few two listed), omega (arith, gone_rows c R listed));
          soon = omega (arith, R.soon, gone_few c R);
          rises = λ free. rw (cell.risen free) (risen_few c.ones c.twos R.ones_few R.twos_few free);
          small = rw (looked_is S counts changes c R begun cell) (omega (arith, left_small c R, gone_few c R));
        }

  -- a station's next train from a clock, where the tables hold the best of what is left then
  module _ (counts : Counts) (changes : Rows) (c : Clock) (R : Running S c) (s : Station) (some : 0 < by_station s c.ones c.twos)
      (cell : Right S counts changes (sends S c s).ones (sends S c s).twos) where
    R' : Running S (sends S c s)
    R' = next_running S A.timed c R s some (next_of S c s).figures

    after_begun : (sends S c s).last ≡ Some (record { station = s; second = departs S.timing c s })
    unfolding alone terms_of
    after_begun = refl

    through_is : through (terms_of S) c s (next_of S c s).figures counts changes ≡ comes_to S (sends S c s)
    unfolding through terms_of
    through_is = ap (day S.objective (sends S c s)) (looked_is S counts changes (sends S c s) R' after_begun cell)

    come_small : mag (comes_to S (sends S c s)) ≤ 96 * 100100000001
    come_small =
        let fewer = one_fewer S A.timed A.good c (next_of S c s).figures s some in
        let small = sent_small S A.timed A.good c R.ones_few R.twos_few s ((sends S c s).ones + (sends S c s).twos) some (sym fewer)
        (omega (arith, R.soon, gone_few c R)) (left_small (sends S c s) R') in
        omega (arith, gone_few c R)

    pub sends_fit : Sends (terms_of S) c s (next_of S c s).figures counts changes
    unfolding terms_of
    sends_fit =
        record {
          near = near c R;
          some = some;
          held = held counts changes (sends S c s) R' after_begun cell;
          fits = rw through_is (record { sfits = omega (arith, come_small) });
        }

  -- the choice between the stations' next trains, from tables that are right up to the clock's own place
  module _ {counts : Counts} {changes : Rows} {place : ℕ} (tables : Tables S counts changes place) (c : Clock) (R : Running S c) (before : c.ones * 49 + c.twos ≤ place) where
    next_right : (s : Station) → 0 < by_station s c.ones c.twos → Right S counts changes (sends S c s).ones (sends S c s).twos
    unfolding alone
    next_right one some = tables.right _ _ (omega (arith, R.ones_few)) (omega (arith, R.twos_few)) (omega arith)
    next_right two some = tables.right _ _ (omega (arith, R.ones_few)) (omega (arith, R.twos_few)) (omega arith)

    module _ {x y : List ℤ} (first : 0 < c.ones → x ≡ (next_of S c one).figures) (second : 0 < c.twos → y ≡ (next_of S c two).figures) where
      pub chooses : Chooses (terms_of S) c x y counts changes
      chooses =
          record {
            first = λ some. rw (first some) (sends_fit counts changes c R one some (next_right one some));
            second = λ some. rw (second some) (sends_fit counts changes c R two some (next_right two some));
          }

      first_is : 0 < c.ones → through (terms_of S) c one x counts changes ≡ comes_to S (sends S c one)
      first_is some = rw (first some) (through_is counts changes c R one some (next_right one some))

      second_is : 0 < c.twos → through (terms_of S) c two y counts changes ≡ comes_to S (sends S c two)
      second_is some = rw (second some) (through_is counts changes c R two some (next_right two some))

      pub best_is : best_by (terms_of S) c x y counts changes ≡ rest S c
      unfolding best_by
      best_is =
          let none = rest_none S c R.ones_few R.twos_few in
          let one_left = rest_one S c R.ones_few R.twos_few in
          let two_left = rest_two S c R.ones_few R.twos_few in
          let both_left = rest_both S c R.ones_few R.twos_few in
          grind (arith, common_steps, first_is, second_is, none, one_left, two_left, both_left)
