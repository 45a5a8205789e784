-- Under objectives 1 and 2 the best of the rest rises steadily: from any departure it is that from second 0, and so much more.
use Rattle.std.proofs.Common.{List, [], ◌∷◌, ◌++◌, map, ◌≡◌, refl, sym, ◌∙◌, ap, ap₂, ℕ, zero, suc, ◌+◌, ◌-◌, ◌≤◌, ◌<◌, zero-add, arith, ℤ, pos, ◌+ℤ◌, ◌*ℤ◌, length, length-append}
use mathlib.Core.Logic.{by_cases}
use native.Mathlib.Decide.{dec_le}
use lib.ListN.{length-map}
use Rattle.std.proofs.lemmas.Grind.{common_steps}
use Rattle.rules.specs.declared.Station.{Station}
use Rattle.rules.specs.declared.Station.TheVariants.{One as one, Two as two}
use Rattle.rules.specs.Line.{gap, running, arrival}
use Rattle.rules.specs.Trains.{Section, aim, count_at}
use Rattle.planner.specs.declared.clock.Clock.{Clock}
use Rattle.planner.specs.Clock.{by_station, departs, cell_clock, alone}
use Rattle.planner.specs.Cells.{slope, rises}
use Rattle.planner.specs.Day.{terms_of, left, figures_left, next_of, sends, since, earliest, rest, comes_to, at}
use Rattle.planner.proofs.Left.{left_none, left_count, left_next}
use Rattle.planner.proofs.Sending.{day_none, day_some, rest_one, rest_two, rest_both}
use Rattle.planner.proofs.Steady.{lesser_more, Steady, rises_into, joins_more}

module _ (S : Section) where
  module _ (K : Steady (aim S)) (s : Station) (t u : ℕ) (n m : ℕ) (n_few : n ≤ count_at S one) (m_few : m ≤ count_at S two) where
    abbrev first : Station → Clock
    first s' = sends S (at s t n m) s'

    abbrev later : Station → Clock
    later s' = sends S (at s (t + u) n m) s'

    value_more : (s' : Station) → (later s').value ≡ (first s').value +ℤ slope (aim S) (next_of S (at s t n m) s').figures *ℤ pos u
    unfolding alone departs cell_clock terms_of arrival running aim
    value_more s' =
        let g : ℕ = gap S.timing s s' in
        let p : ℕ = S.timing.running in
        let e : (t + u) + g + p ≡ (t + g + p) + u = omega arith in
        ap ((aim S).cost _) e ∙ K.climbs _ _ u

    -- a station's next train: its figures, when it leaves, and the trains left then
    abbrev x : Station → List ℤ
    x s' = (next_of S (at s t n m) s').figures

    abbrev then : Station → ℕ
    then s' = t + gap S.timing s s'

    abbrev ones : Station → ℕ
    ones s' = n - by_station s' 1 0

    abbrev twos : Station → ℕ
    twos s' = m - by_station s' 0 1

    abbrev More : Station → ℕ → ℕ → ℕ → Type 0
    More s' t' n' m' = rest S (at s' (t' + u) n' m') ≡ rest S (at s' t' n' m') +ℤ rises (aim S) (figures_left S n' m') *ℤ pos u

    rest_more : (s' : Station) → More s' (then s') (ones s') (twos s')
        → rest S (later s') ≡ rest S (first s') +ℤ rises (aim S) (figures_left S (ones s') (twos s')) *ℤ pos u
    unfolding rest earliest since alone departs cell_clock terms_of
    rest_more s' more =
        let e : (t + u) + gap S.timing s s' ≡ then s' + u = omega arith in
        ap (λ d. rest S (at s' d (ones s') (twos s'))) e ∙ more

    count_left : (s' : Station) → length (figures_left S (ones s') (twos s')) ≡ ones s' + twos s'
    count_left s' =
        simp (length-append, length-map, left_count S one (ones s') (omega arith), left_count S two (twos s') (omega arith))

    came_more : (s' : Station) → (0 < ones s' + twos s' → More s' (then s') (ones s') (twos s'))
        → comes_to S (later s') ≡ comes_to S (first s') +ℤ rises (aim S) (x s' ∷ figures_left S (ones s') (twos s')) *ℤ pos u
    unfolding alone cell_clock aim
    came_more s' more =
        by_cases (dec_le 1 (ones s' + twos s'))
        (λ some.
        day_some S.objective (later s') (rest S (later s')) some
        ∙ ap₂ (aim S).joined (value_more s') (rest_more s' (more some))
        ∙ joins_more (aim S) K (x s') (figures_left S (ones s') (twos s')) (rw (count_left s') some) (first s').value (rest S (first s')) u
        ∙ ap (λ z. z +ℤ rises (aim S) (x s' ∷ figures_left S (ones s') (twos s')) *ℤ pos u) (sym (day_some S.objective (first s') (rest S (first s')) some)))
        (λ empty.
        let e : ones s' ≡ 0 = omega arith in
        let f : twos s' ≡ 0 = omega arith in
        let none : figures_left S (ones s') (twos s') ≡ [] = rw (e, f, left_none S one, left_none S two) in
        day_none S.objective (later s') (rest S (later s')) e f
        ∙ value_more s'
        ∙ ap₂ (λ z r. z +ℤ r *ℤ pos u) (sym (day_none S.objective (first s') (rest S (first s')) e f))
        (sym (ap (λ zs. rises (aim S) (x s' ∷ zs)) none ∙ K.last (x s'))))

    all_rises : (s' : Station) → 0 < by_station s' n m → rises (aim S) (x s' ∷ figures_left S (ones s') (twos s')) ≡ rises (aim S) (figures_left S n m)
    unfolding cell_clock
    all_rises one some =
        let same : m - 0 ≡ m = omega arith in
        ap (λ k. rises (aim S) (x one ∷ figures_left S (n - 1) k)) same
        ∙ ap (λ xs. rises (aim S) (map (λ z. z.figures) xs ++ map (λ z. z.figures) (left S two m))) (sym (left_next S one n some n_few))
    all_rises two some =
        let same : n - 0 ≡ n = omega arith in
        ap (λ k. rises (aim S) (x two ∷ figures_left S k (m - 1))) same
        ∙ sym (rises_into (aim S) K (x two) (map (λ z. z.figures) (left S one n)) (map (λ z. z.figures) (left S two (m - 1))))
        ∙ ap (λ ys. rises (aim S) (map (λ z. z.figures) (left S one n) ++ map (λ z. z.figures) ys)) (sym (left_next S two m some m_few))

    abbrev extra : ℤ
    extra = rises (aim S) (figures_left S n m) *ℤ pos u

    sent_more : (s' : Station) → 0 < by_station s' n m → (0 < ones s' + twos s' → More s' (then s') (ones s') (twos s'))
        → comes_to S (later s') ≡ comes_to S (first s') +ℤ extra
    sent_more s' some more = came_more s' more ∙ ap (λ r. comes_to S (first s') +ℤ r *ℤ pos u) (all_rises s' some)

    -- whichever trains are left, the rest rises as those that it can begin with do
    all_more : 0 < n + m → ((s' : Station) → 0 < by_station s' n m → comes_to S (later s') ≡ comes_to S (first s') +ℤ extra) → More s t n m
    unfolding cell_clock
    all_more some more =
        let two_left = rest_two S (at s t n m) n_few m_few in
        let one_left = rest_one S (at s t n m) n_few m_few in
        let both_left = rest_both S (at s t n m) n_few m_few in
        let two_later = rest_two S (at s (t + u) n m) n_few m_few in
        let one_later = rest_one S (at s (t + u) n m) n_few m_few in
        let both_later = rest_both S (at s (t + u) n m) n_few m_few in
        let added = lesser_more (comes_to S (first one)) (comes_to S (first two)) extra in
        grind (arith, common_steps, more one, more two, two_left, one_left, both_left, two_later, one_later, both_later, added)

  module _ (K : Steady (aim S)) where
    shifts : (k : ℕ) (s : Station) (t u n m : ℕ) (n_few : n ≤ count_at S one) (m_few : m ≤ count_at S two) → n + m ≡ k → 0 < k
        → rest S (at s (t + u) n m) ≡ rest S (at s t n m) +ℤ rises (aim S) (figures_left S n m) *ℤ pos u
    shifts zero s t u n m n_few m_few all some = absurd (omega arith)
    shifts (suc k) s t u n m n_few m_few all some =
        all_more K s t u n m n_few m_few (omega arith)
        (λ s' has. sent_more K s t u n m n_few m_few s' has
        (λ more. shifts k s' (t + gap S.timing s s') u (n - by_station s' 1 0) (m - by_station s' 0 1) (omega arith) (omega arith)
        (fewer s' has) (omega (arith, fewer s' has))))
      where
        fewer : (s' : Station) → 0 < by_station s' n m → n - by_station s' 1 0 + (m - by_station s' 0 1) ≡ k
        fewer s' has = grind (arith, common_steps)

    -- from a departure the rest comes to what it does from second 0, and as much more as it has risen
    pub from_start : (s : Station) (t n m : ℕ) → n ≤ count_at S one → m ≤ count_at S two → 0 < n + m
        → rest S (at s t n m) ≡ rest S (at s 0 n m) +ℤ rises (aim S) (figures_left S n m) *ℤ pos t
    from_start s t n m n_few m_few some = rw zero-add at (shifts (n + m) s 0 t n m n_few m_few refl some)
