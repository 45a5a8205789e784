-- A cell that is chosen from right tables is right, and once it is stored the tables are right one place further.
use Rattle.std.proofs.Common.{true, false, true≢false, List, [], ◌++◌, map, ◌≡◌, refl, sym, ◌∙◌, ap, ap₂, subst, ℕ, ◌+◌, ◌-◌, ◌*◌, ◌≤◌, ◌<◌, mul-le-mul_left, arith, eq-eqb, ne_eqb, T, ℤ, pos, get_or, w64, SFits}
use mathlib.Core.Logic.{by_cases}
use native.Mathlib.Decide.{ℕ_discrete}
use Rattle.std.proofs.lemmas.Option.{none-some}
use Rattle.rules.specs.declared.Timing.{Timing}
use Rattle.rules.specs.declared.Station.{Station}
use Rattle.rules.specs.declared.Station.TheVariants.{One as one, Two as two}
use Rattle.rules.specs.Line.{good_timing}
use Rattle.rules.specs.Figures.{within}
use Rattle.rules.specs.Objectives.{aim_of}
use Rattle.rules.specs.Trains.{Section, aim, count_at}
use Rattle.rules.proofs.Line.{gap_most}
use Rattle.best.proofs.Accepted.{Accepted}
use Rattle.costs.proofs.Bounds.{mag_within}
use Rattle.planner.specs.declared.clock.Terms.{Terms}
use Rattle.planner.specs.declared.rests.Rising.{Rising}
use Rattle.planner.specs.Clock.{second_of, cell_clock}
use Rattle.planner.specs.Trains.{next_figures}
use Rattle.planner.specs.Rests.{Counts, Rows, counted, rise_at, side, best_by, Chooses}
use Rattle.planner.specs.Cells.{slope, Slopes, rises, rate, Rates, Pair, Pairs, gone_of, seconds, Changes}
use Rattle.planner.specs.Day.{terms_of, left, turn, figures_left, earliest, rest, at, Running, Right, Tables}
use Rattle.planner.specs.Planning.{asked_by, Planning}
use Rattle.planner.proofs.Placing.{ones_are, twos_are, twos_most, first_next, second_next}
use Rattle.planner.proofs.Left.{left_none, left_next, turn_good}
use Rattle.planner.proofs.Squares.{stored, entry_same, entry_other, still_square}
use Rattle.planner.proofs.Steady.{steady, wider}
use Rattle.planner.proofs.Entries.{no_rises, chooses, best_is, risen_few, count_few, rows_few}

seconds_most : (t : Timing) → T (good_timing t) → (k n : ℕ) → k < n → seconds t k n ≤ n * 10000
unfolding seconds
seconds_most t good k n h =
    omega (arith, mul-le-mul_left k (gap_most t good one two), mul-le-mul_left (n - 1 - k) (gap_most t good one one))

within_fits : (z : ℤ) → T (within (pos 0) (pos 1000000) z) → SFits w64 z
within_fits z h = record { sfits = omega (arith, mag_within 1000000 z h) }

module _ (S : Section) (A : Accepted S) {counts : Counts} {changes : Rows} (n m : ℕ) (tables : Tables S counts changes (n * 49 + m))
    (n_few : n ≤ count_at S one) (m_few : m ≤ count_at S two) (x y : List ℤ)
    (first : 0 < n → x ≡ (turn S one n).figures) (second : 0 < m → y ≡ (turn S two m).figures) where
  -- a clock where so many trains are left
  cell_running : (s : Station) (t k : ℕ) → t ≤ gone_of (terms_of S) n m * 10000 → k ≤ gone_of (terms_of S) n m
      → ((aim S).listed ≡ true → (k < gone_of (terms_of S) n m) × (t ≡ seconds S.timing k (gone_of (terms_of S) n m)))
      → Running S (cell_clock s t k n m)
  unfolding cell_clock
  cell_running s t k soon few told =
      record {
        ones_few = n_few;
        twos_few = m_few;
        soon = soon;
        few = few;
        unbegun = λ e. absurd (none-some _ (sym e));
        told = λ l last e. rw (← ap second_of e) (told l);
      }

  module _ (s : Station) (t k : ℕ) (R : Running S (cell_clock s t k n m)) where
    cell_chooses : Chooses (terms_of S) (cell_clock s t k n m) x y counts changes
    unfolding cell_clock
    cell_chooses = chooses S A tables _ R (omega arith) first second

    cell_is : best_by (terms_of S) (cell_clock s t k n m) x y counts changes ≡ rest S (at s t n m)
    unfolding cell_clock rest earliest
    cell_is = best_is S A tables _ R (omega arith) first second

  -- with this cell right, and those before it still, the tables are right one place further
  further : {counts' : Counts} {changes' : Rows} → Right S counts' changes' n m
      → ((n' m' : ℕ) → ¬ ((n' ≡ n) × (m' ≡ m)) → Right S counts changes n' m' → Right S counts' changes' n' m')
      → (n' m' : ℕ) → n' ≤ count_at S one → m' ≤ count_at S two → n' * 49 + m' < n * 49 + m + 1 → Right S counts' changes' n' m'
  further here earlier n' m' h l k =
      by_cases (ℕ_discrete n' n)
      (λ e.
      by_cases (ℕ_discrete m' m)
      (λ f. rw (e, f) here)
      (λ f. earlier n' m' (λ g. f g.1) (tables.right n' m' h l (omega arith))))
      (λ e. earlier n' m' (λ g. e g.0) (tables.right n' m' h l (omega (arith, count_few S A two))))

  -- objectives 1 and 2
  module _ (free : (aim S).listed ≡ false) where
    count_running : (s : Station) → Running S (at s 0 n m)
    count_running s = cell_running s 0 0 (omega arith) (omega arith) (λ l. absurd (true≢false (sym l ∙ free)))

    pub count_chooses : (s : Station) → Chooses (terms_of S) (at s 0 n m) x y counts changes
    count_chooses s = cell_chooses s 0 0 (count_running s)

    -- one train's slope joined to the rise of those left when it has left
    joined_first : 0 < n → (aim S).joined (slope (aim S) x) (rise_at counts (n - 1) m) ≡ rises (aim S) (figures_left S n m)
    joined_first some =
        ap₂ (λ z r. (aim S).joined (slope (aim S) z) r) (first some) ((tables.right (n - 1) m (omega arith) m_few (omega arith)).risen free)
        ∙ ap (λ xs. rises (aim S) (map (λ z. z.figures) xs ++ map (λ z. z.figures) (left S two m))) (sym (left_next S one n some n_few))

    joined_second : n ≡ 0 → 0 < m → (aim S).joined (slope (aim S) y) (rise_at counts n (m - 1)) ≡ rises (aim S) (figures_left S n m)
    joined_second e some =
        let none : left S one n ≡ [] = ap (left S one) e ∙ left_none S one in
        ap₂ (λ z r. (aim S).joined (slope (aim S) z) r) (second some) ((tables.right n (m - 1) n_few (omega arith) (omega arith)).risen free)
        ∙ ap (λ xs. (aim S).joined (slope (aim S) (turn S two m).figures) (rises (aim S) (map (λ z. z.figures) xs ++ map (λ z. z.figures) (left S two (m - 1))))) none
        ∙ ap₂ (λ xs ys. rises (aim S) (map (λ z. z.figures) xs ++ map (λ z. z.figures) ys)) (sym none) (sym (left_next S two m some m_few))

    rate_is : rate S.objective x y n m counts ≡ rises (aim S) (figures_left S n m)
    unfolding rate aim
    rate_is =
        by_cases (ℕ_discrete n 0)
        (λ e.
        by_cases (ℕ_discrete m 0)
        (λ f. simp (eq-eqb n 0 e, eq-eqb m 0 f) (sym (no_rises S n m e f)))
        (λ f. simp (eq-eqb n 0 e, ne_eqb m 0 f) (joined_second e (omega arith))))
        (λ e. simp (ne_eqb n 0 e) (joined_first (omega arith)))

    slopes : (s : Station) (k : ℕ) → 0 < k → k ≤ count_at S s → (z : List ℤ) → z ≡ (turn S s k).figures → Slopes S.objective z
    unfolding aim
    slopes s k some few z e =
        let gentle = (steady S.objective free).gentle (turn S s k).figures (turn_good S s k some few A.good) in
        record { fits = rw e (within_fits _ (wider 10000 1000000 _ (omega arith) gentle)) }

    pub count_rates : Rates S.objective x y n m counts
    count_rates =
        record {
          ones_few = omega (arith, count_few S A one);
          twos_few = omega (arith, count_few S A two);
          first = λ some. slopes one n some n_few x (first some);
          second = λ some. slopes two m some m_few y (second some);
          fits = rw rate_is (within_fits _ (risen_few S A n m n_few m_few free));
        }

    -- the cell as the code makes it, stored
    module _ (cell : Rising) (pair : Pair (λ s. best_by (terms_of S) (at s 0 n m) x y counts changes) cell.best)
        (rated : cell.rise ≡ rate S.objective x y n m counts) where
      n_in : n < 49
      n_in = omega (arith, count_few S A one)

      m_in : m < 49
      m_in = omega (arith, count_few S A two)

      same : counted (stored counts n m cell) n m ≡ cell
      same = entry_same counts tables.square n m n_in m_in cell _

      here : Right S (stored counts n m cell) changes n m
      unfolding Pair
      here =
          record {
            counted = λ _ s. ap (λ v. get_or v.best (side s) (pos 0)) same ∙ pair s ∙ cell_is s 0 0 (count_running s);
            risen = λ _. ap (λ v. v.rise) same ∙ rated ∙ rate_is;
            changed = λ l. absurd (true≢false (sym l ∙ free));
          }

      others : (n' m' : ℕ) → ¬ ((n' ≡ n) × (m' ≡ m)) → counted (stored counts n m cell) n' m' ≡ counted counts n' m'
      others n' m' = entry_other counts tables.square n m n_in m_in cell _ n' m'

      earlier : (n' m' : ℕ) → ¬ ((n' ≡ n) × (m' ≡ m)) → Right S counts changes n' m' → Right S (stored counts n m cell) changes n' m'
      earlier n' m' other r =
          record {
            counted = λ f s. ap (λ v. get_or v.best (side s) (pos 0)) (others n' m' other) ∙ r.counted f s;
            risen = λ f. ap (λ v. v.rise) (others n' m' other) ∙ r.risen f;
            changed = r.changed;
          }

      pub counts_filled : Tables S (stored counts n m cell) changes (n * 49 + m + 1)
      counts_filled =
          record {
            square = still_square counts tables.square n m n_in m_in cell;
            square' = tables.square';
            right = further here earlier;
          }

  -- objectives 3 and 4
  module _ (listed : (aim S).listed ≡ true) where
    abbrev gone : ℕ
    gone = gone_of (terms_of S) n m

    change_running : (s : Station) (k : ℕ) → k < gone → Running S (cell_clock s (seconds S.timing k gone) k n m)
    change_running s k h = cell_running s _ k (seconds_most S.timing A.timed k gone h) (omega arith) (λ _. (h, refl))

    pub change_changes : Changes (terms_of S) x y n m counts changes
    unfolding terms_of
    change_changes =
        record {
          timed = A.timed;
          all_few = omega (arith, rows_few S A one listed, rows_few S A two listed);
          few = omega (arith, n_few, m_few);
          chooses = λ k h s. cell_chooses s _ k (change_running s k h);
        }

    module _ (cell : List (List ℤ)) (pairs : Pairs gone (λ k s. best_by (terms_of S) (cell_clock s (seconds S.timing k gone) k n m) x y counts changes) cell) where
      n_row : n < 13
      n_row = omega (arith, rows_few S A one listed)

      m_row : m < 13
      m_row = omega (arith, rows_few S A two listed)

      here_changed : Right S counts (stored changes n m cell) n m
      unfolding Pairs Pair
      here_changed =
          record {
            counted = λ f. absurd (true≢false (sym listed ∙ f));
            risen = λ f. absurd (true≢false (sym listed ∙ f));
            changed = λ _ k h s.
                ap (λ v. get_or (get_or v k []) (side s) (pos 0)) (entry_same changes tables.square' n m n_row m_row cell _) ∙ pairs k h s ∙ cell_is s _ k (change_running s k h);
          }

      earlier_changed : (n' m' : ℕ) → ¬ ((n' ≡ n) × (m' ≡ m)) → Right S counts changes n' m' → Right S counts (stored changes n m cell) n' m'
      earlier_changed n' m' other r =
          record {
            counted = r.counted;
            risen = r.risen;
            changed = λ l k h s.
                ap (λ v. get_or (get_or v k []) (side s) (pos 0)) (entry_other changes tables.square' n m n_row m_row cell _ n' m' other) ∙ r.changed l k h s;
          }

      pub changes_filled : Tables S counts (stored changes n m cell) (n * 49 + m + 1)
      changes_filled =
          record {
            square = tables.square;
            square' = still_square changes tables.square' n m n_row m_row cell;
            right = further here_changed earlier_changed;
          }

-- of a cell of either table: what the function that makes it asks, where it stands, and what the tables are once it is stored
pub record ChangeCell (w : Terms) (list list' : List ℤ) (counts : Counts) (changes : Rows) (n m : ℕ) (x y : List ℤ) : Type 0 where
  pub asks : Changes w x y n m counts changes
  pub place : (n < 13) × (m < 13)
  pub stored : (cell : List (List ℤ))
      → Pairs (gone_of w n m) (λ k s. best_by w (cell_clock s (seconds w.timing k (gone_of w n m)) k n m) x y counts changes) cell
      → Tables (asked_by w list list') counts (stored changes n m cell) (n * 49 + m + 1)

pub record CountCell (w : Terms) (list list' : List ℤ) (counts : Counts) (changes : Rows) (n m : ℕ) (x y : List ℤ) : Type 0 where
  pub asks : ((s : Station) → Chooses w (at s 0 n m) x y counts changes) × Rates w.objective x y n m counts
  pub place : (n < 49) × (m < 49)
  pub stored : (cell : Rising)
      → Pair (λ s. best_by w (at s 0 n m) x y counts changes) cell.best × (cell.rise ≡ rate w.objective x y n m counts)
      → Tables (asked_by w list list') (stored counts n m cell) changes (n * 49 + m + 1)

-- the same by a call's terms, with the figures that the code has taken
module _ (w : Terms) (list list' : List ℤ) (places places' : List ℕ) (P : Planning w list list' places places') {counts : Counts} {changes : Rows} (n m : ℕ)
    (few : (n ≤ w.ones) × (m ≤ w.twos)) (tables : Tables (asked_by w list list') counts changes (n * 49 + m)) {x y : List ℤ}
    (x_next : x ≡ next_figures w.objective list places w.ones n) (y_next : y ≡ next_figures w.objective list' places' w.twos m) where
  abbrev S : Section
  S = asked_by w list list'

  ones_few : n ≤ count_at S one
  ones_few = omega (arith, ones_are w list list' places places' P, few.0)

  twos_few : m ≤ count_at S two
  twos_few = omega (arith, twos_are w list list' places places' P, few.1)

  first : 0 < n → x ≡ (turn S one n).figures
  first some = x_next ∙ first_next w list list' places places' P n few.0 some

  second : 0 < m → y ≡ (turn S two m).figures
  second some = y_next ∙ second_next w list list' places places' P m few.1 some

  module _ (listed : (aim_of w.objective).listed ≡ true) where
    row_place : (n < 13) × (m < 13)
    unfolding aim
    row_place = (omega (arith, ones_few, rows_few S P.accepted one listed), omega (arith, twos_few, rows_few S P.accepted two listed))

    change_asks : Changes w x y n m counts changes
    unfolding aim
    change_asks = rw P.terms (change_changes S P.accepted n m tables ones_few twos_few x y first second listed)

    change_stored : (cell : List (List ℤ))
        → Pairs (gone_of w n m) (λ k s. best_by w (cell_clock s (seconds w.timing k (gone_of w n m)) k n m) x y counts changes) cell
        → Tables S counts (stored changes n m cell) (n * 49 + m + 1)
    unfolding aim
    change_stored cell pairs =
        changes_filled S P.accepted n m tables ones_few twos_few x y first second listed cell
        (subst (λ v. Pairs (gone_of v n m) (λ k s. best_by v (cell_clock s (seconds w.timing k (gone_of v n m)) k n m) x y counts changes) cell) P.terms pairs)

    pub change_cell : ChangeCell w list list' counts changes n m x y
    change_cell = record { asks = change_asks; place = row_place; stored = change_stored }

  module _ (free : (aim_of w.objective).listed ≡ false) where
    count_place : (n < 49) × (m < 49)
    count_place = (omega (arith, ones_few, count_few S P.accepted one), omega (arith, twos_few, count_few S P.accepted two))

    count_asks : ((s : Station) → Chooses w (at s 0 n m) x y counts changes) × Rates w.objective x y n m counts
    unfolding aim
    count_asks = (
      λ s. rw P.terms (count_chooses S P.accepted n m tables ones_few twos_few x y first second free s),
      count_rates S P.accepted n m tables ones_few twos_few x y first second free,
    )

    count_stored : (cell : Rising)
        → Pair (λ s. best_by w (at s 0 n m) x y counts changes) cell.best × (cell.rise ≡ rate w.objective x y n m counts)
        → Tables S (stored counts n m cell) changes (n * 49 + m + 1)
    unfolding aim
    count_stored cell h =
        counts_filled S P.accepted n m tables ones_few twos_few x y first second free cell
        (subst (λ v. Pair (λ s. best_by v (at s 0 n m) x y counts changes) cell.best) P.terms h.0) h.1

    pub count_cell : CountCell w list list' counts changes n m x y
    count_cell = record { asks = count_asks; place = count_place; stored = count_stored }

-- a row that is right with its last cell is right altogether
pub row_filled : (w : Terms) (list list' : List ℤ) (places places' : List ℕ) → Planning w list list' places places' → {counts : Counts} {changes : Rows} (n k : ℕ) → w.twos ≤ k
    → Tables (asked_by w list list') counts changes (n * 49 + k + 1) → Tables (asked_by w list list') counts changes ((n + 1) * 49)
row_filled w list list' places places' P n k last tables =
    record {
      square = tables.square;
      square' = tables.square';
      right = λ n' m' h l before. tables.right n' m' h l (omega (arith, twos_are w list list' places places' P, twos_most w list list' places places' P));
    }
