-- A cell stored in a square table: it is read back, all others stay, and the table stays square.
use Rattle.std.proofs.Common.{[], ◌≢◌, ◌≡◌, ◌∙◌, ℕ, ◌<◌, get_or, set, length-set, get_or-set_same, get_or-set_other}
use mathlib.Core.Logic.{by_cases}
use native.Mathlib.Decide.{ℕ_discrete}
use Rattle.planner.specs.Rests.{Table, entry}
use Rattle.planner.specs.Day.{Square}

abbrev pub stored : {Cell : Type 0} → Table Cell → ℕ → ℕ → Cell → Table Cell
stored table n m cell = set table n (set (get_or table n []) m cell)

module _ {Cell : Type 0} {w : ℕ} (table : Table Cell) (sq : Square w table) (n m : ℕ) (h : n < w) (l : m < w) (cell : Cell) where
  row_same : get_or (stored table n m cell) n [] ≡ set (get_or table n []) m cell
  row_same = get_or-set_same table n _ [] (rw sq.rows h)

  row_other : (n' : ℕ) → n' ≢ n → get_or (stored table n m cell) n' [] ≡ get_or table n' []
  row_other n' other = get_or-set_other table n n' _ [] other

  pub entry_same : (none : Cell) → entry none (stored table n m cell) n m ≡ cell
  unfolding entry
  entry_same none = rw (row_same, get_or-set_same (get_or table n []) m cell none (rw (sq.cells n h) l))

  pub entry_other : (none : Cell) (n' m' : ℕ) → ¬ ((n' ≡ n) × (m' ≡ m)) → entry none (stored table n m cell) n' m' ≡ entry none table n' m'
  unfolding entry
  entry_other none n' m' other =
      by_cases (ℕ_discrete n' n)
      (λ e. rw (e, row_same, get_or-set_other (get_or table n []) m m' cell none (λ f. other (e, f))))
      (λ e. rw (row_other n' e))

  pub still_square : Square w (stored table n m cell)
  still_square =
      record {
        rows = length-set table n _ ∙ sq.rows;
        cells = λ n' k. by_cases (ℕ_discrete n' n)
            (λ e. rw (e, row_same, length-set) (sq.cells n h))
            (λ e. rw (row_other n' e) (sq.cells n' k));
      }
