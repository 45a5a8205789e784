-- A cell of pairs: what is read of a pair, and that a turn stores the next pair and keeps those before it.
use Rattle.std.proofs.Common.{List, [], ◌∷◌, ◌++◌, ◌≡◌, ap, ℕ, ◌+◌, ◌<◌, ◌≤◌, arith, ℤ, pos, length, get_or, set, get_or-set_same, get_or-set_other}
use mathlib.Core.Logic.{by_cases}
use native.Mathlib.Decide.{ℕ_discrete}
use Rattle.std.proofs.lemmas.List.{get_or_append_left}
use Rattle.rules.specs.declared.Station.{Station}
use Rattle.rules.specs.declared.Station.TheVariants.{One as one, Two as two}
use Rattle.planner.specs.Cells.{Pair, Pairs}

pub told : (value : Station → ℤ) (pair : List ℤ) → pair ≡ value one ∷ value two ∷ [] → Pair value pair
unfolding Pair
told value pair e one = ap (λ z. get_or z 0 (pos 0)) e
told value pair e two = ap (λ z. get_or z 1 (pos 0)) e

pub no_pairs : (value : ℕ → Station → ℤ) (cell : List (List ℤ)) → Pairs 0 value cell
unfolding Pairs
no_pairs value cell k h = absurd (omega arith)

-- pair k is stored
pub next_pair : (value : ℕ → Station → ℤ) (cell : List (List ℤ)) (pair : List ℤ) (k : ℕ) → k < length cell
    → Pair (value k) pair → Pairs k value cell → Pairs (k + 1) value (set cell k pair)
unfolding Pairs
next_pair value cell pair k within here pairs j h =
    by_cases (ℕ_discrete j k)
    (λ same. rw (same, get_or-set_same cell k pair [] within) here)
    (λ other. rw (get_or-set_other cell k j pair [] other) (pairs j (omega arith)))

-- what follows the pairs does not touch them
pub pairs_ahead : (value : ℕ → Station → ℤ) (cell rest : List (List ℤ)) (n : ℕ) → n ≤ length cell → Pairs n value cell → Pairs n value (cell ++ rest)
unfolding Pairs Pair
pairs_ahead value cell rest n few pairs k h = rw (get_or_append_left cell rest [] k (omega arith)) (pairs k h)
