-- The pairs of numbers that pass a test, by the first number of the first of them, and by its second.
use mathlib.Core.Bool.{Bool, true, false}
use mathlib.Core.List.{List, [], ◌++◌, map}
use mathlib.Core.Logic.{by_cases}
use mathlib.Core.Path.{◌≡◌, refl}
use Prim.Native.Nat.{ℕ, zero, suc, ◌+◌, ◌≤◌, ◌<◌}
use native.Mathlib.Decide.{ℕ_discrete}
use native.Mathlib.Omega.{arith}
use Rattle.std.specs.Prelude.{Option, None, Some, MatchOption}
use Rattle.rules.specs.Lists.{those, pairs, count_from}
use Rattle.rules.proofs.Lists.{those_append}
use Rattle.refusals.specs.First.{NonePass, IsFirst}
use Rattle.refusals.proofs.First.{Begins, begins_append, none_pass, first_passes}

-- the first of a range is the first of one that goes on
pub first_before : (p : ℕ → Bool) (k m n i : ℕ) → m ≤ n → IsFirst p k m (Some i) → IsFirst p k n (Some i)
first_before p k m n i l (from, before, passes, none) = (from, omega arith, passes, none)

-- what a search finds that says of a number that it passes, or not, where it lies in the range
pub first_there : (p : ℕ → Bool) (k n : ℕ) (found : Option ℕ)
    → MatchOption found ((j : ℕ) → k ≤ j → j < n → k ≤ j → j < n → p j ≡ false)
    (λ i. (k ≤ i) × (i < n) × (k ≤ i → i < n → p i ≡ true) × ((j : ℕ) → k ≤ j → j < i → k ≤ j → j < n → p j ≡ false))
    → IsFirst p k n found
first_there p k n None none = λ j l h. none j l h l h
first_there p k n (Some i) (from, before, passes, none) = (from, before, passes from before, λ j l h. none j l h l (omega arith))

module _ (test : ℕ → ℕ → Bool) where
  abbrev both : ℕ × ℕ → Bool
  both pair = test pair.0 pair.1

  abbrev passing : ℕ → ℕ → List (ℕ × ℕ)
  passing k n = those both (pairs (count_from k n))

  passing_next : (k n : ℕ) → passing k (suc n) ≡ those both (map (λ j. (k, j)) (count_from (suc k) n)) ++ passing (suc k) n
  passing_next k n = those_append both (map (λ j. (k, j)) (count_from (suc k) n)) (pairs (count_from (suc k) n))

  with_none : (k n end : ℕ) → k + suc n ≡ end → NonePass (test k) (suc k) end → those both (map (λ j. (k, j)) (count_from (suc k) n)) ≡ []
  with_none k n end l none = none_pass both (λ j. (k, j)) (suc k) n (λ i l' m. none i l' (omega arith))

  with_first : (k n end j : ℕ) → k + suc n ≡ end → IsFirst (test k) (suc k) end (Some j) → Begins (k, j) (passing k (suc n))
  with_first k n end j l (from, before, passes, none) =
      rw (passing_next k n)
      (begins_append _ (first_passes both (λ i. (k, i)) (suc k) n j from (omega arith) passes none))

  -- no number passes with a later one
  pub no_pair : (k n end : ℕ) → k + n ≡ end → ((i : ℕ) → k ≤ i → i < end → NonePass (test i) (suc i) end) → passing k n ≡ []
  no_pair k zero end l none = refl
  no_pair k (suc n) end l none =
      rw (passing_next k n, with_none k n end l (none k (omega arith) (omega arith)))
      (no_pair (suc k) n end (omega arith) (λ i l' m. none i (omega arith) m))

  -- i passes with j, and with none between them; no number before i passes with a later one
  pub first_pair :
      (k n end i j : ℕ) → k + n ≡ end → k ≤ i → i < end → IsFirst (test i) (suc i) end (Some j) →
      ((i' : ℕ) → k ≤ i' → i' < i → NonePass (test i') (suc i') end) →
      Begins (i, j) (passing k n)
  first_pair k zero end i j l from before found none = absurd (omega arith)
  first_pair k (suc n) end i j l from before found none =
      by_cases (ℕ_discrete k i)
      (λ e. rw (← e) (with_first k n end j l (rw (← e) at found)))
      (λ other.
      rw (passing_next k n, with_none k n end l (none k (omega arith) (omega arith)))
      (first_pair (suc k) n end i j (omega arith) (omega arith) before found (λ i' l' m. none i' (omega arith) m)))
