-- Laws of a first number that passes: which elements of a list in a row pass, by where the first is.
-- Nothing of the railway stands here.
use mathlib.Core.Bool.{Bool, true}
use mathlib.Core.List.{List, [], ◌∷◌, ◌++◌, map}
use mathlib.Core.Logic.{by_cases}
use mathlib.Core.Path.{◌≡◌, refl}
use Prim.Native.Nat.{ℕ, zero, suc, ◌+◌, ◌≤◌, ◌<◌}
use native.Mathlib.Decide.{ℕ_discrete}
use native.Mathlib.Omega.{arith}
use Rattle.rules.specs.Lists.{those, count_from}
use Rattle.refusals.specs.First.{NonePass}

-- a list that begins with an element
pub data Begins {A : Type 0} : A → List A → Type 0 where
  begins : {x : A} {xs : List A} → Begins x (x ∷ xs)

pub begins_append : {A : Type 0} {x : A} {xs : List A} (ys : List A) → Begins x xs → Begins x (xs ++ ys)
begins_append ys begins = begins

module _ {A : Type 0} (p : A → Bool) (f : ℕ → A) where
  -- of n elements in a row from the k-th
  pub none_pass : (k n : ℕ) → NonePass (λ i. p (f i)) k (k + n) → those p (map f (count_from k n)) ≡ []
  none_pass k zero none = refl
  none_pass k (suc n) none =
      rw (none k (omega arith) (omega arith)) (none_pass (suc k) n (λ i l m. none i (omega arith) (omega arith)))

  pub first_passes :
      (k n i : ℕ) → k ≤ i → i < k + n → p (f i) ≡ true → NonePass (λ j. p (f j)) k i →
      Begins (f i) (those p (map f (count_from k n)))
  first_passes k zero i l m passes none = absurd (omega arith)
  first_passes k (suc n) i l m passes none =
      by_cases (ℕ_discrete k i)
      (λ e. rw (e, passes) begins)
      (λ other. rw (none k (omega arith) (omega arith))
      (first_passes (suc k) n i (omega arith) (omega arith) passes (λ j l' m'. none j (omega arith) m')))
