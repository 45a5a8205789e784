-- The first number of a range that passes a test.
-- Nothing of the railway stands here.
use Rattle.std.specs.Prelude.{Bool, true, false, Option, MatchOption, ◌≡◌, ℕ, ◌≤◌, ◌<◌}

-- no number from k on and below n passes
abbrev pub NonePass : (ℕ → Bool) → ℕ → ℕ → Type 0
NonePass p k n = (i : ℕ) → k ≤ i → i < n → p i ≡ false

-- the first from k on and below n that passes, or nothing where none does
abbrev pub IsFirst : (ℕ → Bool) → ℕ → ℕ → Option ℕ → Type 0
IsFirst p k n found = MatchOption found (NonePass p k n) (λ i. (k ≤ i) × (i < n) × (p i ≡ true) × NonePass p k i)
