-- The search for a late train, one train further, and that what the code finds is where this search ends.
use Rattle.std.proofs.Common.{true, false, true≢false, cond, Bool, ◌≡◌, refl, sym, ◌∙◌, ap, List, ℕ, zero, suc, ◌+◌, ◌-◌, ◌≤◌, ◌<◌, arith, Option, None, Some, length, get_or, unwrap_or}
use mathlib.Core.Logic.{by_cases}
use native.Mathlib.Decide.{ℕ_discrete}
use borrow.Author.Tests.{lt-ltb, le-ltb}
use Rattle.refusals.specs.First.{NonePass, IsFirst}
use Rattle.judge.specs.Recorded.{late}

-- of n numbers in a row from k, the first that passes; k + n where none does
abbrev pub seek : (ℕ → Bool) → ℕ → ℕ → ℕ
seek p k zero = k
seek p k (suc n) = cond (p k) k (seek p (suc k) n)

module _ (departures : List ℕ) (k : ℕ) (h : k < length departures) where
  left : length departures - k ≡ suc (length departures - (k + 1))
  left = omega arith

  next : k + 1 ≡ suc k
  next = omega arith

  pub late_here : 10000000 < get_or departures k 0 → seek (late departures) k (length departures - k) ≡ k
  unfolding late
  late_here l = rw (left, lt-ltb _ _ l)

  pub late_further : get_or departures k 0 ≤ 10000000 → seek (late departures) k (length departures - k) ≡ seek (late departures) (k + 1) (length departures - (k + 1))
  unfolding late
  late_further l = rw (left, le-ltb _ _ l, next)

module _ (p : ℕ → Bool) where
  ends : (k n : ℕ) → NonePass p k (k + n) → seek p k n ≡ k + n
  ends k zero none = omega arith
  ends k (suc n) none =
      let here : p k ≡ false = none k (omega arith) (omega arith) in
      let more : suc k + n ≡ k + suc n = omega arith in
      rw here (ends (suc k) n (λ i h l. none i (omega arith) (omega (arith, more))) ∙ more)

  stops : (k n i : ℕ) → k ≤ i → i < k + n → p i ≡ true → NonePass p k i → seek p k n ≡ i
  stops k zero i from before passes none = absurd (omega arith)
  stops k (suc n) i from before passes none = tested (p k) refl (λ h. stops (suc k) n i h (omega (arith, before)) passes (λ j k_less l. none j (omega (arith, k_less)) l))
    where
      tested : (b : Bool) → p k ≡ b → (suc k ≤ i → seek p (suc k) n ≡ i) → cond b k (seek p (suc k) n) ≡ i
      tested true e further = by_cases (ℕ_discrete k i) (λ same. same) (λ other. absurd (true≢false (sym e ∙ none k (omega arith) (omega (arith, other, from)))))
      tested false e further =
          let other : ¬ (k ≡ i) = λ same. true≢false (sym passes ∙ ap p (sym same) ∙ e) in
          further (omega (arith, other, from))

-- what `first_late` finds, the number of departures where it finds none, is where the search ends
pub late_is : (departures : List ℕ) (found : Option ℕ) → IsFirst (late departures) 0 (length departures) found → unwrap_or found (length departures) ≡ seek (late departures) 0 (length departures)
late_is departures None none =
    let all : 0 + length departures ≡ length departures = omega arith in
    sym (ends (late departures) 0 (length departures) (λ i h l. none i h (omega (arith, l))) ∙ all)
late_is departures (Some i) (from, before, passes, none) = sym (stops (late departures) 0 (length departures) i from (omega (arith, before)) passes none)
