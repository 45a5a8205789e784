-- What digits come to, however many they are: it only grows, and a word is told by it where 32 bits hold it.
use Rattle.std.proofs.Common.{Bool, zero, suc, lit<, ap, true, false, ◌&&◌, cond, leb, ℤ, pos, neg_ℤ, ◌-ℤ◌, Option, Some, None, Result, Ok, Err, ℕ, ◌+◌, ◌-◌, ◌*◌, ◌≤◌, ◌<◌, ◌≡◌, refl, List, [], ◌∷◌, length, get_or, drop, arith}
use Rattle.std.proofs.lemmas.List.{at_drop_more, drop_all}
use Rattle.std.proofs.lemmas.Grind.{common_steps}
use Rattle.std.specs.Option.{SomeIff}
use Rattle.std.specs.Result.{OkIff, result_ok}
use lib.IntN.{+ℤ_idl}
use mir.Syntax.{w32}
use mir.Val.{SFits}
use borrow.Author.Tests.{le-leb, lt-leb}
use mathlib.Core.Bool.{and-false}
use Rattle.text.specs.Numbers.{plain, amount_on, amount, positive, negative}
use Rattle.text.specs.Pieces.{held}

grows : (n : ℕ) (word : List ℕ) → n ≤ amount_on n word
grows n [] = omega arith
grows n (b ∷ bs) = omega (arith, grows (n * 10 + (b - 48)) bs)

module _ (word : List ℕ) where
  pub none_held : plain word ≡ false → None ≡ held word
  unfolding held
  none_held e = rw e refl

  pub held_is : (n k : ℕ) → plain word ≡ true → n ≤ 4294967295 → length word ≤ k → amount_on n (drop k word) ≡ amount_on 0 word → Some n ≡ held word
  unfolding held amount
  held_is n k digits small end e = rw (digits, ← e, drop_all k word end, le-leb n 4294967295 small) refl

  -- an amount that is too large stays so, whatever is left of the word
  pub not_held : (n k : ℕ) → k < length word → amount_on n (drop k word) ≡ amount_on 0 word → 4294967295 < n * 10 + (get_or word k 0 - 48) → None ≡ held word
  unfolding held amount
  not_held n k h e large =
      let next = n * 10 + (get_or word k 0 - 48) in
      let whole : 4294967295 < amount_on 0 word = omega (arith, rw (at_drop_more (amount_on n) word k 0 h) at e, grows next (drop (k + 1) word)) in
      rw (lt-leb (amount_on 0 word) 4294967295 whole, and-false) refl

some_of : (digits : Bool) (a n : ℕ) → Some n ≡ cond (digits && leb a 4294967295) (Some a) None → (digits ≡ true) × (n ≡ a)
some_of digits a n e = grind (arith, common_steps)

within_positive : {E : Type 0} (n : ℕ) (r : Result ℤ E) → OkIff r (SFits w32 (pos n)) (pos n) → result_ok r ≡ cond (leb n 2147483647) (Some (pos n)) None
within_positive n (Err e) h =
    let no : n < 2147483648 → ⊥ = λ l. h (record { sfits = l }) in
    rw (lt-leb n 2147483647 (omega (arith, no))) refl
within_positive n (Ok z) h = rw (h.1, le-leb n 2147483647 (omega (arith, h.0.sfits))) refl

within_negative : (n : ℕ) (r : Option ℤ) → SomeIff r (SFits w32 (neg_ℤ (pos n))) (neg_ℤ (pos n)) → r ≡ cond (leb n 2147483648) (Some (neg_ℤ (pos n))) None
within_negative zero None h = absurd (h (record { sfits = lit< tt }))
within_negative (suc n) None h =
    let no : n < 2147483648 → ⊥ = λ l. h (record { sfits = l }) in
    rw (lt-leb (suc n) 2147483648 (omega (arith, no))) refl
within_negative zero (Some z) h = ap Some h.1
within_negative (suc n) (Some z) h = rw (h.1, le-leb (suc n) 2147483648 (omega (arith, h.0.sfits))) refl

module _ (word : List ℕ) where
  pub not_positive : None ≡ held word → None ≡ positive word
  unfolding held positive
  not_positive e = grind (arith, common_steps)

  pub not_negative : None ≡ held word → None ≡ negative word
  unfolding held negative
  not_negative e = grind (arith, common_steps)

  module _ (n : ℕ) (e : Some n ≡ held word) where
    pub positive_is : {E : Type 0} (r : Result ℤ E) → OkIff r (SFits w32 (pos n)) (pos n) → result_ok r ≡ positive word
    unfolding held positive
    positive_is r h = let is = some_of (plain word) (amount word) n e in rw (is.0, ← is.1) (within_positive n r h)

    pub negative_is : {r : Option ℤ} → 1 ≤ n → SomeIff r (SFits w32 (pos 0 -ℤ pos n)) (pos 0 -ℤ pos n) → r ≡ negative word
    unfolding held negative
    negative_is {r} some h =
        let is = some_of (plain word) (amount word) n e in
        rw (is.0, ← is.1, le-leb 1 n some) (within_negative n r (rw +ℤ_idl at h))

    pub no_minus_zero : n < 1 → None ≡ negative word
    unfolding held negative
    no_minus_zero none =
        let is = some_of (plain word) (amount word) n e in
        rw (is.0, ← is.1, lt-leb 1 n none) refl
