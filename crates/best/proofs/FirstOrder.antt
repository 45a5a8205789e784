-- The order that the rules choose is the first of the smallest: every order listed before it has a larger value.
use mathlib.Core.Bool.{Bool, true, false, not}
use mathlib.Core.List.{List, [], ◌∷◌}
use Prim.Native.Nat.{ℕ, zero, suc, ◌<◌}
use native.Mathlib.Omega.{arith}
use lib.Dec.{T}
use lib.IntN.{ℤ}
use lib.ListN.{length, length-append, length-map}
use lib.Signed.{◌≤ℤ◌, ◌<ℤ◌, le_z, lt_z, le_z_yes, lt_z_yes, lt_z_no, <ℤ-≤ℤ_trans, clash_ℤ}
use Rattle.rules.specs.declared.Station.TheVariants.{One as one, Two as two}
use Rattle.rules.specs.Trains.{Section, count_at}
use Rattle.rules.specs.Orders.{Order, orders, value_of, first_least, first_best, best_order}
use Rattle.theory.specs.Integers.{sum}
use Rattle.theory.proofs.Choices.{cond_ind}
use Rattle.theory.proofs.Values.{or_else}
use Rattle.theory.proofs.Integers.{sum_ordered}
use Rattle.best.specs.Demand.{First, here, later}

above : (a b : ℤ) → ¬ T (le_z a b) → b <ℤ a
above a b n = tested (lt_z b a) lt_z_yes (λ f. absurd (n (lt_z_no {a = b} {b = a} f).le))
  where
    tested : (t : Bool) → (T t → b <ℤ a) → (T (not t) → b <ℤ a) → b <ℤ a
    tested true f g = f tt
    tested false f g = g tt

some_order : (n m : ℕ) → 0 < length (orders n m)
some_order zero zero = omega arith
some_order zero (suc m) = rw length-map (some_order zero m)
some_order (suc n) zero = rw length-map (some_order n zero)
some_order (suc n) (suc m) = simp (length-append, length-map) (omega (arith, some_order n (suc m)))

module _ (S : Section) where
  -- an order stays first of all though another comes after it, or gives way to that one
  stays : {best o p : Order} {os : List Order} → value_of S o ≤ℤ value_of S p → First S best (o ∷ os) → First S best (o ∷ p ∷ os)
  stays h here = here
  stays h (later l f) = later l (later (<ℤ-≤ℤ_trans l h) f)

  gives_way : {best o p : Order} {os : List Order} → value_of S p <ℤ value_of S o → First S best (p ∷ os) → First S best (o ∷ p ∷ os)
  gives_way h here = later h here
  gives_way h (later l f) = later (<ℤ-≤ℤ_trans l (or_else sum sum_ordered (clash_ℤ h))) (later l f)

  least_first : (o : Order) (os : List Order) → First S (first_least (value_of S) o os) (o ∷ os)
  least_first o [] = here
  least_first o (p ∷ os) =
      cond_ind (λ k. First S (first_least (value_of S) k os) (o ∷ p ∷ os)) (le_z (value_of S o) (value_of S p))
      (λ t. stays (le_z_yes t) (least_first o os)) (λ n. gives_way (above _ _ n) (least_first p os))

  chosen_first : (os : List Order) → 0 < length os → First S (first_best (value_of S) os) os
  chosen_first [] h = absurd (omega arith)
  chosen_first (o ∷ os) h = least_first o os

  pub best_first : First S (best_order S) (orders (count_at S one) (count_at S two))
  unfolding best_order
  best_first = chosen_first _ (some_order (count_at S one) (count_at S two))
