-- Ranks by an integer each: the smaller goes ahead, or the larger.
use mathlib.Core.Bool.{Bool}
use lib.Dec.{T, not_T}
use lib.IntN.{ℤ}
use lib.Signed.{◌≤ℤ◌, lt_z, lt_z_yes, lt_z_no, clash_ℤ}
use Rattle.theory.specs.Integers.{sum}
use Rattle.theory.specs.Queue.{Before, Ranked}
use Rattle.theory.proofs.Values.{or_else}
use Rattle.theory.proofs.Integers.{≤ℤ_trans, sum_ordered}

pub not_less : (a b : ℤ) → ¬ T (lt_z a b) → b ≤ℤ a
not_less a b n = lt_z_no (not_T (lt_z a b) n)

module _ {X : Type 0} where
  pub by_key : (f : X → ℤ) → Ranked (λ x y. lt_z (f x) (f y))
  by_key f =
      record {
        steps = λ {x} {y} {z} h k. in_order (≤ℤ_trans (not_less (f y) (f x) h.free) (not_less (f z) (f y) k.free));
        leads = λ t. in_order (or_else sum sum_ordered (clash_ℤ (lt_z_yes t)));
      }
    where
      in_order : {x y : X} → f x ≤ℤ f y → Before (λ x y. lt_z (f x) (f y)) x y
      in_order h = record { free = λ t. clash_ℤ (lt_z_yes t) h }

  -- the same ranks the other way round
  pub turned : {ahead : X → X → Bool} → Ranked ahead → Ranked (λ x y. ahead y x)
  turned K = record { steps = λ h k. turn (K.steps (turn k) (turn h)); leads = λ t. turn (K.leads t) }
    where
      turn : {r : X → X → Bool} {x y : X} → Before r x y → Before (λ x y. r y x) y x
      turn h = record { free = h.free }
