-- Laws of refusals: what it says that none is given.
use mathlib.Core.Bool.{Bool, true, false}
use mathlib.Core.List.{[], cons≢nil}
use mathlib.Core.Logic.{◌↔◌}
use mathlib.Core.Path.{◌≡◌, refl}
use Prim.Native.Nat.{ℕ}
use Rattle.rules.specs.Refusals.{refuse}

pub refuse_none : (applies : Bool) (number : ℕ) → (refuse applies number ≡ []) ↔ (applies ≡ false)
unfolding refuse
refuse_none true number = (λ e. absurd (cons≢nil e), λ e. cc)
refuse_none false number = (λ e. refl, λ e. refl)
