-- Laws of tests: what a test of several parts says, part by part.
use mathlib.Core.Bool.{Bool, true, false, not, ◌&&◌, ◌||◌, true≢false}
use mathlib.Core.Logic.{◌↔◌, ◌⊎◌, inl, inr, ⊎_elim}
use mathlib.Core.Path.{◌≡◌, refl}
use lib.Dec.{T}

pub both : (a b : Bool) → T (a && b) ↔ (T a × T b)
both true b = (λ h. (tt, h), λ h. h.1)
both false b = (absurd, λ h. h.0)

pub either : (a b : Bool) → T (a || b) ↔ (T a ⊎ T b)
either true b = (λ h. inl tt, λ h. tt)
either false b = (inr, ⊎_elim absurd (λ h. h))

-- where both of two tests pass, so does the third
pub if_both : (a b c : Bool) → T (not (a && b) || c) ↔ (T a → T b → T c)
if_both true true c = (λ h s t. h, λ f. f tt tt)
if_both true false c = (λ h s t. absurd t, λ f. tt)
if_both false b c = (λ h s t. absurd s, λ f. tt)

pub passes : (a : Bool) → not a ≡ false → T a
passes true e = tt
passes false e = absurd (true≢false e)

pub neither : (a b : Bool) → ((a || b) ≡ false) ↔ ((a ≡ false) × (b ≡ false))
neither true b = (λ e. absurd (true≢false e), λ h. h.0)
neither false b = (λ e. (refl, e), λ h. h.1)
