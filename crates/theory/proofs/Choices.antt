-- Laws of choosing: by a decision (`pick`) and by a test (`cond`).
use mathlib.Core.Bool.{Bool, true, false, cond}
use mathlib.Core.Path.{◌≡◌, refl}
use lib.Dec.{T}
use Rattle.theory.specs.Orders.{pick}

pub pick_yes : {P X : Type 0} (d : Dec P) (a b : X) → P → pick d a b ≡ a
pick_yes (yes p) a b h = refl
pick_yes (no n) a b h = absurd (n h)

pub pick_no : {P X : Type 0} (d : Dec P) (a b : X) → ¬ P → pick d a b ≡ b
pick_no (yes p) a b h = absurd (h p)
pick_no (no n) a b h = refl

-- what holds of both choices, each where it is taken, holds of the one picked
pub pick_ind : {P X : Type 0} (Q : X → Type 0) (d : Dec P) {a b : X} → (P → Q a) → (¬ P → Q b) → Q (pick d a b)
pick_ind Q (yes p) f g = f p
pick_ind Q (no n) f g = g n

pub cond_ind : {X : Type 0} (Q : X → Type 0) (t : Bool) {a b : X} → (T t → Q a) → (¬ T t → Q b) → Q (cond t a b)
cond_ind Q true f g = f tt
cond_ind Q false f g = g (λ t. t)
