-- A promise, as a function's contract states it: of a call's lifetimes and arguments, its result, and what it leaves in its parameters.
-- It settles what any two runs that keep it must share.
use Rattle.std.specs.Prelude.{◌≡◌}

module _ {K : Type 0} {A R E : K → Type 0} (Promise : (k : K) → A k → R k → E k → Type 0) where
  -- two results that keep the promise are equal
  abbrev pub Settles : Type 0
  Settles = (k : K) (a : A k) (r r' : R k) (e e' : E k) → Promise k a r e → Promise k a r' e' → r ≡ r'

  -- and so is what is found afterwards in what was lent
  abbrev pub Leaves : {X : K → Type 0} → ((k : K) → E k → X k) → Type 0
  Leaves found = (k : K) (a : A k) (r r' : R k) (e e' : E k) → Promise k a r e → Promise k a r' e' → found k e ≡ found k e'
