-- One schedule against another of the same order.
-- That waiting never helps is said by this.
use Rattle.std.specs.Prelude.{◌≤◌, ◌≡◌, List, [], ◌∷◌}
use Rattle.theory.specs.Schedule.{Run}

-- the same trains in one order, each leaving no later in the first schedule than in the second
pub data NoLater {X : Type 0} : List (Run X) → List (Run X) → Type 0 where
  none : NoLater [] []
  more : {r s : Run X} {rs ss : List (Run X)}
      → r.train ≡ s.train → r.departure ≤ s.departure → NoLater rs ss → NoLater (r ∷ rs) (s ∷ ss)
