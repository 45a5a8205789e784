-- Waiting never helps: of all schedules of an order, the one without waiting lets each train leave first and costs least.
use Prim.Native.Nat.{◌≤◌}
use native.Mathlib.Omega.{arith}
use mathlib.Core.Path.{refl}
use mathlib.Core.List.{List}
use Rattle.theory.specs.Line.{Line, Lawful}
use Rattle.theory.specs.Schedule.{Run, All, Pairs, Clock, after, leave, worth, Leaves, trains}
use Rattle.theory.specs.Waiting.{NoLater}
use Rattle.theory.proofs.Values.{same, both}
use Rattle.theory.proofs.Facts.{together}

module _ (L : Line) (P : Lawful L) where
  open L use {values, Train, Good, early}
  open values use {◌≼◌}
  open P use {ordered, rising}

  infix 5 ◌≼◌
  pub no_later : (clock : Clock L) {rs : List (Run Train)} → Pairs (Leaves L) rs
      → All (λ r. early r.train ≤ r.departure) rs → All (λ r. clock r.train ≤ r.departure) rs
      → NoLater (leave L clock (trains rs)) rs
  no_later clock Pairs.none All.none All.none = NoLater.none
  no_later clock (Pairs.more {x = r} ls ps) (All.more e es) (All.more c cs) =
      NoLater.more refl c (no_later (after L r.train (clock r.train)) ps es (together (λ s l h. omega arith) ls es))

  no_dearer : {rs ss : List (Run Train)} → NoLater rs ss → All (λ s. Good s.train) ss → worth L rs ≼ worth L ss
  no_dearer NoLater.none All.none = same values ordered _
  no_dearer (NoLater.more e h t) (All.more g gs) = both values ordered (rw e (rising g h)) (no_dearer t gs)

  pub waiting : {rs : List (Run Train)} → Pairs (Leaves L) rs
      → All (λ r. early r.train ≤ r.departure) rs → All (λ r. Good r.train) rs
      → worth L (leave L early (trains rs)) ≼ worth L rs
  waiting p e g = no_dearer (no_later early p e e) g
