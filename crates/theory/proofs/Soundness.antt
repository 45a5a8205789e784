-- Trains that leave as early as the clock allows keep every gap, and leave in the order given.
use Prim.Native.Nat.{ℕ, ◌+◌, ◌≤◌}
use native.Mathlib.Omega.{arith}
use mathlib.Core.Path.{◌≡◌, refl, ap}
use mathlib.Core.List.{List, [], ◌∷◌}
use Rattle.theory.specs.Line.{Line, Lawful}
use Rattle.theory.specs.Schedule.{All, Pairs, Clock, after, leave, Leaves, trains}
use Rattle.theory.proofs.Facts.{each}

module _ (L : Line) (P : Lawful L) where
  open L use {Train, gap, early}
  open P use {triangle}

  -- seconds that lie under the clock, and still do when a train has left, lie under every departure
  floor : (low : Clock L) → ((y z : Train) → low z ≤ after L y (low y) z)
      → (clock : Clock L) → ((y : Train) → low y ≤ clock y)
      → (xs : List Train) → All (λ r. low r.train ≤ r.departure) (leave L clock xs)
  floor low holds clock h [] = All.none
  floor low holds clock h (x ∷ xs) =
      All.more (h x) (floor low holds (after L x (clock x)) (λ z. omega (arith, holds x z, h x)) xs)

  pub never_early : (xs : List Train) → All (λ r. early r.train ≤ r.departure) (leave L early xs)
  never_early = floor early (λ y z. omega arith) early (λ y. omega arith)

  keeps_gap : (x : Train) (d : ℕ) (xs : List Train) → All (Leaves L (record { train = x; departure = d })) (leave L (after L x d) xs)
  keeps_gap x d xs =
      each (λ s h. record { waits = h })
      (floor (λ y. d + gap x y) (λ y z. omega (arith, triangle x y z)) (after L x d) (λ y. omega arith) xs)

  pub sound : (clock : Clock L) (xs : List Train) → Pairs (Leaves L) (leave L clock xs)
  sound clock [] = Pairs.none
  sound clock (x ∷ xs) = Pairs.more (keeps_gap x (clock x) xs) (sound (after L x (clock x)) xs)

  pub same_trains : (clock : Clock L) (xs : List Train) → trains (leave L clock xs) ≡ xs
  same_trains clock [] = refl
  same_trains clock (x ∷ xs) = ap (λ ys. x ∷ ys) (same_trains (after L x (clock x)) xs)
