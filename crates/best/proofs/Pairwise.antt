-- Facts of each element and of each pair, against the lists that the rules compute.
-- A schedule is safe exactly where each pair of its trains keeps the rules.
use mathlib.Core.Bool.{Bool, true, false, not, cond}
use mathlib.Core.List.{List, [], ◌∷◌, map, cons≢nil}
use mathlib.Core.Logic.{◌↔◌}
use mathlib.Core.Path.{◌≡◌, refl}
use Prim.Native.Nat.{ℕ}
use lib.Dec.{T}
use Rattle.rules.specs.Lists.{those, pairs}
use Rattle.rules.specs.Trains.{Section, runs}
use Rattle.rules.specs.Safe.{keeps, conflicts, Safe}
use Rattle.theory.specs.Schedule.{All, Pairs}
use Rattle.theory.proofs.Facts.{of_first, of_rest, all_append, all_split, all_mapped, all_unmapped}

module _ {X : Type 0} where
  -- of the elements that fail a test, none is left exactly where the first passes and none is left of the rest
  passes : (b : Bool) (x : X) {xs : List X} → (cond (not b) (x ∷ xs) xs ≡ []) ↔ (T b × (xs ≡ []))
  passes true x = (λ e. (tt, e), λ h. h.1)
  passes false x = (λ e. absurd (cons≢nil e), λ h. absurd h.0)

  pub none_fails : (p : X → Bool) (xs : List X) → (those (λ x. not (p x)) xs ≡ []) ↔ All (λ x. T (p x)) xs
  none_fails p [] = (λ e. All.none, λ a. refl)
  none_fails p (x ∷ xs) = (
    λ e. let (t, r) = (passes (p x) x).0 e in All.more t ((none_fails p xs).0 r),
    λ a. (passes (p x) x).1 (of_first a, (none_fails p xs).1 (of_rest a)),
  )

  module _ {R : X → X → Type 0} where
    pub pairs_listed : {xs : List X} → Pairs R xs → All (λ pair. R pair.0 pair.1) (pairs xs)
    pairs_listed Pairs.none = All.none
    pairs_listed (Pairs.more {x = x} a r) = all_append (all_mapped (λ y. (x, y)) a) (pairs_listed r)

    pub listed_pairs : (xs : List X) → All (λ pair. R pair.0 pair.1) (pairs xs) → Pairs R xs
    listed_pairs [] a = Pairs.none
    listed_pairs (x ∷ xs) a =
        let (b, c) = all_split (map (λ y. (x, y)) xs) a in Pairs.more (all_unmapped (λ y. (x, y)) xs b) (listed_pairs xs c)

pub no_pair_fails : {X : Type 0} (p : X → X → Bool) (xs : List X)
    → (those (λ pair. not (p pair.0 pair.1)) (pairs xs) ≡ []) ↔ Pairs (λ x y. T (p x y)) xs
no_pair_fails p xs =
    let e = none_fails (λ pair. p pair.0 pair.1) (pairs xs) in
    (λ h. listed_pairs xs (e.0 h), λ r. e.1 (pairs_listed r))

module _ (S : Section) (departures : List ℕ) where
  pub safe_pairs : Safe S departures → Pairs (λ r r'. T (keeps S r r')) (runs S departures)
  unfolding Safe conflicts
  safe_pairs = (no_pair_fails (keeps S) (runs S departures)).0

  pub pairs_safe : Pairs (λ r r'. T (keeps S r r')) (runs S departures) → Safe S departures
  unfolding Safe conflicts
  pairs_safe = (no_pair_fails (keeps S) (runs S departures)).1
