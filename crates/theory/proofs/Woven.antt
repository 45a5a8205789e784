-- The orders listed are two queues woven together: the same trains, and what holds within each queue and across holds of the day.
use mathlib.Core.List.{List, [], ◌∷◌, ◌++◌}
use Rattle.theory.specs.Schedule.{All, Pairs}
use Rattle.theory.specs.Orders.{days, Woven}
use Rattle.theory.specs.Permutations.{Perm, keep, then}
use Rattle.theory.proofs.Facts.{each, of_rest, all_append, all_mapped}
use Rattle.theory.proofs.Permutations.{perm_into, all_perm}

module _ {X : Type 0} where
  only_first : (xs : List X) → Woven xs [] xs
  only_first [] = Woven.none
  only_first (x ∷ xs) = Woven.first (only_first xs)

  only_second : (ys : List X) → Woven [] ys ys
  only_second [] = Woven.none
  only_second (y ∷ ys) = Woven.second (only_second ys)

  pub woven_days : (xs ys : List X) → All (Woven xs ys) (days xs ys)
  woven_days [] ys = All.more (only_second ys) All.none
  woven_days (x ∷ xs) [] = All.more (only_first (x ∷ xs)) All.none
  woven_days (x ∷ xs) (y ∷ ys) =
      all_append (all_mapped (λ d. x ∷ d) (each (λ d w. Woven.first w) (woven_days xs (y ∷ ys))))
      (all_mapped (λ d. y ∷ d) (each (λ d w. Woven.second w) (woven_days (x ∷ xs) ys)))

  pub woven_perm : {xs ys day : List X} → Woven xs ys day → Perm (xs ++ ys) day
  woven_perm Woven.none = Perm.none
  woven_perm (Woven.first w) = keep (woven_perm w)
  woven_perm (Woven.second {y = y} {xs = xs} {ys = ys} w) = then (perm_into y xs ys) (keep (woven_perm w))

  pub woven_pairs : {R : X → X → Type 0} {xs ys day : List X} → Woven xs ys day → Pairs R xs → Pairs R ys
      → All (λ x. All (R x) ys) xs → All (λ y. All (R y) xs) ys → Pairs R day
  woven_pairs Woven.none p q a b = Pairs.none
  woven_pairs (Woven.first w) (Pairs.more h p) q (All.more k a) b =
      Pairs.more (all_perm (woven_perm w) (all_append h k)) (woven_pairs w p q a (each (λ y. of_rest) b))
  woven_pairs (Woven.second w) p (Pairs.more h q) a (All.more k b) =
      Pairs.more (all_perm (woven_perm w) (all_append k h)) (woven_pairs w p q (each (λ x. of_rest) a) b)
