-- Laws of a queue: it holds the trains that joined it, in an order in which each may stand before those after it.
use Prim.Native.Nat.{ℕ, ◌≤◌}
use native.Mathlib.Nat.{le_trans, le_of_lt}
use native.Mathlib.Omega.{arith}
use mathlib.Core.Path.{◌≡◌, refl, sym, ◌∙◌, ap}
use mathlib.Core.Bool.{Bool}
use mathlib.Core.List.{List, [], ◌∷◌, ◌++◌, append-nil, append_assoc}
use lib.Dec.{T, not_T, ltb, ltb→lt, nltb→le}
use Rattle.theory.specs.Schedule.{All, Pairs}
use Rattle.theory.specs.Permutations.{Perm, keep, turn, then}
use Rattle.theory.specs.Queue.{put, join, queue, Before, Ranked, smaller, ascending}
use Rattle.theory.proofs.Choices.{cond_ind}
use Rattle.theory.proofs.Facts.{each, pairs_each, pairs_split}
use Rattle.theory.proofs.Permutations.{perm_same, perm_back, perm_after, perm_into, all_perm}

-- the second list is the first with y at a place where it may stand
pub data Enters {X : Type 0} (R : X → X → Type 0) (y : X) : List X → List X → Type 0 where
  first : {q : List X} → All (R y) q → Enters R y q (y ∷ q)
  later : {x : X} {q p : List X} → R x y → Enters R y q p → Enters R y (x ∷ q) (x ∷ p)

module _ {X : Type 0} (ahead : X → X → Bool) where
  pub put_perm : (y : X) (q : List X) → Perm (y ∷ q) (put ahead y q)
  put_perm y [] = perm_same (y ∷ [])
  put_perm y (x ∷ q) =
      cond_ind (λ p. Perm (y ∷ x ∷ q) p) (ahead y x) (λ t. perm_same (y ∷ x ∷ q)) (λ n. then turn (keep (put_perm y q)))

  join_perm : (q xs : List X) → Perm (xs ++ q) (join ahead q xs)
  join_perm q [] = perm_same q
  join_perm q (x ∷ xs) =
      then (perm_back (perm_into x xs q)) (then (perm_after xs (put_perm x q)) (join_perm (put ahead x q) xs))

  pub queue_perm : (xs : List X) → Perm xs (queue ahead xs)
  queue_perm xs = rw append-nil at (join_perm [] xs)

  put_last : (y : X) {ys q : List X} → All (λ x. All (Before ahead x) (y ∷ ys)) q → put ahead y q ≡ q ++ (y ∷ [])
  put_last y All.none = refl
  put_last y (All.more {x = x} {xs = q} (All.more h b) a) =
      cond_ind (λ p. p ≡ x ∷ (q ++ (y ∷ []))) (ahead y x) (λ t. absurd (h.free t)) (λ n. ap (λ p. x ∷ p) (put_last y a))

  join_kept : (q xs : List X) → Pairs (Before ahead) (q ++ xs) → join ahead q xs ≡ q ++ xs
  join_kept q [] r = sym (append-nil q)
  join_kept q (x ∷ xs) r =
      ap (λ p. join ahead p xs) (put_last x (pairs_split q r).2)
      ∙ join_kept (q ++ (x ∷ [])) xs (rw append_assoc r)
      ∙ append_assoc q (x ∷ []) xs

  pub queue_kept : (xs : List X) → Pairs (Before ahead) xs → queue ahead xs ≡ xs
  queue_kept xs r = join_kept [] xs r

  module _ (K : Ranked ahead) where
    in_front : {y x : X} {q : List X} → T (ahead y x) → All (Before ahead x) q → All (Before ahead y) (x ∷ q)
    in_front t a = All.more (K.leads t) (each (λ z. K.steps (K.leads t)) a)

    pub put_enters : (y : X) {q : List X} → Pairs (Before ahead) q → Enters (Before ahead) y q (put ahead y q)
    put_enters y Pairs.none = first All.none
    put_enters y (Pairs.more {x = x} {xs = q} a r) =
        cond_ind (Enters (Before ahead) y (x ∷ q)) (ahead y x)
        (λ t. first (in_front t a)) (λ n. later (record { free = n }) (put_enters y r))

    pub put_sorted : (y : X) {q : List X} → Pairs (Before ahead) q → Pairs (Before ahead) (put ahead y q)
    put_sorted y Pairs.none = Pairs.more All.none Pairs.none
    put_sorted y (Pairs.more {x = x} {xs = q} a r) =
        cond_ind (Pairs (Before ahead)) (ahead y x) (λ t. Pairs.more (in_front t a) (Pairs.more a r))
        (λ n. Pairs.more (all_perm (put_perm y q) (All.more (record { free = n }) a)) (put_sorted y r))

    join_sorted : {q : List X} (xs : List X) → Pairs (Before ahead) q → Pairs (Before ahead) (join ahead q xs)
    join_sorted [] r = r
    join_sorted {q} (x ∷ xs) r = join_sorted {q = put ahead x q} xs (put_sorted x r)

    pub queue_sorted : (xs : List X) → Pairs (Before ahead) (queue ahead xs)
    queue_sorted xs = join_sorted xs Pairs.none

module _ {X : Type 0} (f : X → ℕ) where
  pub no_larger : {x y : X} → Before (smaller f) x y → f x ≤ f y
  no_larger {x} {y} h = nltb→le (f y) (f x) (not_T (ltb (f y) (f x)) h.free)

  in_order : {x y : X} → f x ≤ f y → Before (smaller f) x y
  in_order h = record { free = λ t. omega (arith, ltb→lt) }

  pub by_number : Ranked (smaller f)
  by_number =
      record {
        steps = λ h k. in_order (le_trans (no_larger h) (no_larger k));
        leads = λ {x} {y} t. in_order (le_of_lt (ltb→lt (f x) (f y) t));
      }

pub ascends : (ds : List ℕ) → Pairs ◌≤◌ (ascending ds)
ascends ds = pairs_each (λ d e. no_larger (λ n. n)) (queue_sorted ltb (by_number (λ n. n)) ds)
