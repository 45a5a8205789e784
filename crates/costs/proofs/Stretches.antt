-- Laws of a stretch, which is some numbers in a row: of what holds along it, and of its first numbers and the rest.
use borrow.Author.Tests.{lt-ltb, le-ltb}
use mathlib.Core.Bool.{Bool, cond, ◌&&◌, and_assoc}
use native.Mathlib.Nat.{zero-add}
use lib.Dec.{ltb}
use mathlib.Core.List.{List, [], ◌∷◌, ◌++◌, map}
use mathlib.Core.Path.{◌≡◌, refl, ap, ◌∙◌}
use Prim.Native.Nat.{ℕ, zero, suc, ◌+◌, ◌-◌, ◌≤◌, ◌<◌, min}
use native.Mathlib.Omega.{arith}
use lib.IntN.{ℤ}
use lib.ListN.{take, drop}
use Rattle.rules.specs.Lists.{every, neighbours, count_from}
use Rattle.rules.specs.Figures.{Step, last_cost}

pub last_cost_append : (c : ℤ) (xs ys : List Step) → last_cost c (xs ++ ys) ≡ last_cost (last_cost c xs) ys
last_cost_append c [] ys = refl
last_cost_append c (s ∷ ss) ys = last_cost_append s.cost ss ys

pub count_last : (k n : ℕ) → count_from k (suc n) ≡ count_from k n ++ ((k + n) ∷ [])
count_last k zero = ap (λ j. j ∷ []) (omega arith)
count_last k (suc n) = ap (λ ks. k ∷ ks) (count_last (suc k) n ∙ ap (λ j. count_from (suc k) n ++ (j ∷ [])) (omega arith))

exchange : (a b c d : Bool) → (a && b) && (c && d) ≡ (a && c) && (b && d)
exchange a b c d = grind arith

module _ {A : Type 0} where
  pub every_map : (p : A → Bool) (f : ℕ → A) (ks : List ℕ) → every p (map f ks) ≡ every (λ k. p (f k)) ks
  every_map p f [] = refl
  every_map p f (k ∷ ks) = rw (every_map p f ks)

  pub every_both : (p q : A → Bool) (xs : List A) → every (λ x. p x && q x) xs ≡ every p xs && every q xs
  every_both p q [] = refl
  every_both p q (x ∷ xs) = rw (every_both p q xs) (exchange (p x) (q x) (every p xs) (every q xs))

  -- neighbours are each number from the second on and the one before it
  pub neighbours_map : (r : A → A → Bool) (f : ℕ → A) (k n : ℕ)
      → neighbours r (map f (count_from k n)) ≡ every (λ j. r (f (j - 1)) (f j)) (count_from (suc k) (n - 1))
  neighbours_map r f k zero = refl
  neighbours_map r f k (suc zero) = refl
  neighbours_map r f k (suc (suc n)) =
      let before : suc k - 1 ≡ k = omega arith in
      let left : suc (suc n) - 1 ≡ suc n = omega arith in
      let next : suc n - 1 ≡ n = omega arith in
      rw (left, before) (ap (λ t. r (f k) (f (suc k)) && t) (rw next at (neighbours_map r f (suc k) (suc n))))

module _ {A : Type 0} (f : ℕ → A) where
  pub take_count : (k n m : ℕ) → take m (map f (count_from k n)) ≡ map f (count_from k (min m n))
  take_count k n zero = let e : min zero n ≡ 0 = omega arith in rw e
  take_count k zero (suc m) = let e : min (suc m) zero ≡ 0 = omega arith in rw e
  take_count k (suc n) (suc m) = let e : min (suc m) (suc n) ≡ suc (min m n) = omega arith in rw e (ap (λ xs. f k ∷ xs) (take_count (suc k) n m))

  pub drop_count : (k n m : ℕ) → drop m (map f (count_from k n)) ≡ map f (count_from (k + min m n) (n - min m n))
  drop_count k n zero =
      let e : k + min zero n ≡ k = omega arith in
      let l : n - min zero n ≡ n = omega arith in
      rw (e, l)
  drop_count k zero (suc m) = let l : zero - min (suc m) zero ≡ 0 = omega arith in rw l
  drop_count k (suc n) (suc m) =
      let e : k + min (suc m) (suc n) ≡ suc k + min m n = omega arith in
      let l : suc n - min (suc m) (suc n) ≡ n - min m n = omega arith in
      rw (e, l) (drop_count (suc k) n m)

-- a test by two others, the one below n and the other from n on
module _ (p q : ℕ → Bool) (n : ℕ) where
  abbrev below : ℕ → Bool
  below k = cond (ltb k n) (p k) (q k)

  every_after : (k j : ℕ) → n ≤ k → every below (count_from k j) ≡ every q (count_from k j)
  every_after k zero h = refl
  every_after k (suc j) h = rw (le-ltb k n h, every_after (suc k) j (omega arith))

  pub every_split : (k i j : ℕ) → k + i ≡ n → every below (count_from k (i + j)) ≡ every p (count_from k i) && every q (count_from n j)
  every_split k zero j e = let here : k ≡ n = omega arith in rw (zero-add j, here) (every_after n j (omega arith))
  every_split k (suc i) j e =
      let longer : suc i + j ≡ suc (i + j) = omega arith in
      let l : k < n = omega arith in
      rw (longer, lt-ltb k n l, every_split (suc k) i j (omega arith), and_assoc)
