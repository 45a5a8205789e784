-- A section's trains by number: the k-th is station 1's k-th, or station 2's from station 1's count on.
-- So what is said of a list of trains, or of runs, can be said number by number.
use mathlib.Core.Bool.{Bool, true, false, cond}
use mathlib.Core.List.{List, ◌∷◌, ◌++◌, map, map-map, map-append}
use mathlib.Core.Path.{◌≡◌, refl, sym, ◌∙◌, ap, ap₂}
use Prim.Native.Nat.{ℕ, zero, suc, ◌+◌, ◌-◌, ◌<◌}
use native.Mathlib.Nat.{zero-add, add-zero, suc-add, add-suc}
use native.Mathlib.Omega.{arith}
use borrow.Author.Tests.{lt-ltb, le-ltb, ltb-false}
use lib.Dec.{ltb}
use lib.ListN.{get_or}
use Rattle.rules.specs.Lists.{count_from}
use Rattle.rules.specs.declared.Station.TheVariants.{One as one, Two as two}
use Rattle.rules.specs.Trains.{Section, count_at, count, Train, train_at, trains_at, trains, runs}

pub count_on : (k n m : ℕ) → count_from k n ++ count_from (k + n) m ≡ count_from k (n + m)
count_on k zero m = rw (add-zero, zero-add)
count_on k (suc n) m = rw (add-suc, suc-add, ← suc-add k, count_on (suc k) n m)

pub count_past : (a k n : ℕ) → map (λ i. a + i) (count_from k n) ≡ count_from (a + k) n
count_past a k zero = refl
count_past a k (suc n) = rw (← add-suc, count_past a (suc k) n)

-- two functions that agree on the numbers make the same list of them
map_below : {A : Type 0} (f g : ℕ → A) (k n : ℕ) → ((i : ℕ) → i < k + n → f i ≡ g i) → map f (count_from k n) ≡ map g (count_from k n)
map_below f g k zero h = refl
map_below f g k (suc n) h =
    ap₂ ◌∷◌ (h k (omega arith)) (map_below f g (suc k) n (λ i l. h i (omega arith)))

module _ (S : Section) where
  unfoldable pub nth : ℕ → Train
  nth k = cond (ltb k (count_at S one)) (train_at S one k) (train_at S two (k - count_at S one))

  pub nth_one : (k : ℕ) → k < count_at S one → nth k ≡ train_at S one k
  unfolding nth
  nth_one k h = rw (lt-ltb k (count_at S one) h)

  pub nth_two : (k : ℕ) → nth (count_at S one + k) ≡ train_at S two k
  unfolding nth
  nth_two k =
      let past : count_at S one + k - count_at S one ≡ k = omega arith in
      rw (le-ltb (count_at S one + k) (count_at S one) (omega arith), past)

  pub trains_nth : trains S ≡ map nth (count_from 0 (count S))
  unfolding trains trains_at count
  trains_nth =
      let n = count_at S one in
      let m = count_at S two in
      ap₂ ◌++◌
      (map_below (train_at S one) nth 0 n (λ i l. sym (nth_one i (omega arith))))
      (map_below (train_at S two) (λ i. nth (n + i)) 0 m (λ i l. sym (nth_two i)) ∙ sym (map-map nth (λ i. n + i) (count_from 0 m)))
      ∙ rw (count_past n 0 m, add-zero, ← map-append, rw zero-add at (count_on 0 n m))

  pub nth_number : (k : ℕ) → (nth k).number ≡ k
  unfolding nth train_at
  nth_number k = by_station (ltb k (count_at S one)) refl
    where
      by_station : (b : Bool) → ltb k (count_at S one) ≡ b → (cond b (train_at S one k) (train_at S two (k - count_at S one))).number ≡ k
      by_station true e = zero-add k
      by_station false e = omega (arith, ltb-false k (count_at S one) e)

  pub runs_nth : (departures : List ℕ)
      → runs S departures ≡ map (λ k. record { train = nth k; departure = get_or departures k 0 }) (count_from 0 (count S))
  unfolding runs
  runs_nth departures =
      ap (map (λ x. record { train = x; departure = get_or departures x.number 0 })) trains_nth
      ∙ map-map _ nth (count_from 0 (count S))
      ∙ map_below _ _ 0 (count S) (λ k l. ap (λ number. record { train = nth k; departure = get_or departures number 0 }) (nth_number k))
