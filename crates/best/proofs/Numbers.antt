-- Trains by number: a section's trains stand in the order of their numbers, from 0, with none left out.
-- So departures written in that order are read back by number.
use mathlib.Core.List.{List, [], ◌∷◌, ◌++◌, map, map-map, map-id, map-append, append_assoc, head-eq_of_cons-eq, tail-eq_of_cons-eq}
use mathlib.Core.Path.{◌≡◌, refl, ◌∙◌, ap}
use Prim.Native.Nat.{ℕ, zero, suc, ◌+◌, ◌<◌, ◌≤◌, zero-le}
use native.Mathlib.Nat.{zero-add, add-zero, suc-add, add-suc}
use native.Mathlib.Numerals.{add-one}
use native.Mathlib.Omega.{arith}
use lib.ListN.{length, get_or, length-map, length-append}
use lib.Seq.{get_or_at}
use Rattle.rules.specs.Lists.{count_from}
use Rattle.rules.specs.declared.Station.{Station}
use Rattle.rules.specs.declared.Station.TheVariants.{One as one, Two as two}
use Rattle.rules.specs.Trains.{Section, count_at, count, Train, first_number, train_at, trains_at, trains, Run, runs}
use Rattle.rules.proofs.Trains.{count_on, count_past}
use Rattle.theory.specs.Schedule.{All, Pairs}
use Rattle.theory.proofs.Facts.{pairs_split, pairs_unmapped}

pub length_count : (k n : ℕ) → length (count_from k n) ≡ n
length_count k zero = refl
length_count k (suc n) = ap suc (length_count (suc k) n)

all_past : (k j n : ℕ) → k < j → All (λ i. k < i) (count_from j n)
all_past k j zero h = All.none
all_past k j (suc n) h = All.more h (all_past k (suc j) n (omega arith))

ascending : (k n : ℕ) → Pairs ◌<◌ (count_from k n)
ascending k zero = Pairs.none
ascending k (suc n) = Pairs.more (all_past k (suc k) n (omega arith)) (ascending (suc k) n)

-- a train that leaves at the second that a function gives it
abbrev pub leaving_at : (Train → ℕ) → Train → Run
leaving_at f x = record { train = x; departure = f x }

-- trains numbered in a row, from the length of ps: what is written for each after ps is read by its number
read_back : (f : Train → ℕ) (ps : List ℕ) (xs : List Train) → map (λ x. x.number) xs ≡ count_from (length ps) (length xs)
    → map (leaving_at (λ x. get_or (ps ++ map f xs) x.number 0)) xs ≡ map (leaving_at f) xs
read_back f ps [] e = refl
read_back f ps (x ∷ xs) e =
    let rest = read_back f (ps ++ (f x ∷ [])) xs (rw (length-append, add-one) (cc)) in
    rw (get_or_at ps (f x) (map f xs) 0 x.number (cc), rw append_assoc at rest)

-- trains numbered in a row from j: what bounds a number's second bounds what is written for it
written_below : (f : Train → ℕ) (ds : List ℕ) (xs : List Train) (j : ℕ) → map (λ x. x.number) xs ≡ count_from j (length xs)
    → All (λ x. f x ≤ get_or ds x.number 0) xs → (k : ℕ) → get_or (map f xs) k 0 ≤ get_or ds (j + k) 0
written_below f ds [] j e a k = zero-le
written_below f ds (x ∷ xs) j e (All.more h a) zero = rw (add-zero, ← head-eq_of_cons-eq e) h
written_below f ds (x ∷ xs) j e (All.more h a) (suc k) =
    rw (add-suc, ← suc-add) (written_below f ds xs (suc j) (tail-eq_of_cons-eq e) a k)

module _ (S : Section) where
  numbered_at : (s : Station) → map (λ x. x.number) (trains_at S s) ≡ count_from (first_number S s) (count_at S s)
  unfolding trains_at train_at
  numbered_at s = rw (map-map, count_past (first_number S s), add-zero)

  pub numbered : map (λ x. x.number) (trains S) ≡ count_from 0 (count S)
  unfolding trains count
  numbered = rw (map-append, numbered_at one, numbered_at two) (rw zero-add at (count_on 0 (count_at S one) (count_at S two)))

  pub trains_count_at : (s : Station) → length (trains_at S s) ≡ count_at S s
  unfolding trains_at
  trains_count_at s = rw (length-map, length_count)

  pub trains_count : length (trains S) ≡ count S
  unfolding trains count
  trains_count = rw (length-append, trains_count_at one, trains_count_at two)

  stationed : (s : Station) (ks : List ℕ) → All (λ x. x.station ≡ s) (map (train_at S s) ks)
  unfolding train_at
  stationed s [] = All.none
  stationed s (k ∷ ks) = All.more refl (stationed s ks)

  pub trains_station : (s : Station) → All (λ x. x.station ≡ s) (trains_at S s)
  unfolding trains_at
  trains_station s = stationed s (count_from 0 (count_at S s))

  -- a smaller number comes first
  pub rising : Pairs (λ x y. x.number < y.number) (trains S)
  rising = pairs_unmapped (λ x. x.number) (trains S) (rw numbered (ascending 0 (count S)))

  pub rising_at : (s : Station) → Pairs (λ x y. x.number < y.number) (trains_at S s)
  unfolding trains
  rising_at one = (pairs_split (trains_at S one) rising).0
  rising_at two = (pairs_split (trains_at S one) rising).1

  pub runs_set : (f : Train → ℕ) → runs S (map f (trains S)) ≡ map (leaving_at f) (trains S)
  unfolding runs
  runs_set f = read_back f [] (trains S) (rw trains_count numbered)

  pub runs_trains : (departures : List ℕ) → map (λ r. r.train) (runs S departures) ≡ trains S
  unfolding runs
  runs_trains departures = rw map-map (map-id (trains S))

  pub runs_count : (departures : List ℕ) → length (runs S departures) ≡ count S
  unfolding runs
  runs_count departures = length-map (trains S) _ ∙ trains_count

  pub runs_rising : (departures : List ℕ) → Pairs (λ r s. r.train.number < s.train.number) (runs S departures)
  runs_rising departures = pairs_unmapped (λ r. r.train) (runs S departures) (rw (runs_trains departures) rising)

  pub by_place : (f : Train → ℕ) (departures : List ℕ) → All (λ x. f x ≤ get_or departures x.number 0) (trains S)
      → (k : ℕ) → get_or (map f (trains S)) k 0 ≤ get_or departures k 0
  by_place f departures a k = rw zero-add at (written_below f departures (trains S) 0 (rw trains_count numbered) a k)
