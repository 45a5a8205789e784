-- What the writer of departures asks and promises. A place is a train's place in its station's list, from 0.
-- `leaves` says of each place the second at which its train leaves.
use Rattle.std.specs.Prelude.{List, ◌++◌, map, ◌≡◌, ℕ, ◌≤◌, take}
use Rattle.rules.specs.Lists.{count_from}
use Rattle.theory.specs.Permutations.{Perm}

-- the first n places are those of n trains, each once, in any order
pub record Covers (n : ℕ) (places : List ℕ) : Type 0 where
  pub few : n ≤ 48
  pub all : Perm (count_from 0 n) (take n places)

-- the first n times are those of the trains at the first n places
abbrev pub Tells : ℕ → List ℕ → List ℕ → (ℕ → ℕ) → Type 0
Tells n places times leaves = take n times ≡ map leaves (take n places)

-- whenever the times tell how n trains leave, the departures are theirs in list order
unfoldable pub InListOrder : ℕ → List ℕ → List ℕ → List ℕ → Type 0
InListOrder n places times departures = (leaves : ℕ → ℕ) → Tells n places times leaves → departures ≡ map leaves (count_from 0 n)

-- the same of two stations with n and m trains: station 1's departures, then station 2's, each in list order
unfoldable pub BothInListOrder : ℕ → ℕ → List ℕ → List ℕ → List ℕ → List ℕ → List ℕ → Type 0
BothInListOrder n m first second times1 times2 departures =
    (leaves leaves' : ℕ → ℕ) → Tells n first times1 leaves → Tells m second times2 leaves'
    → departures ≡ map leaves (count_from 0 n) ++ map leaves' (count_from 0 m)
