-- Schedules: runs, a train with its departure each; the schedule of an order without waiting; what a schedule is worth.
-- A clock says for each train the earliest second at which it may leave next.
use Rattle.std.specs.Prelude.{ℕ, ◌+◌, ◌≤◌, max, List, [], ◌∷◌, map}
use Rattle.theory.specs.Line.{Line}

abbrev pub Run : Type 0 → Type 0
Run X = record { train : X; departure : ℕ }

abbrev pub trains : {X : Type 0} → List (Run X) → List X
trains rs = map (λ r. r.train) rs

abbrev pub departures : {X : Type 0} → List (Run X) → List ℕ
departures rs = map (λ r. r.departure) rs

-- a fact of each element, and a fact of each pair, an earlier element with a later one
pub data All {X : Type 0} (P : X → Type 0) : List X → Type 0 where
  none : All P []
  more : {x : X} {xs : List X} → P x → All P xs → All P (x ∷ xs)

pub data Pairs {X : Type 0} (R : X → X → Type 0) : List X → Type 0 where
  none : Pairs R []
  more : {x : X} {xs : List X} → All (R x) xs → Pairs R xs → Pairs R (x ∷ xs)

module _ (L : Line) where
  open L use {values, Train, gap, early, cost}
  open values use {Val, ◌⊙◌, none as nothing}

  abbrev pub Clock : Type 0
  Clock = Train → ℕ

  -- once a train has left at a second, the others wait for their gap, and for their own earliest second
  abbrev pub after : Train → ℕ → Clock
  after x d = λ y. max (early y) (d + gap x y)

  -- trains in the order in which they leave, each as early as the clock allows
  abbrev pub leave : Clock → List Train → List (Run Train)
  leave clock [] = []
  leave clock (x ∷ xs) = record { train = x; departure = clock x } ∷ leave (after x (clock x)) xs

  abbrev pub worth : List (Run Train) → Val
  worth [] = nothing
  worth (r ∷ rs) = cost r.train r.departure ⊙ worth rs

  -- the first run leaves, and the second no earlier than the gap after it
  pub record Leaves (r s : Run Train) : Type 0 where
    pub waits : r.departure + gap r.train s.train ≤ s.departure

  pub data Apart (r s : Run Train) : Type 0 where
    first : Leaves r s → Apart r s
    second : Leaves s r → Apart r s
