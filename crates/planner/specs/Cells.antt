-- The cells of the tables, by what is chosen from the clocks that a cell stands for.
-- A cell of `counts` stands for two clocks at second 0, one of `changes` for two at each number of changes of station.
use Rattle.std.specs.Prelude.{cond, List, [], ◌∷◌, ◌≡◌, ℕ, ◌+◌, ◌-◌, ◌*◌, ◌≤◌, ◌<◌, T, eqb, ℤ, pos, ◌-ℤ◌, get_or}
use Rattle.std.specs.Int.{w64}
use Rattle.std.proofs.Common.{SFits}
use Rattle.rules.specs.declared.Timing.{Timing}
use Rattle.rules.specs.declared.Station.{Station}
use Rattle.rules.specs.declared.Station.TheVariants.{One as one, Two as two}
use Rattle.rules.specs.Line.{good_timing, gap}
use Rattle.rules.specs.Objectives.{Objective, aim_of}
use Rattle.planner.specs.declared.clock.Terms.{Terms}
use Rattle.planner.specs.Clock.{cell_clock}
use Rattle.planner.specs.Rests.{Counts, Rows, rise_at, side, Chooses}

-- what a train costs more for a second later, and what trains together do
unfoldable pub slope : Objective → List ℤ → ℤ
slope O x = O.cost x 1 -ℤ O.cost x 0

abbrev pub rises : Objective → List (List ℤ) → ℤ
rises O [] = pos 0
rises O (x ∷ xs) = O.joined (slope O x) (rises O xs)

pub record Slopes (objective : ℕ) (x : List ℤ) : Type 0 where
  pub fits : SFits w64 (slope (aim_of objective) x)

unfoldable pub rate : ℕ → List ℤ → List ℤ → ℕ → ℕ → Counts → ℤ
rate objective x y ones twos counts =
    cond (eqb ones 0)
    (cond (eqb twos 0) (pos 0) ((aim_of objective).joined (slope (aim_of objective) y) (rise_at counts ones (twos - 1))))
    ((aim_of objective).joined (slope (aim_of objective) x) (rise_at counts (ones - 1) twos))

pub record Rates (objective : ℕ) (x y : List ℤ) (ones twos : ℕ) (counts : Counts) : Type 0 where
  pub ones_few : ones ≤ 48
  pub twos_few : twos ≤ 48
  pub first : 0 < ones → Slopes objective x
  pub second : 0 < twos → Slopes objective y
  pub fits : SFits w64 (rate objective x y ones twos counts)

-- a value after station 1's train, and one after station 2's; and a cell that begins with n such pairs
unfoldable pub Pair : (Station → ℤ) → List ℤ → Type 0
Pair value pair = (s : Station) → get_or pair (side s) (pos 0) ≡ value s

unfoldable pub Pairs : ℕ → (ℕ → Station → ℤ) → List (List ℤ) → Type 0
Pairs n value cell = (k : ℕ) → k < n → Pair (value k) (get_or cell k [])

-- how many trains are gone
unfoldable pub gone_of : Terms → ℕ → ℕ → ℕ
gone_of w ones twos = w.ones + w.twos - (ones + twos)

-- the departure of the last of so many trains, with so many changes of station among them
unfoldable pub seconds : Timing → ℕ → ℕ → ℕ
seconds t changes gone = changes * gap t one two + (gone - 1 - changes) * gap t one one

pub record Changes (w : Terms) (x y : List ℤ) (ones twos : ℕ) (counts : Counts) (changes : Rows) : Type 0 where
  pub timed : T (good_timing w.timing)
  pub all_few : w.ones + w.twos ≤ 24
  pub few : ones + twos ≤ w.ones + w.twos
  pub chooses : (k : ℕ) → k < gone_of w ones twos → (s : Station)
      → Chooses w (cell_clock s (seconds w.timing k (gone_of w ones twos)) k ones twos) x y counts changes
