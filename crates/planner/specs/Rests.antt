-- How the best of the rest comes of the tables: what they hold for a clock, and the choice between the two next trains.
-- That this is the theory's best of the rest, where the tables hold it of every smaller rest, is shown in proofs/.
use Rattle.std.specs.Prelude.{true, false, cond, Option, None, Some, IsSome, List, [], ◌≡◌, ℕ, ◌≤◌, ◌<◌, T, eqb, ℤ, pos, ◌+ℤ◌, ◌*ℤ◌, get_or}
use Rattle.std.specs.Int.Signed.{le_z, mag}
use Rattle.std.specs.Int.{w64}
use Rattle.std.proofs.Common.{SFits}
use Rattle.rules.specs.declared.Station.{Station}
use Rattle.rules.specs.declared.Station.TheVariants.{One as one, Two as two}
use Rattle.rules.specs.Figures.{within}
use Rattle.rules.specs.Objectives.{aim_of}
use Rattle.planner.specs.declared.clock.Clock.{Clock}
use Rattle.planner.specs.declared.clock.Departure.{Departure}
use Rattle.planner.specs.declared.clock.Terms.{Terms}
use Rattle.planner.specs.declared.rests.Rising.{Rising}
use Rattle.planner.specs.Clock.{by_station, second_of, Near, alone}

-- by trains left at station 1, then at station 2, a cell each
abbrev pub Table : Type 0 → Type 0
Table Cell = List (List Cell)

unfoldable pub entry : {Cell : Type 0} → Cell → Table Cell → ℕ → ℕ → Cell
entry none table ones twos = get_or (get_or table ones []) twos none

-- after a train of station 1, or of station 2
abbrev pub side : Station → ℕ
side one = 0
side two = 1

-- for objectives 1 and 2: the best from second 0 after a station's train, and how it rises with the second
abbrev pub Counts : Type 0
Counts = Table Rising

abbrev pub counted : Counts → ℕ → ℕ → Rising
counted = entry (record { best = []; rise = pos 0 })

abbrev pub best_at : Counts → ℕ → ℕ → Station → ℤ
best_at counts ones twos s = get_or (counted counts ones twos).best (side s) (pos 0)

abbrev pub rise_at : Counts → ℕ → ℕ → ℤ
rise_at counts ones twos = (counted counts ones twos).rise

-- for objectives 3 and 4, which have rows: the best after a station's train, for each number of changes of station
abbrev pub Rows : Type 0
Rows = Table (List (List ℤ))

abbrev pub row_at : Rows → ℕ → ℕ → ℕ → Station → ℤ
row_at changes ones twos k s = get_or (get_or (entry [] changes ones twos) k []) (side s) (pos 0)

-- the best of the rest from a clock, after its last departure: for rows by the changes of station,
-- else the best from second 0, and what the departure adds to it
abbrev pub looked_after : ℕ → Option Departure → Clock → Counts → Rows → ℤ
looked_after objective None c counts changes = pos 0
looked_after objective (Some last) c counts changes =
    cond (aim_of objective).listed (row_at changes c.ones c.twos c.changes last.station)
    (best_at counts c.ones c.twos last.station +ℤ rise_at counts c.ones c.twos *ℤ pos last.second)

unfoldable pub looked_up : ℕ → Clock → Counts → Rows → ℤ
looked_up objective c counts changes = looked_after objective c.last c counts changes

-- a train has left; the tables have the entry, and it is small enough to be counted with
pub record Held (objective : ℕ) (c : Clock) (counts : Counts) (changes : Rows) : Type 0 where
  pub begun : IsSome c.last
  pub ones_few : c.ones ≤ 48
  pub twos_few : c.twos ≤ 48
  pub rows : (aim_of objective).listed ≡ true → (c.ones ≤ 12) × (c.twos ≤ 12) × (c.changes ≤ 23)
  pub soon : second_of c.last ≤ 1010000
  pub rises : (aim_of objective).listed ≡ false → T (within (pos 0) (pos 1000000) (rise_at counts c.ones c.twos))
  pub small : mag (looked_up objective c counts changes) ≤ 10000000000000

-- the value so far with the best of the rest, or alone where nothing is left
unfoldable pub day : ℕ → Clock → ℤ → ℤ
day objective c rest = cond (eqb c.ones 0) (cond (eqb c.twos 0) c.value joined) joined
  where
    joined : ℤ
    joined = (aim_of objective).joined c.value rest

-- what the rest comes to if a station's next train, with these figures, leaves first
unfoldable pub through : Terms → Clock → Station → List ℤ → Counts → Rows → ℤ
through w c s x counts changes =
    let after : Clock = alone w c s x in
    day w.objective after (looked_up w.objective after counts changes)

pub record Sends (w : Terms) (c : Clock) (s : Station) (x : List ℤ) (counts : Counts) (changes : Rows) : Type 0 where
  pub near : Near w.timing c
  pub some : 0 < by_station s c.ones c.twos
  pub held : Held w.objective (alone w c s x) counts changes
  pub fits : SFits w64 (through w c s x counts changes)

-- the smaller of what comes of sending either station's next train
unfoldable pub lesser : ℤ → ℤ → ℤ
lesser a b = cond (le_z a b) a b

unfoldable pub best_by : Terms → Clock → List ℤ → List ℤ → Counts → Rows → ℤ
best_by w c x y counts changes =
    cond (eqb c.ones 0) (cond (eqb c.twos 0) (pos 0) second) (cond (eqb c.twos 0) first (lesser first second))
  where
    first : ℤ
    first = through w c one x counts changes

    second : ℤ
    second = through w c two y counts changes

pub record Chooses (w : Terms) (c : Clock) (x y : List ℤ) (counts : Counts) (changes : Rows) : Type 0 where
  pub first : 0 < c.ones → Sends w c one x counts changes
  pub second : 0 < c.twos → Sends w c two y counts changes
