-- A day's next trains, what the tables hold, and what comes of them, of the code's day, next trains and tables.
-- The section is the one that the day's terms and lists make.
use Rattle.std.specs.Prelude.{List, ℕ, ℤ}
use Rattle.rules.specs.declared.Station.{Station}
use Rattle.rules.specs.Trains.{Section}
use Rattle.planner.specs.declared.clock.Clock.{Clock}
use Rattle.planner.specs.declared.clock.Terms.{Terms}
use Rattle.planner.specs.declared.day.Day.{Day}
use Rattle.planner.specs.declared.next.Next.{Next}
use Rattle.planner.specs.declared.rests.Rests.{Rests}
use Rattle.planner.specs.Clock.{by_station}
use Rattle.planner.specs.Trains.{next_figures}
use Rattle.planner.specs.Rests.{best_by, Chooses}
use Rattle.planner.specs.Cells.{rate, Rates, Changes}
use Rattle.planner.specs.Day.{Tables}
use Rattle.planner.specs.Planning.{asked_by}

abbrev pub section_of : Day → Section
section_of d = asked_by d.terms d.one.list.now d.two.list.now

-- the figures of a station's next train where so many are left; none where none is
abbrev pub next_at : Day → Station → ℕ → List ℤ
next_at d s n =
    next_figures d.terms.objective (by_station s d.one.list.now d.two.list.now)
    (by_station s d.one.places d.two.places) (by_station s d.terms.ones d.terms.twos) n

-- the tables are filled up to a place
abbrev pub Filled : Day → Rests → ℕ → Type 0
Filled d r place = Tables (section_of d) r.counts.now r.changes.now place

-- the best of the rest from a clock
abbrev pub best_from : Terms → Clock → Next → Rests → ℤ
best_from w c n r = best_by w c n.one.now n.two.now r.counts.now r.changes.now

abbrev pub CanChoose : Terms → Clock → Next → Rests → Type 0
CanChoose w c n r = Chooses w c n.one.now n.two.now r.counts.now r.changes.now

-- how the best of the rest rises with the second, where so many trains are left
abbrev pub rate_from : ℕ → Next → ℕ → ℕ → Rests → ℤ
rate_from objective n ones twos r = rate objective n.one.now n.two.now ones twos r.counts.now

abbrev pub CanRate : ℕ → Next → ℕ → ℕ → Rests → Type 0
CanRate objective n ones twos r = Rates objective n.one.now n.two.now ones twos r.counts.now

-- a cell by the changes of station can be made
abbrev pub CanChange : Terms → Next → ℕ → ℕ → Rests → Type 0
CanChange w n ones twos r = Changes w n.one.now n.two.now ones twos r.counts.now r.changes.now
