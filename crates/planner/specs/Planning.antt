-- What the planner knows of a call that is not refused, once the stations are in order.
-- `asked_by` is the section that the terms and the two lists make.
use Rattle.std.specs.Prelude.{List, ◌≡◌, ℕ, ℤ}
use Rattle.rules.specs.declared.Station.TheVariants.{One as one, Two as two}
use Rattle.rules.specs.Trains.{Section, asked}
use Rattle.best.proofs.Accepted.{Accepted}
use Rattle.planner.specs.declared.clock.Terms.{Terms}
use Rattle.planner.specs.Day.{terms_of}
use Rattle.planner.specs.Order.{Placed}

abbrev pub asked_by : Terms → List ℤ → List ℤ → Section
asked_by w list list' = asked w.objective w.timing list list'

pub record Planning (w : Terms) (list list' : List ℤ) (first second : List ℕ) : Type 0 where
  pub accepted : Accepted (asked_by w list list')
  pub terms : w ≡ terms_of (asked_by w list list')
  pub first_placed : Placed (asked_by w list list') one first
  pub second_placed : Placed (asked_by w list list') two second
