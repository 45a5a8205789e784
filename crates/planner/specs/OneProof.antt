-- What is known of a day that is planned has one proof at most, so a day can carry it.
use Rattle.std.proofs.Common.{List, refl, ap₂, ℕ, ℤ}
use Rattle.std.proofs.Props.{props}
use Rattle.std.specs.Coded.{Coded-set, codes}
use Rattle.rules.specs.declared.Station.{Station}
use Rattle.rules.specs.Trains.{Section}
use Rattle.theory.specs.Schedule.{All}
use Rattle.planner.specs.declared.clock.Terms.{Terms}
use Rattle.planner.specs.Order.{Placed}
use Rattle.planner.specs.Planning.{Planning}

all_prop : {X : Type 0} {P : X → Type 0} → ((x : X) → IsProp (P x)) → (xs : List X) → IsProp (All P xs)
all_prop each xs All.none All.none = refl
all_prop each xs (All.more p ps) (All.more q qs) = ap₂ All.more (each _ p q) (all_prop each _ ps qs)

station_set : IsSet Station
station_set = Coded-set (hlevel codes)

placed_prop : (S : Section) (s : Station) (places : List ℕ) → IsProp (Placed S s places)
unfolding Placed
placed_prop S s places = hlevel (props, station_set)

pub planning_prop : (w : Terms) (list list' : List ℤ) (first second : List ℕ) → IsProp (Planning w list list' first second)
planning_prop w list list' first second = hlevel (props, all_prop, placed_prop)
