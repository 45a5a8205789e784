-- Every place is one of the list's, each turn writes one departure more, and the last turn leaves all of them written.
use Rattle.std.proofs.Common.{List, ◌≡◌, ◌∙◌, ℕ, ◌<◌, arith, length, get_or, take, length-append, get_or-take, rules, length-take-le}
use Rattle.std.proofs.lemmas.Slice.Zip.{zip_turn, zip_end}
use Rattle.planner.proofs.Places.{starts, inside, turns, ends}
use Rattle.planner.proofs.writer.write.Goals as goal

pub loop-place-init : goal.loop-place-init
loop-place-init c = starts _ _ _ _

-- the place and the time of a turn
record Turn (n k : ℕ) (places times : List ℕ) (place time : ℕ) : Type 0 where
  pub early : k < n
  pub place_is : place ≡ get_or places k 0
  pub time_is : time ≡ get_or times k 0

turn : (c : goal.After-row_known-in-loop-place-1) → Turn (length c.args.departures.now) (length c.loop-place.yielded) c.args.places.now c.args.times.now c.in-Some.place.now c.in-Some.time.now
turn c =
    let n : ℕ = length c.args.departures.now in
    let places : List ℕ = c.args.places.now in
    let t = zip_turn (take n places) c.args.times.now c.loop-place.yielded _ c.loop-place.place-iterator c.next.new.self _ (search rules) (search rules)
    c.loop-place.yielded_by (c.in-Some.place, c.in-Some.time) c.in-Some.is c.next.ensures.steps in
    let early : length c.loop-place.yielded < n = omega (arith, t.0, length-take-le n places (omega (arith, c.requires.few))) in
    record { early = early; place_is = t.2 0 ∙ get_or-take n places _ 0 early; time_is = t.3 0 }

pub offset_bounds-departures-place : goal.offset_bounds-departures-place
offset_bounds-departures-place c =
    let t = turn c in
    record { fits = rw t.place_is (omega (arith, inside c.requires _ t.early, c.requires.few)) }

pub bounds-departures-place : goal.bounds-departures-place
bounds-departures-place c =
    let t = turn c in
    rw (t.place_is, c.loop-place.auto.departures) (inside c.requires _ t.early)

pub loop-place-preserved : goal.loop-place-preserved
loop-place-preserved c =
    let t = turn c in
    rw (t.place_is, t.time_is, length-append) (turns c.requires _ _ c.loop-place.auto.departures _ t.early c.loop-place.invariant)

pub returns : goal.returns
returns c =
    let n : ℕ = length c.args.departures.now in
    let places : List ℕ = c.args.places.now in
    let done = zip_end (take n places) c.args.times.now c.loop-place.yielded _ c.loop-place.place-iterator c.next.new.self _ (search rules) (search rules)
    c.loop-place.yielded_by c.in-None.is c.next.ensures.steps in
    let all : length c.loop-place.yielded ≡ n = omega (arith, done, c.requires.few, length-take-le n places (omega (arith, c.requires.few))) in
    ends c.requires _ _ c.loop-place.auto.departures (rw all at c.loop-place.invariant)
