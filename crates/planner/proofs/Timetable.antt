-- The timetable as it is written: the departures so far, and those of the runs that are left, are the whole day's.
use Rattle.std.proofs.Common.{true, false, List, ◌∷◌, ◌++◌, append-nil, ◌≡◌, refl, sym, ◌∙◌, ap, ℕ, suc, ◌+◌, ◌-◌, ◌≤◌, ◌<◌, arith, ℤ, length, take, set, length-set, take-suc-set}
use lib.Seq.{append_snoc}
use Rattle.std.proofs.lemmas.Option.{none-some}
use Rattle.rules.specs.declared.Station.{Station}
use Rattle.rules.specs.declared.Station.TheVariants.{One as one, Two as two}
use Rattle.rules.specs.Line.{same_station}
use Rattle.rules.specs.Trains.{Section, count_at, Run}
use Rattle.best.proofs.Accepted.{Accepted}
use Rattle.planner.specs.declared.clock.Clock.{Clock}
use Rattle.planner.specs.declared.day.Day.{Day}
use Rattle.planner.specs.Clock.{by_station, departs, start, alone, next}
use Rattle.planner.specs.Day.{next_of, goes_on, Running}
use Rattle.planner.specs.Walk.{goes, step, runs_left, times, Counted, Walks}
use Rattle.planner.specs.Filled.{section_of}
use Rattle.planner.proofs.Small.{one_fewer}
use Rattle.planner.proofs.Underway.{on_running}
use Rattle.planner.proofs.Entries.{count_few}
use Rattle.planner.proofs.Placing.{ones_are, twos_are}
use Rattle.planner.proofs.Stepping.{some_left, no_runs, here, step_runs}
use Rattle.planner.proofs.Strides.{on_counted, start_running}

same_self : (s : Station) → same_station s s ≡ true
same_self one = refl
same_self two = refl

-- a station's times begin with the departure of its own train, and pass over the other station's
times_own : (s : Station) (r : Run) (rs : List Run) → r.train.station ≡ s → times s (r ∷ rs) ≡ r.departure ∷ times s rs
unfolding times
times_own s r rs e = rw (e, same_self)

times_other : (s : Station) (r : Run) (rs : List Run) → same_station s r.train.station ≡ false → times s (r ∷ rs) ≡ times s rs
unfolding times
times_other s r rs e = rw e

-- one time more is written, and one less is left
written : (xs : List ℕ) (k d : ℕ) (ds : List ℕ) → k < length xs → take (suc k) (set xs k d) ++ ds ≡ take k xs ++ (d ∷ ds)
written xs k d ds inside = ap (λ ys. ys ++ ds) (take-suc-set xs k d inside) ∙ append_snoc (take k xs) d ds

-- an array has a station's times so far, where so many of its trains are left
abbrev Written : Section → ℤ → Clock → Station → ℕ → List ℕ → Type 0
Written S goal c s n xs =
    take (count_at S s - n) xs ++ times s (runs_left S goal c) ≡ times s (runs_left S goal (start (count_at S one) (count_at S two)))

-- both arrays do, from a clock on its way
pub record Noted (S : Section) (goal : ℤ) (c : Clock) (ones twos : List ℕ) : Type 0 where
  pub running : Running S c
  pub counted : Counted S c
  pub long : length ones ≡ 48
  pub long' : length twos ≡ 48
  pub first : Written S goal c one c.ones ones
  pub second : Written S goal c two c.twos twos

module _ (S : Section) (A : Accepted S) (goal : ℤ) where
  module _ (c : Clock) (R : Running S c) (some : 0 < c.ones + c.twos) where
    -- the station whose train leaves, and when
    abbrev from : Station
    from = goes S goal c

    abbrev second : ℕ
    second = departs S.timing c from

    abbrev c' : Clock
    c' = step S goal c

    has : 0 < by_station from c.ones c.twos
    has = some_left S goal c some

    -- the next run is that of the train which leaves
    times_sent : (s : Station) → from ≡ s → times s (runs_left S goal c) ≡ second ∷ times s (runs_left S goal c')
    times_sent s e =
        ap (times s) (step_runs S goal c R.ones_few R.twos_few some)
        ∙ times_own s _ _ (here S goal c R.ones_few R.twos_few from has ∙ e)

    times_stay : (s : Station) → same_station s from ≡ false → times s (runs_left S goal c) ≡ times s (runs_left S goal c')
    times_stay s e =
        ap (times s) (step_runs S goal c R.ones_few R.twos_few some)
        ∙ times_other s _ _ (ap (same_station s) (here S goal c R.ones_few R.twos_few from has) ∙ e)

    -- how many trains are then left
    one_gone : from ≡ one → (suc c'.ones ≡ c.ones) × (c'.twos ≡ c.twos)
    unfolding step next alone
    one_gone e = let some_one : 0 < c.ones = rw e at has in rw e (omega arith, omega arith)

    two_gone : from ≡ two → (c'.ones ≡ c.ones) × (suc c'.twos ≡ c.twos)
    unfolding step next alone
    two_gone e = let some_two : 0 < c.twos = rw e at has in rw e (omega arith, omega arith)

    -- the station's departure goes into its array, and the other's array stays
    module _ (s : Station) (n n' : ℕ) (xs : List ℕ) (so_far : Written S goal c s n xs) where
      writes : from ≡ s → suc n' ≡ n → n ≤ count_at S s → count_at S s ≤ length xs → Written S goal c' s n' (set xs (count_at S s - n) second)
      writes e fewer few long =
          let after : count_at S s - n' ≡ suc (count_at S s - n) = omega arith in
          let inside : count_at S s - n < length xs = omega arith in
          rw (after, written xs (count_at S s - n) second _ inside, ← times_sent s e) so_far

      stays : same_station s from ≡ false → n' ≡ n → Written S goal c' s n' xs
      stays e same = rw (same, ← times_stay s e) so_far

  module _ (c : Clock) (ones twos : List ℕ) (N : Noted S goal c ones twos) (some : 0 < c.ones + c.twos) where
    R : Running S c
    R = N.running

    on : Running S (step S goal c)
    unfolding step
    on = on_running S A.timed c R (goes S goal c) (has c R some) (next_of S c (goes S goal c)).figures

    counted_on : Counted S (step S goal c)
    unfolding step
    counted_on = on_counted S A c R N.counted (goes S goal c) (has c R some)

    notes_one : goes S goal c ≡ one → Noted S goal (step S goal c) (set ones (count_at S one - c.ones) (second c R some)) twos
    notes_one e =
        let (fewer, same) = one_gone c R some e in
        record {
          running = on;
          counted = counted_on;
          long = length-set ones _ _ ∙ N.long;
          long' = N.long';
          first = writes c R some one c.ones _ ones N.first e fewer R.ones_few (omega (arith, N.long, count_few S A one));
          second = stays c R some two c.twos _ twos N.second (ap (same_station two) e) same;
        }

    notes_two : goes S goal c ≡ two → Noted S goal (step S goal c) ones (set twos (count_at S two - c.twos) (second c R some))
    notes_two e =
        let (same, fewer) = two_gone c R some e in
        record {
          running = on;
          counted = counted_on;
          long = N.long;
          long' = length-set twos _ _ ∙ N.long';
          first = stays c R some one c.ones _ ones N.first (ap (same_station one) e) same;
          second = writes c R some two c.twos _ twos N.second e fewer R.twos_few (omega (arith, N.long', count_few S A two));
        }

  -- at the end all are written
  pub noted_all : (c : Clock) (ones twos : List ℕ) → Noted S goal c ones twos → c.ones + c.twos ≤ 0 → Walks S goal ones twos
  unfolding times
  noted_all c ones twos N none =
      record { first = all one c.ones ones N.first (omega arith); second = all two c.twos twos N.second (omega arith) }
    where
      all : (s : Station) (n : ℕ) (xs : List ℕ) → Written S goal c s n xs → n ≡ 0
          → take (count_at S s) xs ≡ times s (runs_left S goal (start (count_at S one) (count_at S two)))
      all s n xs so_far e =
          let done : count_at S s - n ≡ count_at S s = omega arith in
          sym (append-nil (take (count_at S s) xs)) ∙ rw (done, no_runs S goal c (omega arith) (omega arith)) at so_far

-- the same of a call, by its day
module _ (d : Day) (goal : ℤ) where
  abbrev S : Section
  S = section_of d

  ones_same : d.terms.ones ≡ count_at S one
  ones_same = ones_are _ _ _ _ _ d.planned

  twos_same : d.terms.twos ≡ count_at S two
  twos_same = twos_are _ _ _ _ _ d.planned

  -- before the first train nothing is written
  pub noted_none : (ones twos : List ℕ) → length ones ≡ 48 → length twos ≡ 48 → Noted S goal (start d.terms.ones d.terms.twos) ones twos
  unfolding start
  noted_none ones twos long long' =
      record {
        running = start_running d;
        counted = record { small = λ _ e. absurd (none-some _ e) };
        long = long;
        long' = long';
        first = none one d.terms.ones ones ones_same;
        second = none two d.terms.twos twos twos_same;
      }
    where
      none : (s : Station) (n : ℕ) (xs : List ℕ) → n ≡ count_at S s → Written S goal (start d.terms.ones d.terms.twos) s n xs
      none s n xs e =
          let empty : count_at S s - n ≡ 0 = omega arith in
          rw (empty, ones_same, twos_same)

  -- from a station whose next train leaves: how many are left, and its place in the station's array
  module _ {c : Clock} {ones twos : List ℕ} (N : Noted S goal c ones twos) (some : 0 < c.ones + c.twos) {s : Station} (chosen : s ≡ goes S goal c) where
    left : 0 < by_station s c.ones c.twos
    left = rw chosen (has S d.planned.accepted goal c N.running some)

    pub one_placed : s ≡ one → (c.ones ≤ d.terms.ones) × (d.terms.ones - c.ones < 48)
    one_placed e =
        let has_one : 0 < c.ones = rw e at left in
        (omega (arith, N.running.ones_few, ones_same), omega (arith, N.running.ones_few, ones_same, count_few S d.planned.accepted one))

    pub two_placed : s ≡ two → (c.twos ≤ d.terms.twos) × (d.terms.twos - c.twos < 48)
    two_placed e =
        let has_two : 0 < c.twos = rw e at left in
        (omega (arith, N.running.twos_few, twos_same), omega (arith, N.running.twos_few, twos_same, count_few S d.planned.accepted two))

    module _ {c' : Clock} (gone : c' ≡ goes_on S c s) where
      stepped : c' ≡ step S goal c
      unfolding step
      stepped = gone ∙ ap (goes_on S c) chosen

      pub step_fewer : c'.ones + c'.twos < c.ones + c.twos
      unfolding next
      step_fewer =
          rw gone (omega (arith, one_fewer S d.planned.accepted.timed d.planned.accepted.good c (next_of S c s).figures s left))

      -- its departure is written there
      module _ {second : ℕ} (e : second ≡ departs S.timing c s) where
        pub one_noted : s ≡ one → Noted S goal c' (set ones (d.terms.ones - c.ones) second) twos
        one_noted is_one = rw (stepped, ones_same, e, chosen) (notes_one S d.planned.accepted goal c ones twos N some (sym chosen ∙ is_one))

        pub two_noted : s ≡ two → Noted S goal c' ones (set twos (d.terms.twos - c.twos) second)
        two_noted is_two = rw (stepped, twos_same, e, chosen) (notes_two S d.planned.accepted goal c ones twos N some (sym chosen ∙ is_two))
