-- The refusal numbers, in the order they are tried: a list of all that apply, of which the first is given.
-- Each has its number and its two places; a place is 0 where it names no train.
use Rattle.std.specs.Prelude.{Bool, not, ◌&&◌, ◌||◌, cond, List, [], ◌∷◌, ◌++◌, map, ℕ, ◌%◌, leb, ltb, eqb, length}
use Rattle.rules.specs.Lists.{those}
use Rattle.rules.specs.declared.Station.{Station}
use Rattle.rules.specs.declared.Station.TheVariants.{One as one, Two as two}
use Rattle.rules.specs.Line.{good_timing}
use Rattle.rules.specs.Trains.{Section, aim, list_at, count_at, count, Train, trains, Run, runs}
use Rattle.rules.specs.Safe.{conflicts}

abbrev pub Refusal : Type 0
Refusal = record { number : ℕ; first : ℕ; second : ℕ }

-- a refusal that names no train
unfoldable pub refuse : Bool → ℕ → List Refusal
refuse applies number = cond applies (record { number = number; first = 0; second = 0 } ∷ []) []

-- a refusal that names a train, for each of these
unfoldable pub naming : ℕ → List Train → List Refusal
naming number = map (λ x. record { number = number; first = x.number; second = 0 })

-- a refusal that names two trains, for each of these pairs
unfoldable pub naming_two : ℕ → List (Run × Run) → List Refusal
naming_two number = map (λ pair. record { number = number; first = pair.0.train.number; second = pair.1.train.number })

unfoldable pub known : ℕ → Bool
known n = leb 1 n && leb n 4

unfoldable pub ragged : Section → Station → Bool
ragged S s = not (eqb (length (list_at S s) % (aim S).numbers) 0)

unfoldable pub crowded : Section → Station → Bool
crowded S s = ltb (aim S).most (count_at S s)

-- planner and judge alike: first what the call's numbers and its lists' lengths settle
unfoldable pub call_refusals : Section → List Refusal
call_refusals S =
    refuse (not (known S.objective)) 1 ++
    refuse (not (good_timing S.timing)) 2 ++
    refuse (ragged S one || ragged S two) 3 ++
    refuse (eqb (length S.one) 0 && eqb (length S.two) 0) 4 ++
    refuse (crowded S one || crowded S two) 5

-- then what its trains settle; `places` is the departures' length
unfoldable pub train_refusals : Section → ℕ → List Refusal
train_refusals S places =
    naming 6 (those (λ x. not ((aim S).good x.figures)) (trains S)) ++
    refuse (not (eqb places (count S))) 7

unfoldable pub refusals : Section → ℕ → List Refusal
refusals S places = call_refusals S ++ train_refusals S places

-- the judge: those, and what is wrong with the recorded departures
unfoldable pub judge_refusals : Section → List ℕ → List Refusal
judge_refusals S departures =
    refusals S (length departures) ++
    naming 8 (map (λ r. r.train) (those (λ r. ltb 10000000 r.departure) (runs S departures))) ++
    naming_two 9 (conflicts S departures)
