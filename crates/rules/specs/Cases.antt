-- Sections worked by hand: the cases A to M, then the other small cases and each bound with the number beyond it.
-- The rules are computed on every row. A to M have the page's numbers, the others were worked out by hand; none comes from a run.
use Rattle.std.specs.Prelude.{List, [], ◌∷◌, ◌++◌, map, ◌≡◌, refl, ℕ, ◌*◌, pos, neg_ℤ, length, take, replicate}
use Rattle.std.proofs.Math.Option.{Option, none, some}
use Rattle.rules.specs.Lists.{count_from}
use Rattle.rules.specs.Line.{good_running, good_headway, good_timing, running, arrival, apart}
use Rattle.rules.specs.Figures.{figure, within, is_zero, steps, used, unused, good_row, row_cost}
use Rattle.rules.specs.Objectives.{larger, lateness, weighted, by_rows, aim_of}
use Rattle.rules.specs.Trains.{Section, aim, count_at, count, train_at, trains_at, trains, runs}
use Rattle.rules.specs.Safe.{in_order, keeps, conflicts}
use Rattle.rules.specs.Value.{cost_of, value}
use Rattle.rules.specs.Orders.{station_order, schedule, by_number, departures_of, value_of, best_order, best_value, plan}
use Rattle.rules.specs.Refusals.{refuse, naming, naming_two, known, ragged, crowded, call_refusals, train_refusals, refusals, judge_refusals}
use Rattle.rules.specs.Answers.{Verdict, value_is, refused, planner_answers, planner_leaves, judge_answers}
use Rattle.rules.specs.Sections.{section, on_line, weights, line, due, tabled, eight, row_of, steps_at, free, times, case_I}

-- A row: the section; the recorded departures, or none where it is planned; the departures afterwards; the answer.
pub data Case : Type 0 where
  row : Section → Option (List ℕ) → List ℕ → Verdict → Case

-- what stands in the departures that are lent to the planner
abbrev pub lent : List ℕ → List ℕ
lent departures = replicate (length departures) 99

abbrev pub found : Case → List ℕ × Verdict
found (row S none departures answer) = (planner_leaves S (lent departures), planner_answers S (length departures))
found (row S (some recorded) departures answer) = (recorded, judge_answers S recorded)

abbrev pub expected : Case → List ℕ × Verdict
expected (row S recorded departures answer) = (departures, answer)

abbrev pub Hold : List Case → Type 0
Hold table = map found table ≡ map expected table

unfoldable pub cases : List Case
cases =
    row (weights (5 ∷ []) []) none (0 ∷ []) (value_is (pos 50)) ∷  -- A
    row (weights (1 ∷ 3 ∷ []) []) none (2 ∷ 0 ∷ []) (value_is (pos 42)) ∷  -- B
    row (weights (1 ∷ []) (1 ∷ [])) none (0 ∷ 10 ∷ []) (value_is (pos 30)) ∷  -- C
    row (weights (1 ∷ 1 ∷ []) (5 ∷ [])) none (10 ∷ 12 ∷ 0 ∷ []) (value_is (pos 92)) ∷  -- D
    row (weights (1 ∷ 1 ∷ 1 ∷ 1 ∷ []) (3 ∷ [])) none (10 ∷ 12 ∷ 14 ∷ 16 ∷ 0 ∷ []) (value_is (pos 122)) ∷  -- E
    row (on_line 1 (pos 30 ∷ pos 12 ∷ []) (pos 25 ∷ [])) none (2 ∷ 0 ∷ 12 ∷ []) (value_is (neg_ℤ (pos 2))) ∷  -- F
    row (on_line 1 (pos 0 ∷ pos 100 ∷ []) (pos 50 ∷ [])) none (0 ∷ 2 ∷ 12 ∷ []) (value_is (pos 10)) ∷  -- G
    row (due (neg_ℤ (pos 5))) none (0 ∷ []) (value_is (pos 15)) ∷  -- H
    row (case_I 3 15) none (0 ∷ 10 ∷ []) (value_is (pos 40)) ∷  -- I
    row (weights (1 ∷ []) (1 ∷ [])) (some (0 ∷ 9 ∷ [])) (0 ∷ 9 ∷ []) (refused 9 0 1) ∷  -- J
    row (weights (1 ∷ []) (1 ∷ [])) (some (5 ∷ 15 ∷ [])) (5 ∷ 15 ∷ []) (value_is (pos 40)) ∷  -- K
    row (weights (1 ∷ 3 ∷ []) []) (some (2 ∷ 0 ∷ [])) (2 ∷ 0 ∷ []) (value_is (pos 42)) ∷  -- L
    row (section 2 10 10 (pos 1 ∷ []) (pos 1 ∷ [])) none (99 ∷ 99 ∷ []) (refused 2 0 0) ∷  -- M
    []

unfoldable pub more : List Case
more =
    -- case I with a later start: still 40, then value 0; and its largest cost
    row (case_I 3 20) none (0 ∷ 10 ∷ []) (value_is (pos 40)) ∷
    row (case_I 3 21) none (0 ∷ 10 ∷ []) (value_is (pos 0)) ∷
    row (case_I 4 15) none (0 ∷ 10 ∷ []) (value_is (pos 40)) ∷
    -- two trains that always cost 4: the sum, and the largest
    row (on_line 3 (times 2 (steps_at (0 ∷ []) (4 ∷ []))) []) none (0 ∷ 2 ∷ []) (value_is (pos 8)) ∷
    row (on_line 4 (times 2 (steps_at (0 ∷ []) (4 ∷ []))) []) none (0 ∷ 2 ∷ []) (value_is (pos 4)) ∷
    -- the smaller due time first, where the list has it first
    row (on_line 1 (pos 12 ∷ pos 30 ∷ []) []) none (0 ∷ 2 ∷ []) (value_is (neg_ℤ (pos 2))) ∷
    -- case D with the longer queue first
    row (weights (1 ∷ 1 ∷ []) (5 ∷ [])) (some (0 ∷ 2 ∷ 12 ∷ [])) (0 ∷ 2 ∷ 12 ∷ []) (value_is (pos 132)) ∷
    -- 1: the objective, tried before all else
    row (on_line 0 [] []) none [] (refused 1 0 0) ∷
    row (on_line 5 [] []) none [] (refused 1 0 0) ∷
    -- 2: the timing
    row (line 2 1) none (0 ∷ []) (value_is (pos 10)) ∷
    row (line 1 1) none (99 ∷ []) (refused 2 0 0) ∷
    row (line 10000 9999) none (0 ∷ []) (value_is (pos 50000)) ∷
    row (line 10001 9999) none (99 ∷ []) (refused 2 0 0) ∷
    row (line 10 0) none (99 ∷ []) (refused 2 0 0) ∷
    -- 3: no multiple of 17, at either station
    row (on_line 3 (take 16 free) free) none (99 ∷ []) (refused 3 0 0) ∷
    row (on_line 4 free (pos 0 ∷ free)) none (99 ∷ []) (refused 3 0 0) ∷
    -- 4: both lists empty; one empty list is accepted
    row (weights [] []) none [] (refused 4 0 0) ∷
    row (weights [] (5 ∷ [])) none (0 ∷ []) (value_is (pos 50)) ∷
    -- 6: due times, weights, and the first train that breaks its rule
    row (due (neg_ℤ (pos 1000000))) none (0 ∷ []) (value_is (pos 1000010)) ∷
    row (due (neg_ℤ (pos 1000001))) none (99 ∷ []) (refused 6 0 0) ∷
    row (due (pos 1000000)) none (0 ∷ []) (value_is (neg_ℤ (pos 999990))) ∷
    row (due (pos 1000001)) none (99 ∷ []) (refused 6 0 0) ∷
    row (weights (0 ∷ []) []) none (0 ∷ []) (value_is (pos 0)) ∷
    row (on_line 2 (neg_ℤ (pos 1) ∷ []) []) none (99 ∷ []) (refused 6 0 0) ∷
    row (weights (10000 ∷ []) []) none (0 ∷ []) (value_is (pos 100000)) ∷
    row (weights (10001 ∷ []) []) none (99 ∷ []) (refused 6 0 0) ∷
    row (weights (1 ∷ 10001 ∷ []) (10001 ∷ [])) none (99 ∷ 99 ∷ 99 ∷ []) (refused 6 1 0) ∷
    row (weights (1 ∷ []) (10001 ∷ [])) none (99 ∷ 99 ∷ []) (refused 6 1 0) ∷
    -- 6: a row's step count, starts, costs, and what is unused
    row (tabled (row_of 0 [] [])) none (99 ∷ []) (refused 6 0 0) ∷
    row (tabled (steps_at (count_from 0 8) (count_from 0 8))) none (0 ∷ []) (value_is (pos 7)) ∷
    row (tabled (row_of 9 (count_from 0 8) (count_from 0 8))) none (99 ∷ []) (refused 6 0 0) ∷
    row (tabled (steps_at (1 ∷ []) (0 ∷ []))) none (99 ∷ []) (refused 6 0 0) ∷
    row (tabled (steps_at (0 ∷ 5 ∷ 5 ∷ []) (0 ∷ 1 ∷ 2 ∷ []))) none (99 ∷ []) (refused 6 0 0) ∷
    row (tabled (steps_at (0 ∷ 1000000 ∷ []) (3 ∷ 4 ∷ []))) none (0 ∷ []) (value_is (pos 3)) ∷
    row (tabled (steps_at (0 ∷ 1000001 ∷ []) (3 ∷ 4 ∷ []))) none (99 ∷ []) (refused 6 0 0) ∷
    row (tabled (steps_at (0 ∷ []) (1000000 ∷ []))) none (0 ∷ []) (value_is (pos 1000000)) ∷
    row (tabled (steps_at (0 ∷ []) (1000001 ∷ []))) none (99 ∷ []) (refused 6 0 0) ∷
    row (tabled (pos 1 ∷ eight [] ++ (neg_ℤ (pos 1) ∷ take 7 (eight [])))) none (99 ∷ []) (refused 6 0 0) ∷
    row (tabled (steps_at (0 ∷ 5 ∷ []) (7 ∷ 7 ∷ []))) none (0 ∷ []) (value_is (pos 7)) ∷
    row (tabled (steps_at (0 ∷ 5 ∷ []) (7 ∷ 6 ∷ []))) none (99 ∷ []) (refused 6 0 0) ∷
    row (tabled (row_of 1 (0 ∷ 1 ∷ []) (0 ∷ []))) none (99 ∷ []) (refused 6 0 0) ∷
    row (tabled (row_of 1 (0 ∷ []) (0 ∷ 1 ∷ []))) none (99 ∷ []) (refused 6 0 0) ∷
    -- 7: the departures' length
    row (line 10 2) none [] (refused 7 0 0) ∷
    row (line 10 2) none (99 ∷ 99 ∷ []) (refused 7 0 0) ∷
    row (line 10 2) (some []) [] (refused 7 0 0) ∷
    -- 8: the latest departure
    row (line 10 2) (some (10000000 ∷ [])) (10000000 ∷ []) (value_is (pos 50000050)) ∷
    row (line 10 2) (some (10000001 ∷ [])) (10000001 ∷ []) (refused 8 0 0) ∷
    row (weights (1 ∷ []) (1 ∷ [])) (some (0 ∷ 10000001 ∷ [])) (0 ∷ 10000001 ∷ []) (refused 8 1 0) ∷
    -- 9: R1 and R2 at the gap and one second below it, either train first
    row (weights (1 ∷ 3 ∷ []) []) (some (0 ∷ 2 ∷ [])) (0 ∷ 2 ∷ []) (value_is (pos 46)) ∷
    row (weights (1 ∷ 3 ∷ []) []) (some (0 ∷ 1 ∷ [])) (0 ∷ 1 ∷ []) (refused 9 0 1) ∷
    row (weights (1 ∷ []) (1 ∷ [])) (some (10 ∷ 0 ∷ [])) (10 ∷ 0 ∷ []) (value_is (pos 30)) ∷
    row (weights (1 ∷ []) (1 ∷ [])) (some (9 ∷ 0 ∷ [])) (9 ∷ 0 ∷ []) (refused 9 0 1) ∷
    -- 9: all pairs, not only neighbours; the smallest first number, then the smallest second
    row (weights (1 ∷ 1 ∷ 1 ∷ []) []) (some (0 ∷ 5 ∷ 1 ∷ [])) (0 ∷ 5 ∷ 1 ∷ []) (refused 9 0 2) ∷
    row (weights (1 ∷ 1 ∷ 1 ∷ []) []) (some (0 ∷ 5 ∷ 6 ∷ [])) (0 ∷ 5 ∷ 6 ∷ []) (refused 9 1 2) ∷
    row (weights (1 ∷ 1 ∷ 1 ∷ []) []) (some (0 ∷ 1 ∷ 1 ∷ [])) (0 ∷ 1 ∷ 1 ∷ []) (refused 9 0 1) ∷
    -- 9: R3, at one station only
    row (tabled (times 2 free)) (some (2 ∷ 0 ∷ [])) (2 ∷ 0 ∷ []) (refused 9 0 1) ∷
    row (tabled (times 2 free)) (some (0 ∷ 2 ∷ [])) (0 ∷ 2 ∷ []) (value_is (pos 0)) ∷
    row (case_I 3 15) (some (10 ∷ 0 ∷ [])) (10 ∷ 0 ∷ []) (value_is (pos 100)) ∷
    []

-- 5: the most trains a station, and one more; equal trains leave in list order
unfoldable pub full_stations : List Case
full_stations =
    row (on_line 2 (times 48 (pos 0 ∷ [])) []) none (map (λ k. k * 2) (count_from 0 48)) (value_is (pos 0)) ∷
    row (on_line 2 (times 49 (pos 0 ∷ [])) []) none [] (refused 5 0 0) ∷
    row (on_line 1 [] (times 48 (pos 0 ∷ []))) none (map (λ k. k * 2) (count_from 0 48)) (value_is (pos 104)) ∷
    row (on_line 1 [] (times 49 (pos 0 ∷ []))) none [] (refused 5 0 0) ∷
    row (on_line 3 [] (times 12 free)) none (map (λ k. k * 2) (count_from 0 12)) (value_is (pos 0)) ∷
    row (on_line 3 [] (times 13 free)) none [] (refused 5 0 0) ∷
    []

pub worked_by_hand : Hold cases × Hold more × Hold full_stations
unfolding good_running good_headway good_timing running arrival apart
    figure within is_zero steps used unused good_row row_cost larger lateness weighted by_rows aim_of
    aim count_at count train_at trains_at trains runs in_order keeps conflicts cost_of value
    station_order schedule by_number departures_of value_of best_order best_value plan
    refuse naming naming_two known ragged crowded call_refusals train_refusals refusals judge_refusals
    planner_answers planner_leaves judge_answers
    cases more full_stations
worked_by_hand = (refl, refl, refl)
