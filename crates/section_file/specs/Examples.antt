-- The page's example and a few other texts with their answers: the definitions are computed on every row.
-- D has the page's lines; the others were worked out by hand from the page's cases and its grammar. None comes from a run.
use Rattle.std.specs.Prelude.{List, [], ◌∷◌, map, ◌≡◌, refl, ℕ}
use Prim.Native.String.{String}
use Rattle.rules.specs.Line.{good_running, good_headway, good_timing, running, arrival, apart}
use Rattle.rules.specs.Figures.{figure, within}
use Rattle.rules.specs.Objectives.{larger, lateness, weighted, by_rows, aim_of}
use Rattle.rules.specs.Trains.{aim, count_at, count, train_at, trains_at, trains, runs}
use Rattle.rules.specs.Safe.{in_order, keeps, conflicts}
use Rattle.rules.specs.Value.{cost_of, value}
use Rattle.rules.specs.Orders.{station_order, schedule, by_number, departures_of, value_of, best_order, best_value, plan}
use Rattle.rules.specs.Refusals.{refuse, naming, naming_two, known, ragged, crowded, call_refusals, train_refusals, refusals, judge_refusals}
use Rattle.rules.specs.Answers.{planner_answers, judge_answers}
use Rattle.text.specs.Bytes.{bytes}
use Rattle.text.specs.Words.{parts, words}
use Rattle.text.specs.Numbers.{digit, amount, positive, negative, numbers}
use Rattle.text.specs.Written.{decimal}
use Rattle.section_file.specs.Layout.{laid_out}
use Rattle.section_file.specs.Lines.{planned, judged, refused_word, unreadable_word, train_line}
use Rattle.section_file.specs.Answer.{read, answer}

-- a text and its answer
pub data Example : Type 0 where
  row : String → String → Example

abbrev pub found : Example → List ℕ
found (row text answer_to) = answer (bytes text)

abbrev pub expected : Example → List ℕ
expected (row text answer_to) = bytes answer_to

unfoldable pub examples : List Example
examples =
    row "3 2 10 2\n2 1 1\n1 5\n0\n" "planned 92\n1 0 10 20\n1 1 12 22\n2 0 0 10\n" ∷  -- D
    row "3 1 10 2\n2 30 12\n1 25\n0\n" "planned -2\n1 0 2 12\n1 1 0 10\n2 0 12 22\n" ∷  -- F
    row "3 1 10 2\n1 -5\n0\n0\n" "planned 15\n1 0 0 10\n" ∷  -- H
    row "3 2 10 2\n1 1\n1 1\n2 0 9\n" "refused 9 0 1\n" ∷  -- J
    row "3 2 10 2\n1 1\n1 1\n2 5 15\n" "judged 40\n1 0 5 15\n2 0 15 25\n" ∷  -- K
    row " \n3 2 10 2 1 5  0\n\n0 \n" "planned 50\n1 0 0 10\n" ∷  -- A, spaced oddly
    row "" "unreadable\n" ∷
    row "3 2 10 2 1 05 0 0" "unreadable\n" ∷
    row "3 1 10 2 1 -0 0 0" "unreadable\n" ∷
    row "3 2 10 2 1 +5 0 0" "unreadable\n" ∷
    row "3 2 10 2\t1 5 0 0" "unreadable\n" ∷
    row "3 2 10 -2 1 5 0 0" "unreadable\n" ∷
    row "3 2 10 2 1 5 0 1 -1" "unreadable\n" ∷
    row "3 2 10 2 1 2147483648 0 0" "unreadable\n" ∷
    row "3 2 10 2 1 5 0" "unreadable\n" ∷
    row "3 2 10 2 1 5 0 0 0" "unreadable\n" ∷
    []

pub answered_by_hand : map found examples ≡ map expected examples
unfolding good_running good_headway good_timing running arrival apart
    figure within larger lateness weighted by_rows aim_of
    aim count_at count train_at trains_at trains runs in_order keeps conflicts cost_of value
    station_order schedule by_number departures_of value_of best_order best_value plan
    refuse naming naming_two known ragged crowded call_refusals train_refusals refusals judge_refusals planner_answers judge_answers
    parts words digit amount positive negative numbers decimal laid_out
    planned judged refused_word unreadable_word train_line read answer examples
answered_by_hand = refl
