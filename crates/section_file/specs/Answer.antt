-- What a text is answered: a section file with no recorded departures is planned, one with some is judged.
-- Every text has an answer: one that is no section file has the line `unreadable`.
use Rattle.std.specs.Prelude.{cond, Option, Some, None, option_and_then, List, [], ◌∷◌, ℕ, leb, length}
use Rattle.rules.specs.Trains.{Section, count}
use Rattle.rules.specs.Orders.{plan}
use Rattle.rules.specs.Answers.{planner_answers, judge_answers}
use Rattle.text.specs.Numbers.{numbers}
use Rattle.section_file.specs.Layout.{File, laid_out}
use Rattle.section_file.specs.Lines.{planned, judged, unreadable_word, line, printed}

-- at most 16,384 bytes
unfoldable pub read : List ℕ → Option File
read text = cond (leb (length text) 16384) (option_and_then laid_out (numbers text)) None

-- the lines of a section's plan, and of its recorded departures
abbrev pub plan_lines : Section → List ℕ
plan_lines S = printed planned S (planner_answers S (count S)) (plan S)

abbrev pub judge_lines : Section → List ℕ → List ℕ
judge_lines S departures = printed judged S (judge_answers S departures) departures

abbrev pub file_lines : Section → List ℕ → List ℕ
file_lines S [] = plan_lines S
file_lines S (d ∷ ds) = judge_lines S (d ∷ ds)

abbrev pub answered : Option File → List ℕ
answered (Some f) = file_lines f.section f.recorded
answered None = line (unreadable_word ∷ [])

unfoldable pub answer : List ℕ → List ℕ
answer text = answered (read text)
