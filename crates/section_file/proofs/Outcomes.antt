-- What is put of an answer is what is to be printed of it, and an answer's lines fit the page.
use Rattle.std.proofs.Common.{ℕ, suc, ◌+◌, ◌*◌, ◌≤◌, ◌≡◌, refl, ◌∙◌, ap, List, [], ◌∷◌, ◌++◌, length, length-append, take, drop, take-append-drop, Option, Some, None, ℤ, pos, negsuc, arith}
use Rattle.std.proofs.lemmas.List.{length-map, take_all}
use Rattle.rules.specs.declared.Station.{Station}
use Rattle.rules.specs.declared.Station.TheVariants.{One as one, Two as two}
use Rattle.rules.specs.declared.Timing.{Timing}
use Rattle.rules.specs.Line.{arrival}
use Rattle.rules.specs.Trains.{Section, aim, count_at, count, trains}
use Rattle.rules.specs.Value.{value}
use Rattle.rules.specs.Orders.{by_number, departures_of, best_value, plan}
use Rattle.rules.specs.Refusals.{Refusal, refusals, judge_refusals}
use Rattle.rules.specs.Answers.{Verdict, value_is, refused, verdict, written, planner_answers, planner_leaves, judge_answers}
use Rattle.best.proofs.Accepted.{accepted, accepted_places}
use Rattle.best.proofs.Numbers.{trains_count}
use Rattle.refusals.proofs.Table.{most_bound}
use Rattle.text.specs.Written.{decimal, signed}
use Rattle.text.proofs.Decimal.{length_digits}
use Rattle.section_file.specs.Layout.{File}
use Rattle.section_file.specs.Lines.{planned, judged, refused_word, unreadable_word, station_number, printed}
use Rattle.section_file.specs.Answer.{file_lines, read, answered, answer}
use Rattle.section_file.specs.Printing.{station_lines, Complete}
use Rattle.section_file.proofs.Trains.{lines_are}

first_empty : {A : Type 0} (xs ys : List A) → xs ++ ys ≡ [] → xs ≡ []
first_empty [] ys e = refl
first_empty (x ∷ xs) ys e = cc

module _ (S : Section) where
  few : (places : ℕ) → refusals S places ≡ [] → count S ≤ 96
  unfolding count aim
  few places none = let A = accepted S places none in omega (arith, most_bound S.objective, A.few one, A.few two)

  plan_count : length (plan S) ≡ count S
  unfolding plan departures_of by_number
  plan_count = length-map (trains S) _ ∙ trains_count S

  -- what the planner leaves is complete where it answers a value, and is then the plan
  module _ (before : List ℕ) (all : length before ≡ count S) where
    pub plan_complete : Complete S (planner_answers S (length before)) (planner_leaves S before)
    unfolding planner_answers planner_leaves
    plan_complete = by_refusals (refusals S (length before)) refl
      where
        by_refusals : (rs : List Refusal) → refusals S (length before) ≡ rs → Complete S (verdict rs (best_value S)) (written rs (plan S) before)
        by_refusals [] none = (plan_count, few (length before) none)
        by_refusals (r ∷ rs) some = tt

    pub plan_printed : (word : List ℕ) → printed word S (planner_answers S (length before)) (planner_leaves S before)
        ≡ printed word S (planner_answers S (count S)) (plan S)
    unfolding planner_answers planner_leaves
    plan_printed word = by_refusals (refusals S (length before)) _ ∙ ap (λ n. printed word S (verdict (refusals S n) (best_value S)) (plan S)) all
      where
        by_refusals : (rs : List Refusal) (v : ℤ) → printed word S (verdict rs v) (written rs (plan S) before) ≡ printed word S (verdict rs v) (plan S)
        by_refusals [] v = refl
        by_refusals (r ∷ rs) v = refl

  -- and so are recorded departures that are judged
  pub judge_complete : (departures : List ℕ) → Complete S (judge_answers S departures) departures
  unfolding judge_answers judge_refusals
  judge_complete departures = by_refusals (judge_refusals S departures) refl
    where
      by_refusals : (rs : List Refusal) → judge_refusals S departures ≡ rs → Complete S (verdict rs (value S departures)) departures
      by_refusals [] none =
          let first = first_empty _ _ (first_empty _ _ none) in
          (accepted_places S (length departures) first, few (length departures) first)
      by_refusals (r ∷ rs) some = tt

-- ---- the page's room

decimal_short : (n : ℕ) → length (decimal n) ≤ 20
unfolding decimal
decimal_short n = length_digits 20 n

signed_short : (z : ℤ) → length (signed z) ≤ 21
signed_short (pos n) = omega (arith, decimal_short n)
signed_short (negsuc n) = omega (arith, decimal_short (suc n))

lines_short : (t : Timing) (s : Station) (k : ℕ) (ds : List ℕ) → length (station_lines t s k ds) ≤ 84 * length ds
lines_short t s k [] = omega arith
lines_short t s k (d ∷ ds) =
    simp length-append (omega (arith, decimal_short (station_number s), decimal_short k, decimal_short d, decimal_short (arrival t s d), lines_short t s (suc k) ds))

length_halves : {A : Type 0} (n : ℕ) (xs : List A) → length (take n xs) + length (drop n xs) ≡ length xs
length_halves n xs = rw (← length-append, take-append-drop) refl

printed_short : (word : List ℕ) (S : Section) (v : Verdict) (ds : List ℕ) → length word ≤ 7 → Complete S v ds → length (printed word S v ds) ≤ 8192
unfolding refused_word
printed_short word S (value_is v) ds h complete =
    let n = count_at S one in
    rw (lines_are S ds complete.0)
    (simp length-append (omega (
      arith,
      signed_short v,
      complete.0,
      complete.1,
      lines_short S.timing one 0 (take n ds),
      lines_short S.timing two 0 (drop n ds),
      length_halves n ds,
    )))
printed_short word S (refused number first second) ds h complete =
    simp length-append (omega (arith, decimal_short number, decimal_short first, decimal_short second))

file_short : (S : Section) (ds : List ℕ) → length (file_lines S ds) ≤ 8192
unfolding planned judged
file_short S [] =
    let all = plan_count S in
    rw (← plan_printed S (plan S) all planned) (printed_short planned S _ _ (omega arith) (plan_complete S (plan S) all))
file_short S (d ∷ ds) = printed_short judged S _ (d ∷ ds) (omega arith) (judge_complete S (d ∷ ds))

answer_short : (text : List ℕ) → length (answer text) ≤ 8192
unfolding answer unreadable_word
answer_short text = by_file (read text)
  where
    by_file : (f : Option File) → length (answered f) ≤ 8192
    by_file (Some f) = file_short f.section f.recorded
    by_file None = omega arith

-- so a page that it is put onto has all of it
pub whole_answer : (text before page : List ℕ) → before ≡ [] → page ≡ take 8192 (before ++ answer text) → (page ≡ answer text) × (length page ≤ 8192)
whole_answer text before page new put =
    let whole : page ≡ answer text = (rw new at put) ∙ take_all 8192 (answer text) (answer_short text) in
    (whole, rw whole (answer_short text))
