-- The lines of a section's trains are those of station 1's and then station 2's, by their departures; and how many trains there are.
use Rattle.std.proofs.Common.{ℕ, suc, ◌+◌, ◌-◌, ◌/◌, ◌≤◌, ◌<◌, ◌≡◌, refl, sym, ◌∙◌, ap, ap₂, List, [], ◌∷◌, ◌++◌, map, length, get_or, take, drop, append_assoc, length-drop, length-take-le, ℤ, arith}
use mathlib.Core.List.{map-map, map-append}
use native.Mathlib.Nat.{zero-add, add-zero, add-suc, suc-add, div-le_self}
use lib.Seq.{get_or-take, get_or-drop}
use Rattle.rules.specs.Lists.{count_from}
use Rattle.rules.specs.declared.Station.{Station}
use Rattle.rules.specs.declared.Station.TheVariants.{One as one, Two as two}
use Rattle.rules.specs.Objectives.{aim_of}
use Rattle.rules.specs.Trains.{Section, aim, count_at, count, first_number, Train, train_at, trains_at, trains, Run, runs}
use Rattle.section_file.specs.Lines.{train_line, all_lines}
use Rattle.section_file.specs.Printing.{train_at as line_at, station_lines}

lines_append : (ls ms : List (List ℕ)) → all_lines (ls ++ ms) ≡ all_lines ls ++ all_lines ms
lines_append [] ms = refl
lines_append (l ∷ ls) ms = ap (λ z. l ++ z) (lines_append ls ms) ∙ sym (append_assoc l (all_lines ls) (all_lines ms))

module _ (S : Section) (departures : List ℕ) where
  -- a train with the departure that stands at its number
  abbrev leaving : Train → Run
  leaving x = record { train = x; departure = get_or departures x.number 0 }

  module _ (s : Station) where
    line_is : (k d : ℕ) → get_or departures (first_number S s + k) 0 ≡ d → train_line S (leaving (train_at S s k)) ≡ line_at S.timing s k d
    unfolding train_line train_at
    line_is k d e =
        let place : first_number S s + k - first_number S s ≡ k = omega arith in
        rw (e, place) refl

    station_is : (ds : List ℕ) (k : ℕ) → ((i : ℕ) → i < length ds → get_or departures (first_number S s + (k + i)) 0 ≡ get_or ds i 0)
        → all_lines (map (λ i. train_line S (leaving (train_at S s i))) (count_from k (length ds))) ≡ station_lines S.timing s k ds
    station_is [] k same = refl
    station_is (d ∷ ds) k same =
        ap₂ ◌++◌
        (line_is k d (rw add-zero at (same 0 (omega arith))))
        (station_is ds (suc k) (λ i l. rw (suc-add, ← add-suc) (same (suc i) (omega arith))))

    at_station : (ds : List ℕ) → length ds ≡ count_at S s → ((i : ℕ) → i < length ds → get_or departures (first_number S s + i) 0 ≡ get_or ds i 0)
        → all_lines (map (train_line S) (map leaving (trains_at S s))) ≡ station_lines S.timing s 0 ds
    unfolding trains_at
    at_station ds all same =
        let trains = count_from 0 (count_at S s) in
        ap all_lines (ap (map (train_line S)) (map-map leaving (train_at S s) trains) ∙ map-map (train_line S) (λ i. leaving (train_at S s i)) trains)
        ∙ ap (λ n. all_lines (map (λ i. train_line S (leaving (train_at S s i))) (count_from 0 n))) (sym all)
        ∙ station_is ds 0 (λ i l. rw zero-add (same i l))

  pub lines_are : length departures ≡ count S → all_lines (map (train_line S) (runs S departures))
      ≡ station_lines S.timing one 0 (take (count_at S one) departures) ++ station_lines S.timing two 0 (drop (count_at S one) departures)
  unfolding runs trains count
  lines_are all =
      let n = count_at S one in
      rw (map-append, map-append, lines_append)
      (ap₂ ◌++◌
      (at_station one (take n departures) (length-take-le n departures (omega arith)) (λ i l. rw zero-add (sym (get_or-take n departures i 0 (omega (arith, length-take-le n departures))))))
      (at_station two (drop n departures) (rw length-drop (omega arith)) (λ i l. sym (get_or-drop n departures i 0))))

-- how many trains there are, by the numbers a train
module _ (S : Section) {numbers : ℕ} (e : numbers ≡ (aim_of S.objective).numbers) where
  pub ones_found : length S.one / numbers ≡ count_at S one
  unfolding count_at aim
  ones_found = ap (λ n. length S.one / n) e

  pub count_found : length S.one / numbers + length S.two / numbers ≡ count S
  unfolding count count_at aim
  count_found = ap (λ n. length S.one / n + length S.two / n) e

pub ones_within : (S : Section) → count_at S one ≤ count S
unfolding count
ones_within S = omega arith

-- lists of so few numbers have no more trains than there are places
pub places_enough : (xs ys : List ℤ) (numbers : ℕ) → length xs ≤ 512 → length ys ≤ 512 → length xs / numbers + length ys / numbers ≤ 1024
places_enough xs ys numbers few few' = omega (arith, div-le_self (length xs) numbers, div-le_self (length ys) numbers)
