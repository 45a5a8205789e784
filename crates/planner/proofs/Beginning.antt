-- Before anything is counted: the call's terms, its stations in order, and tables that are right up to place 0.
use Rattle.std.proofs.Common.{List, [], ◌≡◌, refl, ◌∙◌, ap, ℕ, ◌+◌, ◌/◌, ◌≤◌, arith, ℤ, length, replicate}
use lib.ListN.{length-replicate, get_or-replicate}
use Rattle.rules.specs.declared.Timing.{Timing}
use Rattle.rules.specs.declared.Station.{Station}
use Rattle.rules.specs.declared.Station.TheVariants.{One as one, Two as two}
use Rattle.rules.specs.Objectives.{aim_of}
use Rattle.rules.specs.Trains.{Section, asked, aim, list_at, count_at, count}
use Rattle.rules.specs.Refusals.{refusals}
use Rattle.best.proofs.Accepted.{Accepted, accepted_places}
use Rattle.refusals.specs.Trains.{trains_in}
use Rattle.planner.specs.declared.clock.Terms.{Terms}
use Rattle.planner.specs.declared.rests.Rising.{Rising}
use Rattle.planner.specs.Order.{Placed, InOrder}
use Rattle.planner.specs.Day.{terms_of, Square, Tables}
use Rattle.planner.specs.Planning.{Planning}
use Rattle.planner.proofs.Entries.{count_few}

-- a table of which every cell is the same
square : {Cell : Type 0} (n : ℕ) (cell : Cell) → Square n (replicate n (replicate n cell))
square n cell =
    record {
      rows = length-replicate n (replicate n cell);
      cells = λ k h. ap length (get_or-replicate n k (replicate n cell) [] h) ∙ length-replicate n cell;
    }

pub nothing_filled : (S : Section) (cell : Rising) (cell' : List (List ℤ)) → Tables S (replicate 49 (replicate 49 cell)) (replicate 13 (replicate 13 cell')) 0
nothing_filled S cell cell' = record { square = square 49 cell; square' = square 13 cell'; right = λ n m h l k. absurd (omega arith) }

module _ (objective : ℕ) (t : Timing) (list list' : List ℤ) {numbers : ℕ} (e : numbers ≡ (aim_of objective).numbers) where
  abbrev pub terms_by : Terms
  terms_by = record { objective = objective; timing = t; ones = length list / numbers; twos = length list' / numbers }

  terms_are : terms_by ≡ terms_of (asked objective t list list')
  unfolding terms_of count_at aim
  terms_are = ap (λ n. record { objective = objective; timing = t; ones = length list / n; twos = length list' / n }) e

  pub all_places : (places : ℕ) → refusals (asked objective t list list') places ≡ [] → places ≡ terms_by.ones + terms_by.twos
  unfolding count count_at aim
  all_places places none = rw e (accepted_places (asked objective t list list') places none)

  pub planning : (first second : List ℕ) → Accepted (asked objective t list list') → InOrder objective list first → InOrder objective list' second
      → Planning terms_by list list' first second
  unfolding InOrder Placed
  planning first second A p q =
      let S : Section = asked objective t list list' in
      record { accepted = A; terms = terms_are; first_placed = p S one refl refl; second_placed = q S two refl refl }

-- no list has more trains than can be put in order
pub list_few : (S : Section) → Accepted S → (s : Station) → trains_in S.objective (list_at S s) ≤ 48
unfolding trains_in count_at aim
list_few S A s = count_few S A s
