-- Objectives 1 to 4 are fair: 1 and 2 since two trains lose nothing by trading, 3 and 4 since list order is kept.
-- A row's costs never fall, so a later arrival pays no less.
use mathlib.Core.Bool.{Bool, true, false, cond}
use mathlib.Core.List.{List, [], ◌∷◌}
use mathlib.Core.Logic.{◌⊎◌, inl, inr}
use mathlib.Core.Path.{◌≡◌, refl}
use Prim.Native.Nat.{ℕ, ◌≤◌}
use lib.Dec.{T, eqb, le→leb}
use lib.IntN.{ℤ, pos, ◌+ℤ◌}
use lib.Signed.{◌≤ℤ◌, le_z, le_z_yes, ≤ℤ_refl}
use Rattle.rules.specs.Lists.{those, every, neighbours}
use Rattle.rules.specs.Figures.{figure, within, Step, used, good_row, last_cost, row_cost}
use Rattle.rules.specs.Objectives.{Objective, larger, lateness, weighted, by_rows, aim_of}
use Rattle.rules.specs.Trains.{Section, aim}
use Rattle.rules.proofs.Tests.{both}
use Rattle.theory.specs.Integers.{Grade, nothing, at, number, sum, largest, larger as larger_grade}
use Rattle.theory.proofs.Choices.{cond_ind}
use Rattle.theory.proofs.Integers.{≤ℤ_trans, sum_ordered, largest_ordered, raise, lower, difference_rises, difference_swap, product_rises, product_swap}
use Rattle.best.specs.Fair.{Listed, Trades, Fair}
use Rattle.best.proofs.Keys.{not_less, by_key, turned}

has_number : (a : ℤ) (g : Grade) → at (number (larger_grade (at a) g)) ≡ larger_grade (at a) g
has_number a nothing = refl
has_number a (at b) = refl

-- an objective whose costs rise is fair by either way to join them
module _ (O : Objective) (rises : (x : List ℤ) → T (O.good x) → (a b : ℕ) → a ≤ b → O.cost x a ≤ℤ O.cost x b) where
  by_sum : O.joined ≡ ◌+ℤ◌ → Listed O ⊎ Trades O sum (λ z. z) → Fair O
  by_sum e order =
      record {
        values = sum;
        ordered = sum_ordered;
        grade = λ z. z;
        joins = λ a b. rw e;
        up = λ h. h;
        down = λ a b h. h;
        shown = λ z. z;
        shown_none = refl;
        shown_grade = λ a. refl;
        shown_cost = λ a v. refl;
        rising = λ x g {a} {b}. rises x g a b;
        order = order;
      }

  by_largest : O.joined ≡ larger → Listed O ⊎ Trades O largest at → Fair O
  unfolding larger
  by_largest e order =
      record {
        values = largest;
        ordered = largest_ordered;
        grade = at;
        joins = λ a b. rw e;
        up = raise;
        down = λ a b. lower;
        shown = number;
        shown_none = refl;
        shown_grade = λ a. refl;
        shown_cost = has_number;
        rising = λ x g {a} {b}. rises x g a b;
        order = order;
      }

fair_lateness : Fair lateness
unfolding lateness
fair_lateness =
    by_largest lateness (λ x g a b. difference_rises (figure x 0)) refl
    (inr
    (record {
      free = refl;
      ranked = by_key (λ x. figure x 0);
      swap = λ x y g g' h k. raise (difference_swap (not_less (figure y 0) (figure x 0) h.free) k);
    }))

fair_weighted : Fair weighted
unfolding weighted within
fair_weighted =
    by_sum weighted (λ x g a b. product_rises {w = figure x 0} (le_z_yes (simp both at g).0)) refl
    (inr
    (record {
      free = refl;
      ranked = turned (by_key (λ x. figure x 0));
      swap = λ x y g g' h k. product_swap (not_less (figure x 0) (figure y 0) h.free) k;
    }))

abbrev begun : ℕ → Step → Bool
begun a s = le_z s.start (pos a)

abbrev climbs : Step → Step → Bool
climbs s s' = le_z s.cost s'.cost

-- the cost of the last step begun, or c where none is
abbrev paid : ℤ → ℕ → List Step → ℤ
paid c a ss = last_cost c (those (begun a) ss)

module _ {a b : ℕ} (h : a ≤ b) where
  still : (s : Step) → T (begun a s) → T (begun b s)
  still s t = (≤ℤ_trans {a = s.start} {b = pos a} {c = pos b} (le_z_yes t) (le_z_yes (le→leb a b h))).le

  -- p is the step before these
  later : (p : Step) (ss : List Step) {c c' : ℤ} → c ≤ℤ c' → c' ≤ℤ p.cost → T (neighbours climbs (p ∷ ss)) → paid c a ss ≤ℤ paid c' b ss
  later p [] k l n = k
  later p (s ∷ ss) {c} {c'} k l n =
      let (m, r) = simp both at n in
      let up : c' ≤ℤ s.cost = ≤ℤ_trans l (le_z_yes m) in
      let far = ≤ℤ_trans k up in
      let same = ≤ℤ_refl s.cost in
      cond_ind (λ z. paid c a (s ∷ ss) ≤ℤ last_cost c' z) (begun b s)
      (λ u. cond_ind (λ z. last_cost c z ≤ℤ paid s.cost b ss) (begun a s) (λ t. later s ss same same r) (λ t. later s ss far same r))
      (λ u. cond_ind (λ z. last_cost c z ≤ℤ paid c' b ss) (begun a s) (λ t. absurd (u (still s t))) (λ t. later s ss k up r))

  from_zero : (ss : List Step) → T (every (λ s. within (pos 0) (pos 1000000) s.cost) ss) → T (neighbours climbs ss)
      → paid (pos 0) a ss ≤ℤ paid (pos 0) b ss
  unfolding within
  from_zero [] e n = ≤ℤ_refl (pos 0)
  from_zero (s ∷ ss) e n =
      let same = ≤ℤ_refl (pos 0) in
      later (record { start = pos 0; cost = pos 0 }) (s ∷ ss) same same (simp both ((simp both at e).0.0, n))

row_rises : (x : List ℤ) → T (good_row x) → (a b : ℕ) → a ≤ b → row_cost x a ≤ℤ row_cost x b
unfolding good_row row_cost
row_rises x g a b h = let (((_, e), n), _) = simp both at g in from_zero h (used x) e n

rows_listed : (join : ℤ → ℤ → ℤ) → Listed (by_rows join)
unfolding by_rows
rows_listed join = record { kept = refl; nobody = λ x y t. t }

either : (t : Bool) {O O' : Objective} → Fair O → Fair O' → Fair (cond t O O')
either true f g = f
either false f g = g

fair : (n : ℕ) → Fair (aim_of n)
unfolding aim_of by_rows
fair n =
    either (eqb n 1) fair_lateness
    (either (eqb n 2) fair_weighted
    (either (eqb n 3) (by_sum (by_rows ◌+ℤ◌) row_rises refl (inl (rows_listed ◌+ℤ◌)))
    (by_largest (by_rows larger) row_rises refl (inl (rows_listed larger)))))

pub fair_aim : (S : Section) → Fair (aim S)
unfolding aim
fair_aim S = fair S.objective
