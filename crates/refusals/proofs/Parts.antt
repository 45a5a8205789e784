-- What the first of the refusals is, part by part: the searches settle the trains.
use mathlib.Core.Bool.{Bool, false, not}
use mathlib.Core.List.{List, [], ◌++◌, append-eq-nil_iff}
use mathlib.Core.Path.{◌≡◌, refl, sym, ◌∙◌, ap}
use Prim.Native.Nat.{ℕ, ◌+◌, ◌≤◌}
use native.Mathlib.Omega.{arith}
use lib.IntN.{ℤ, pos}
use borrow.Author.Tests.{ltb-false, eq-eqb, ne_eqb}
use Rattle.std.specs.Prelude.{Some}
use Rattle.rules.specs.Lists.{those}
use Rattle.rules.specs.declared.Station.{Station}
use Rattle.rules.specs.declared.Station.TheVariants.{One as one, Two as two}
use Rattle.rules.specs.Trains.{Section, aim, list_at, count_at, count, Train, train_at, trains_at, trains}
use Rattle.rules.specs.Refusals.{Refusal, refuse, naming, crowded, call_refusals, train_refusals}
use Rattle.rules.specs.Answers.{value_is, refused, verdict}
use Rattle.rules.proofs.Lists.{those_append}
use Rattle.rules.proofs.Refusals.{refuse_none}
use Rattle.rules.proofs.Tests.{neither}
use Rattle.refusals.specs.First.{NonePass, IsFirst}
use Rattle.refusals.specs.Trains.{trains_in, bad_at}
use Rattle.refusals.proofs.First.{Begins, begins, begins_append, none_pass, first_passes}
use Rattle.refusals.proofs.Reasons.{none_found}
use Rattle.refusals.proofs.Table.{most_bound}

-- how many trains a station has, as the code counts them, and which break their rule
abbrev pub found_at : Section → Station → ℕ
found_at S s = trains_in S.objective (list_at S s)

abbrev pub bad : Section → Station → ℕ → Bool
bad S s = bad_at S.objective (list_at S s)

-- a train that refusal 6 is about
abbrev pub breaks : Section → Train → Bool
breaks S x = not ((aim S).good x.figures)

-- past refusal 5 no list has more than 48 trains
not_crowded : (S : Section) → call_refusals S ≡ [] → (crowded S one ≡ false) × (crowded S two ≡ false)
unfolding call_refusals
not_crowded S none = (simp (append-eq-nil_iff, refuse_none, neither) at none).1

few : (S : Section) (s : Station) → crowded S s ≡ false → count_at S s ≤ 48
unfolding crowded aim
few S s e = omega (arith, most_bound S.objective, ltb-false (aim S).most (count_at S s) e)

pub few_trains : (S : Section) (s : Station) → value_is (pos 0) ≡ verdict (call_refusals S) (pos 0) → count_at S s ≤ 48
few_trains S one passed = few S one (not_crowded S (none_found (call_refusals S) (pos 0) passed)).0
few_trains S two passed = few S two (not_crowded S (none_found (call_refusals S) (pos 0) passed)).1

module _ (S : Section) (s : Station) where
  none_at : NonePass (bad S s) 0 (found_at S s) → those (breaks S) (trains_at S s) ≡ []
  unfolding bad_at trains_in aim count_at train_at trains_at
  none_at none = none_pass (breaks S) (train_at S s) 0 (count_at S s) (λ i l m. none i l (omega arith))

  first_at : (k : ℕ) → IsFirst (bad S s) 0 (found_at S s) (Some k) → Begins (train_at S s k) (those (breaks S) (trains_at S s))
  unfolding bad_at trains_in aim count_at train_at trains_at
  first_at k (l, m, passes, none) = first_passes (breaks S) (train_at S s) 0 (count_at S s) k l (omega arith) passes none

named :
    {x : Train} {xs : List Train} (number : ℕ) (rest : List Refusal) (v : ℤ) →
    Begins x xs →
    verdict (naming number xs ++ rest) v ≡ refused number x.number 0
unfolding naming
named number rest v begins = refl

-- Refusals 6 and 7: a train of station 1 is named, or one of station 2;
-- else the departures are not as many as the trains, or they are.
module _ (S : Section) (places : ℕ) (v : ℤ) where
  pub bad_one : (k : ℕ) → IsFirst (bad S one) 0 (found_at S one) (Some k) → refused 6 k 0 ≡ verdict (train_refusals S places) v
  unfolding train_refusals trains train_at
  bad_one k first =
      rw those_append
      (ap (λ n. refused 6 n 0) (omega arith) ∙ sym (named 6 _ v (begins_append _ (first_at S one k first))))

  module _ (end : NonePass (bad S one) 0 (found_at S one)) where
    pub bad_two :
        (k : ℕ) → IsFirst (bad S two) 0 (found_at S two) (Some k) →
        refused 6 (found_at S one + k) 0 ≡ verdict (train_refusals S places) v
    unfolding train_refusals trains train_at count_at trains_in aim
    bad_two k first = rw (those_append, none_at S one end) (sym (named 6 _ v (first_at S two k first)))

    module _ (end' : NonePass (bad S two) 0 (found_at S two)) where
      pub misplaced :
          (places ≡ found_at S one + found_at S two → ⊥) →
          refused 7 0 0 ≡ verdict (train_refusals S places) v
      unfolding train_refusals trains naming refuse count count_at trains_in aim
      misplaced wrong = rw (those_append, none_at S one end, none_at S two end', ne_eqb _ _ wrong)

      pub all_well : places ≡ found_at S one + found_at S two → value_is v ≡ verdict (train_refusals S places) v
      unfolding train_refusals trains naming refuse count count_at trains_in aim
      all_well right = rw (those_append, none_at S one end, none_at S two end', eq-eqb _ _ right)
