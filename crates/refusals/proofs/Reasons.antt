-- What a check tells leaves nothing of it open: a reason is no value, and no other reason.
use mathlib.Core.Bool.{cond}
use mathlib.Core.List.{List, [], ◌∷◌, ◌++◌}
use mathlib.Core.Path.{◌≡◌, refl, sym, ◌∙◌, ap}
use lib.Dec.{eqb}
use Rattle.std.specs.Prelude.{ℤ, Result, Ok, Err}
use Rattle.rules.specs.Refusals.{Refusal}
use Rattle.rules.specs.Answers.{Verdict, value_is, refused, verdict}
use Rattle.refusals.specs.declared.Reason.{Reason}
use Rattle.refusals.specs.declared.Reason.TheVariants.{UnknownObjective, BadTiming, RaggedList, NoTrain, CrowdedStation, BadTrain, DepartureCount, LateDeparture, Conflict}
use Rattle.refusals.specs.Reasons.{tells, checked}

-- the check that tells a verdict
abbrev check_of : Verdict → Result Unit Reason
check_of (value_is v) = Ok tt
check_of (refused n a b) =
    Err (
    cond (eqb n 1) UnknownObjective (
    cond (eqb n 2) BadTiming (
    cond (eqb n 3) RaggedList (
    cond (eqb n 4) NoTrain (
    cond (eqb n 5) CrowdedStation (
    cond (eqb n 6) (BadTrain a) (
    cond (eqb n 7) DepartureCount (
    cond (eqb n 8) (LateDeparture a) (Conflict a b)))))))))

read_back : (r : Reason) → check_of (tells r) ≡ Err r
read_back UnknownObjective = refl
read_back BadTiming = refl
read_back RaggedList = refl
read_back NoTrain = refl
read_back CrowdedStation = refl
read_back (BadTrain k) = refl
read_back DepartureCount = refl
read_back (LateDeparture k) = refl
read_back (Conflict a b) = refl

pub same_check : (a b : Result Unit Reason) (v : ℤ) → checked a v ≡ checked b v → a ≡ b
same_check (Ok u) (Ok u') v e = refl
same_check (Ok u) (Err r) v e = ap check_of e ∙ read_back r
same_check (Err r) (Ok u) v e = sym (read_back r) ∙ ap check_of e
same_check (Err r) (Err r') v e = sym (read_back r) ∙ ap check_of e ∙ read_back r'

-- A reason that is the first of these refusals stands, whatever follows and whatever the value would be.
pub stands : (r : Reason) (xs ys : List Refusal) (v w : ℤ) → tells r ≡ verdict xs v → tells r ≡ verdict (xs ++ ys) w
stands r [] ys v w told = let clash : Err r ≡ Ok tt = same_check (Err r) (Ok tt) v told in cc
stands r (x ∷ xs) ys v w told = told

-- Where a check passes, there is no refusal.
pub none_found : (xs : List Refusal) (v : ℤ) → value_is v ≡ verdict xs v → xs ≡ []
none_found [] v passed = refl
none_found (x ∷ xs) v passed = cc
