-- What the judge answers, by how far its tests come: a late train, a conflict, or the value.
use mathlib.Core.List.{List, [], ◌++◌, map, map-id, append_assoc}
use mathlib.Core.Path.{◌≡◌, refl}
use Prim.Native.Nat.{ℕ}
use native.Mathlib.Omega.{arith}
use lib.IntN.{ℤ, pos}
use lib.ListN.{length}
use Rattle.std.specs.Prelude.{None, Some}
use Rattle.rules.specs.Lists.{those, pairs, count_from}
use Rattle.rules.specs.Trains.{Section, count}
use Rattle.rules.specs.Value.{value}
use Rattle.rules.specs.Refusals.{Refusal, refusals, judge_refusals}
use Rattle.rules.specs.Answers.{value_is, refused, verdict, judge_answers}
use Rattle.refusals.specs.First.{IsFirst}
use Rattle.refusals.specs.Reasons.{tells}
use Rattle.refusals.specs.declared.Reason.{Reason}
use Rattle.refusals.proofs.First.{Begins, begins, begins_append, none_pass, first_passes}
use Rattle.refusals.proofs.Reasons.{stands}
use Rattle.judge.specs.Recorded.{late, clash, IsFirstConflict}
use Rattle.judge.proofs.Accepted.{unrefused, counted}
use Rattle.judge.proofs.Pairs.{no_pair, first_pair}
use Rattle.judge.proofs.Refusals.{named, late_refusals, conflict_refusals}

begins_map : {A B : Type 0} (f : A → B) {x : A} {xs : List A} → Begins x xs → Begins (f x) (map f xs)
begins_map f begins = begins

verdict_begins : {r : Refusal} {rs : List Refusal} (v : ℤ) → Begins r rs → refused r.number r.first r.second ≡ verdict rs v
verdict_begins v begins = refl

module _ (S : Section) (departures : List ℕ) where
  abbrev lates : List ℕ
  lates = those (late departures) (count_from 0 (count S))

  abbrev clashes : List (ℕ × ℕ)
  clashes = those (λ pair. clash S departures pair.0 pair.1) (pairs (count_from 0 (count S)))

  abbrev late_named : List Refusal
  late_named = map (λ k. record { number = 8; first = k; second = 0 }) lates

  parts : judge_refusals S departures ≡ refusals S (length departures) ++ (late_named ++ map named clashes)
  unfolding judge_refusals
  parts =
      rw (late_refusals S departures, conflict_refusals S departures)
      (append_assoc (refusals S (length departures)) late_named (map named clashes))

  -- a refusal of the call stands
  pub call_refused : (r : Reason) → tells r ≡ verdict (refusals S (length departures)) (pos 0) → tells r ≡ judge_answers S departures
  unfolding judge_answers
  call_refused r told =
      rw parts (stands r (refusals S (length departures)) (late_named ++ map named clashes) (pos 0) (value S departures) told)

  module _ (passed : value_is (pos 0) ≡ verdict (refusals S (length departures)) (pos 0)) where
    none : refusals S (length departures) ≡ []
    none = unrefused S departures passed

    all : length departures ≡ count S
    all = (counted S departures passed).0

    pub late_refused : (k : ℕ) → IsFirst (late departures) 0 (length departures) (Some k) → refused 8 k 0 ≡ judge_answers S departures
    unfolding judge_answers
    late_refused k (from, before, passes, none_before) =
        let first : Begins k lates =
        rw map-id at (first_passes (late departures) (λ i. i) 0 (count S) k from (omega (arith, all)) passes none_before) in
        rw (parts, none) (verdict_begins _ (begins_append _ (begins_map _ first)))

    module _ (timely : IsFirst (late departures) 0 (length departures) None) where
      no_lates : lates ≡ []
      no_lates = rw map-id at (none_pass (late departures) (λ i. i) 0 (count S) (λ i l m. timely i l (omega (arith, all))))

      pub conflict_refused : (i j : ℕ) → IsFirstConflict S departures (Some (i, j)) → refused 9 i j ≡ judge_answers S departures
      unfolding judge_answers
      conflict_refused i j (before, found, none_before) =
          let first : Begins (i, j) clashes =
          first_pair (clash S departures) 0 (count S) (length departures) i j (omega (arith, all)) (omega arith) before found (λ i' l m. none_before i' m) in
          rw (parts, none, no_lates) (verdict_begins _ (begins_map named first))

      pub nothing_left : IsFirstConflict S departures None → value_is (value S departures) ≡ judge_answers S departures
      unfolding judge_answers
      nothing_left clear =
          let free : clashes ≡ [] = no_pair (clash S departures) 0 (count S) (length departures) (omega (arith, all)) (λ i l m. clear i m) in
          rw (parts, none, no_lates, free)
