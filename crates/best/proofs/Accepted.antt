-- What is known of a section that the planner does not refuse: its timing and its trains are good, and there is one, and not too many.
use mathlib.Core.Bool.{false, ◌&&◌, ◌||◌, true≢false}
use mathlib.Core.List.{List, [], ◌∷◌, cons≢nil, append-eq-nil_iff}
use mathlib.Core.Logic.{◌≢◌}
use mathlib.Core.Path.{◌≡◌, refl, sym, ◌∙◌}
use Prim.Native.Nat.{ℕ, ◌+◌, ◌%◌, ◌<◌, ◌≤◌}
use native.Mathlib.Nat.{div-add-mod', zero-mul}
use native.Mathlib.Omega.{arith}
use borrow.Author.Tests.{ltb-false}
use lib.Dec.{T, eqb, eqb→eq}
use lib.ListN.{length}
use Rattle.rules.specs.declared.Station.{Station}
use Rattle.rules.specs.declared.Station.TheVariants.{One as one, Two as two}
use Rattle.rules.specs.Line.{good_timing}
use Rattle.rules.specs.Trains.{Section, aim, list_at, count_at, count, Train, trains}
use Rattle.rules.specs.Refusals.{naming, ragged, crowded, call_refusals, train_refusals, refusals}
use Rattle.rules.proofs.Refusals.{refuse_none}
use Rattle.rules.proofs.Tests.{passes, neither}
use Rattle.theory.specs.Schedule.{All}
use Rattle.best.proofs.Pairwise.{none_fails}

pub record Accepted (S : Section) : Type 0 where
  pub timed : T (good_timing S.timing)
  pub good : All (λ x. T ((aim S).good x.figures)) (trains S)
  pub filled : 0 < count S
  pub few : (s : Station) → count_at S s ≤ (aim S).most

unnamed : (n : ℕ) (xs : List Train) → naming n xs ≡ [] → xs ≡ []
unfolding naming
unnamed n [] e = refl
unnamed n (x ∷ xs) e = absurd (cons≢nil e)

module _ (S : Section) where
  -- a list that fills no train, and leaves no number over, is empty
  no_train : (s : Station) → ragged S s ≡ false → count_at S s ≡ 0 → length (list_at S s) ≡ 0
  unfolding ragged count_at
  no_train s whole e =
      let n = length (list_at S s) in
      let w = (aim S).numbers in
      sym (div-add-mod' n w) ∙ (rw (e, eqb→eq (n % w) 0 (passes (eqb (n % w) 0) whole), zero-mul))

  has_train : ragged S one || ragged S two ≡ false → eqb (length S.one) 0 && eqb (length S.two) 0 ≡ false → 0 < count S
  unfolding count
  has_train whole some =
      let (a, b) = (neither (ragged S one) (ragged S two)).0 whole in
      let filled : count_at S one + count_at S two ≢ 0 = λ e. true≢false (rw (no_train one a (omega arith), no_train two b (omega arith)) at some) in
      omega arith

  few_at : crowded S one || crowded S two ≡ false → (s : Station) → count_at S s ≤ (aim S).most
  unfolding crowded
  few_at h one = ltb-false (aim S).most (count_at S one) ((neither (crowded S one) (crowded S two)).0 h).0
  few_at h two = ltb-false (aim S).most (count_at S two) ((neither (crowded S one) (crowded S two)).0 h).1

  pub accepted : (places : ℕ) → refusals S places ≡ [] → Accepted S
  unfolding refusals call_refusals train_refusals
  accepted places none =
      let (((((r₁, r₂), r₃), r₄), r₅), (r₆, r₇)) = simp (append-eq-nil_iff, refuse_none) at none in
      record {
        timed = passes (good_timing S.timing) r₂;
        good = (none_fails (λ x. (aim S).good x.figures) (trains S)).0 (unnamed 6 _ r₆);
        filled = has_train r₃ r₄;
        few = few_at r₅;
      }

  pub accepted_places : (places : ℕ) → refusals S places ≡ [] → places ≡ count S
  unfolding refusals train_refusals
  accepted_places places none =
      let (_, (_, r₇)) = simp (append-eq-nil_iff, refuse_none) at none in
      eqb→eq places (count S) (passes (eqb places (count S)) r₇)
