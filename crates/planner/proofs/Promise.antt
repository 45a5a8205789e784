-- The planner's promise from the rules' answer and departures: demand 3 follows from them, of the list that is left.
use Rattle.std.proofs.Common.{List, [], ◌∷◌, ◌≡◌, refl, ℕ, arith, pos, length, Result, Ok, Err}
use Rattle.rules.specs.declared.Answer.{Answer}
use Rattle.rules.specs.Trains.{Section}
use Rattle.rules.specs.Orders.{best_value, plan}
use Rattle.rules.specs.Refusals.{Refusal, refusals}
use Rattle.rules.specs.Answers.{value_is, refused, says, verdict, written, planner_answers, planner_leaves}
use Rattle.best.proofs.Demand.{demand_3}
use Rattle.refusals.specs.declared.Reason.{Reason}
use Rattle.refusals.specs.Reasons.{tells}
use Rattle.refusals.proofs.Reasons.{same_check}
use Rattle.planner.specs.Promise.{Unbeaten, BestLeft}

module _ (S : Section) (before : List ℕ) where
  pub best_left : (a : Answer) (xs : List ℕ) → says a ≡ planner_answers S (length before) → xs ≡ planner_leaves S before → BestLeft S a xs
  unfolding planner_answers planner_leaves BestLeft
  best_left a xs said left worth told = by_refusals (refusals S (length before)) refl
    where
      by_refusals : (rs : List Refusal) → refusals S (length before) ≡ rs → Unbeaten S xs worth
      by_refusals [] none =
          let best : value_is worth ≡ value_is (best_value S) = rw (told, none) at said in
          let same : worth ≡ best_value S = cc in
          let all : xs ≡ plan S = rw none at left in
          let B = demand_3 S (length before) none in
          record { safe = rw all B.safe; true_value = rw (all, same) B.true_value; least = λ others safe. rw same (B.least others safe) }
      by_refusals (r ∷ rs) some =
          let clash : value_is worth ≡ refused r.number r.first r.second = rw (told, some) at said in
          let never : ◌≡◌ {A = ℕ} 0 1 = cc in
          absurd (omega arith)

  -- a reason that the call is refused for stands, and nothing is written
  module _ (r : Reason) (told : tells r ≡ verdict (refusals S (length before)) (pos 0)) where
    by_refusals : (rs : List Refusal) → tells r ≡ verdict rs (pos 0) → (tells r ≡ verdict rs (best_value S)) × (before ≡ written rs (plan S) before)
    by_refusals [] told = let clash : ◌≡◌ {A = Result Unit Reason} (Err r) (Ok tt) = same_check (Err r) (Ok tt) (pos 0) told in cc
    by_refusals (x ∷ rs) told = (told, refl)

    pub refused_answers : tells r ≡ planner_answers S (length before)
    unfolding planner_answers
    refused_answers = (by_refusals (refusals S (length before)) told).0

    pub refused_leaves : before ≡ planner_leaves S before
    unfolding planner_leaves
    refused_leaves = (by_refusals (refusals S (length before)) told).1

  -- where nothing is refused, the best value is answered and the plan is left
  module _ (none : refusals S (length before) ≡ []) where
    pub planned_answers : value_is (best_value S) ≡ planner_answers S (length before)
    unfolding planner_answers
    planned_answers = rw none refl

    pub planned_leaves : plan S ≡ planner_leaves S before
    unfolding planner_leaves
    planned_leaves = rw none refl
