-- The first of the best strings is the first of the best days: values and their grades are in one order.
use mathlib.Core.Bool.{cond}
use mathlib.Core.List.{List, [], ◌∷◌, map}
use mathlib.Core.Path.{◌≡◌, refl, sym, ◌∙◌, ap}
use lib.IntN.{ℤ}
use lib.Signed.{le_z, le_z_yes}
use Rattle.rules.specs.Objectives.{Objective}
use Rattle.rules.specs.Trains.{Train}
use Rattle.rules.specs.Orders as R
use Rattle.theory.specs.Schedule.{All}
use Rattle.theory.specs.Orders.{pick, leftmost, first_best}
use Rattle.theory.proofs.Choices.{pick_yes, pick_no, cond_ind}
use Rattle.best.specs.Fair.{Fair}

module _ {O : Objective} (F : Fair O) (value : R.Order → ℤ) (day : R.Order → List Train) (worth : List Train → F.values.Val) where
  abbrev Graded : R.Order → Type 0
  Graded o = F.grade (value o) ≡ worth (day o)

  -- of two orders, the one kept by their values is the one kept by their days' worth
  kept : (o p : R.Order) → Graded o → Graded p
      → day (cond (le_z (value o) (value p)) o p) ≡ pick (F.values.compare (worth (day o)) (worth (day p))) (day o) (day p)
  kept o p e f =
      let test = F.values.compare (worth (day o)) (worth (day p)) in
      cond_ind (λ k. day k ≡ pick test (day o) (day p)) (le_z (value o) (value p))
      (λ t. sym (pick_yes test (day o) (day p) (rw (← e, ← f) (F.up (le_z_yes t)))))
      (λ n. sym (pick_no test (day o) (day p) (λ h. n (F.down _ _ (rw (← e, ← f) at h)).le)))

  least_same : (o : R.Order) (os : List R.Order) → Graded o → All Graded os
      → day (R.first_least value o os) ≡ leftmost F.values worth (day o) (map day os)
  least_same o [] e a = refl
  least_same o (p ∷ os) e (All.more f a) =
      least_same (cond (le_z (value o) (value p)) o p) os (cond_ind Graded (le_z (value o) (value p)) (λ t. e) (λ n. f)) a
      ∙ ap (λ d. leftmost F.values worth d (map day os)) (kept o p e f)

  pub chosen_same : (os : List R.Order) → day [] ≡ [] → All Graded os
      → day (R.first_best value os) ≡ first_best F.values worth (map day os)
  chosen_same [] e a = e
  chosen_same (o ∷ os) e (All.more g a) = least_same o os g a
