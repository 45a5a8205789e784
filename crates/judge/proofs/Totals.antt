-- The value of a schedule, train by train: what is joined so far, and the costs that are left.
use mathlib.Core.List.{List, map, map-map}
use mathlib.Core.Path.{◌≡◌, sym, ◌∙◌, ap}
use Prim.Native.Nat.{ℕ, suc, ◌+◌, ◌-◌, ◌≤◌, ◌<◌}
use native.Mathlib.Numerals.{add-one}
use native.Mathlib.Omega.{arith}
use lib.IntN.{ℤ}
use Rattle.rules.specs.Lists.{count_from}
use Rattle.rules.specs.Trains.{Section, aim, count}
use Rattle.rules.specs.Value.{cost_of, join_on, join_all, value}
use Rattle.rules.proofs.Trains.{runs_nth}
use Rattle.judge.specs.Recorded.{run}

module _ (S : Section) (departures : List ℕ) where
  -- the cost of the train with this number
  abbrev pub cost_at : ℕ → ℤ
  cost_at k = cost_of S (run S departures k)

  -- the value, from the total of the trains before k
  abbrev pub from : ℤ → ℕ → ℤ
  from total k = join_on (aim S).joined total (map cost_at (count_from k (count S - k)))

  pub starts : 0 < count S → from (cost_at 0) 1 ≡ value S departures
  unfolding value
  starts h =
      let all : count S ≡ suc (count S - 1) = omega arith in
      sym (ap (λ rs. join_all (aim S).joined (map (cost_of S) rs)) (runs_nth S departures)
      ∙ ap (join_all (aim S).joined) (map-map (cost_of S) _ (count_from 0 (count S)))
      ∙ ap (λ n. join_all (aim S).joined (map cost_at (count_from 0 n))) all)

  pub turns : (total : ℤ) (k : ℕ) → k < count S → from total k ≡ from ((aim S).joined total (cost_at k)) (k + 1)
  turns total k h =
      let left : count S - k ≡ suc (count S - suc k) = omega arith in
      rw (add-one, left)

  pub ends : (total : ℤ) (k : ℕ) → count S ≤ k → from total k ≡ total
  ends total k h =
      let left : count S - k ≡ 0 = omega arith in
      rw left
