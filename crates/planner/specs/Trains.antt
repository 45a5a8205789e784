-- A station's trains in its order, by the places in its list and how many of them are left.
-- The order itself is the rules'.
use Rattle.std.specs.Prelude.{cond, List, [], ℕ, ◌+◌, ◌-◌, ◌*◌, ◌≤◌, ◌<◌, eqb, ℤ, length, get_or, take, drop}
use Rattle.rules.specs.Objectives.{aim_of}

-- the figures of the next train where so many of `count` are left; none where no train is
unfoldable pub next_figures : ℕ → List ℤ → List ℕ → ℕ → ℕ → List ℤ
next_figures objective list places count left =
    cond (eqb left 0) []
    (take (aim_of objective).numbers (drop (get_or places (count - left) 0 * (aim_of objective).numbers) list))

-- the list holds the figures of every place that a train left can have
pub record Queued (objective : ℕ) (list : List ℤ) (places : List ℕ) (count left : ℕ) : Type 0 where
  pub few : count ≤ 48
  pub some : left ≤ count
  pub held : (k : ℕ) → k < count → get_or places k 0 * (aim_of objective).numbers + (aim_of objective).numbers ≤ length list
