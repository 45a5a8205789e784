-- A line with its trains: how long one train waits for another, and what a departure costs.
-- `Line` is the data and `Lawful` the laws that the theorems rest on.
use Rattle.std.specs.Prelude.{ℕ, ◌+◌, ◌≤◌, ◌<◌}
use Rattle.theory.specs.Values.{Values, Ordered}

pub record Line : Type 1 where
  pub values : Values
  pub Train : Type 0
  -- a train of which the laws of cost are known
  pub Good : Train → Type 0
  -- seconds from a departure of the first train to one of the second, at the least
  pub gap : Train → Train → ℕ
  -- the second from which a train may leave
  pub early : Train → ℕ
  -- the cost of a departure
  pub cost : Train → ℕ → values.Val

module _ (L : Line) where
  open L use {values, Train, Good, gap, cost}
  open values use {◌≼◌}

  infix 5 ◌≼◌
  pub record Lawful : Type 0 where
    pub ordered : Ordered values
    pub positive : (x y : Train) → 0 < gap x y
    pub triangle : (x y z : Train) → gap x z ≤ gap x y + gap y z
    pub rising : {x : Train} → Good x → {d e : ℕ} → d ≤ e → cost x d ≼ cost x e
