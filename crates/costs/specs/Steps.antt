-- The rule of a row step by step. The step after k others has figure 1 + k for its start, 9 + k for its cost.
use Rattle.std.specs.Prelude.{Bool, true, cond, ◌&&◌, List, ℕ, ◌+◌, ◌-◌, eqb, ltb, ℤ, pos}
use Rattle.std.specs.Int.Signed.{le_z, lt_z}
use Rattle.rules.specs.Figures.{figure, within, is_zero}

abbrev pub bounded : List ℤ → ℕ → Bool
bounded x k = le_z (figure x (1 + k)) (pos 1000000) && within (pos 0) (pos 1000000) (figure x (9 + k))

-- it starts after the one before it and costs no less
abbrev pub above : List ℤ → ℕ → Bool
above x k = lt_z (figure x (1 + (k - 1))) (figure x (1 + k)) && le_z (figure x (9 + (k - 1))) (figure x (9 + k))

-- the first one has none before it
abbrev pub climbs : List ℤ → ℕ → Bool
climbs x k = cond (eqb k 0) true (above x k)

abbrev pub nothing : List ℤ → ℕ → Bool
nothing x k = is_zero (figure x (1 + k)) && is_zero (figure x (9 + k))

-- a used one is within bounds and climbs, any other is 0
abbrev pub good_step : List ℤ → ℕ → ℕ → Bool
good_step x used k = cond (ltb k used) (bounded x k && climbs x k) (nothing x k)
