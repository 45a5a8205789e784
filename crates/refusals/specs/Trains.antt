-- The trains of a list by their place alone: how many there are, and which break their rule.
use Rattle.std.specs.Prelude.{Bool, not, List, ℕ, ◌*◌, ◌/◌, ℤ, length, take, drop}
use Rattle.rules.specs.Objectives.{aim_of}

-- how many trains a list has
unfoldable pub trains_in : ℕ → List ℤ → ℕ
trains_in objective xs = length xs / (aim_of objective).numbers

-- the k-th train of a list breaks its rule
unfoldable pub bad_at : ℕ → List ℤ → ℕ → Bool
bad_at objective xs k =
    not ((aim_of objective).good (take (aim_of objective).numbers (drop (k * (aim_of objective).numbers) xs)))
