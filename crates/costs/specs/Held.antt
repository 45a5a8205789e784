-- A number held to 64 signed bits, as `saturating_add` holds a sum: the nearest that they hold.
-- What fits is itself (`held_fits`), and no value of an accepted section comes near their ends.
use Rattle.std.specs.Prelude.{ℤ}
use Rattle.std.specs.Int.{w64, saturate_signed}

abbrev pub held : ℤ → ℤ
held z = saturate_signed w64 z
