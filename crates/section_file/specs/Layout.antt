-- The section file's numbers: four sections in a fixed order, each after its count, and nothing after the last.
-- The heading has three: the objective, the running time and the headway.
use Rattle.std.specs.Prelude.{Bool, true, false, ◌&&◌, ◌||◌, cond, Option, Some, None, option_and_then, List, [], ◌∷◌, map, ℕ, leb, ℤ, pos, nat_abs, length, take, drop}
use Rattle.std.specs.Int.Signed.{le_z}
use Rattle.std.specs.List.{list_all}
use Rattle.rules.specs.Figures.{figure, within}
use Rattle.rules.specs.Trains.{Section, asked}

-- a section's numbers and what follows it, where a section begins: a count from `least` to `most`, and so many numbers
-- a minus may stand only where `minus` says so
abbrev pub section_of : ℕ → ℕ → Bool → List ℤ → Option (List ℤ × List ℤ)
section_of least most minus [] = None
section_of least most minus (n ∷ zs) =
    cond (within (pos least) (pos most) n && leb (nat_abs n) (length zs) && (minus || list_all (le_z (pos 0)) (take (nat_abs n) zs)))
    (Some (take (nat_abs n) zs, drop (nat_abs n) zs)) None

-- a section to plan, or recorded departures of it to judge
pub record File : Type 0 where
  pub section : Section
  pub recorded : List ℕ

-- the file of a heading, two lists and recorded departures, where nothing follows
abbrev pub ended : List ℤ → List ℤ → List ℤ → List ℤ → List ℤ → Option File
ended h xs ys ds [] =
    Some (record {
      section = asked (nat_abs (figure h 0)) (record { running = nat_abs (figure h 1); headway = nat_abs (figure h 2) }) xs ys;
      recorded = map nat_abs ds;
    })
ended h xs ys ds (z ∷ zs) = None

-- what follows a section that begins, if one does
abbrev pub after : Option (List ℤ × List ℤ) → (List ℤ → List ℤ → Option File) → Option File
after section next = option_and_then (λ p. next p.0 p.1) section

unfoldable pub laid_out : List ℤ → Option File
laid_out zs =
    after (section_of 3 3 false zs) (λ h zs.
    after (section_of 0 512 true zs) (λ xs zs.
    after (section_of 0 512 true zs) (λ ys zs.
    after (section_of 0 512 false zs) (λ ds zs.
    ended h xs ys ds zs))))
