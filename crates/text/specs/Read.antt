-- What is found in a text by a reader that has room for 1,543 numbers: three sections of 512, the heading, and their counts.
-- A text with more numbers than that is unreadable too.
use Rattle.std.specs.Prelude.{cond, Option, Some, None, List, [], ◌∷◌, ◌≡◌, ℕ, ◌≤◌, leb, ℤ, length, take}
use Rattle.text.specs.Words.{words}
use Rattle.text.specs.Numbers.{number, numbers}
use Rattle.text.specs.Over.{over}

abbrev pub few : Option (List ℤ) → Option (List ℤ)
few (Some zs) = cond (leb (length zs) 1543) (Some zs) None
few None = None

-- what a count of numbers says, with the values that are left
abbrev pub shown : Option ℕ → List ℤ → Option (List ℤ)
shown (Some n) values = Some (take n values)
shown None values = None

abbrev pub counted : Option ℕ → ℕ
counted (Some n) = n
counted None = 0

-- the numbers of the words before the first that is no number
abbrev pub led_by : Option ℤ → List ℤ → List ℤ
led_by (Some z) zs = z ∷ zs
led_by None zs = []

abbrev pub leading : List (List ℕ) → List ℤ
leading [] = []
leading (w ∷ ws) = led_by (number w) (leading ws)

pub record Reads (text : List ℕ) (before : List ℤ) (r : Option ℕ) (values : List ℤ) : Type 0 where
  pub found : shown r values ≡ few (numbers text)
  pub leaves : values ≡ over (take 1543 (leading (words text))) before
  pub within : counted r ≤ 1543
  pub room : length values ≡ 1543
