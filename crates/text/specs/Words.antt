-- Text as words: bytes parted by spaces and line ends, of which any number may stand anywhere.
-- A byte is a number from 0 to 255.
use Rattle.std.specs.Prelude.{Bool, ◌||◌, cond, List, [], ◌∷◌, ◌++◌, ℕ, eqb}

-- a space, or a line end
unfoldable pub parts : ℕ → Bool
parts byte = eqb byte 32 || eqb byte 10

-- a word that has come to its end; between two such bytes there is none
abbrev pub ended : List ℕ → List (List ℕ)
ended [] = []
ended (b ∷ bs) = (b ∷ bs) ∷ []

-- the words of a text of which a word is begun
abbrev pub words_on : List ℕ → List ℕ → List (List ℕ)
words_on word [] = ended word
words_on word (b ∷ bs) = cond (parts b) (ended word ++ words_on [] bs) (words_on (word ++ (b ∷ [])) bs)

unfoldable pub words : List ℕ → List (List ℕ)
words text = words_on [] text
