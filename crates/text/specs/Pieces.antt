-- What the reader's private functions answer, beside the grammar's own definitions.
-- No public promise cites these.
use Rattle.std.specs.Prelude.{◌&&◌, cond, Option, Some, None, List, ℕ, leb}
use Rattle.text.specs.Numbers.{plain, amount}

-- what a plain word's digits come to, where that is a number of 32 bits
unfoldable pub held : List ℕ → Option ℕ
held word = cond (plain word && leb (amount word) 4294967295) (Some (amount word)) None
