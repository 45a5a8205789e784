-- A buffer that was written over from its start: all that it then holds.
-- The promises of the functions that write bytes or numbers cite this.
use Rattle.std.specs.Prelude.{List, ◌++◌, length, drop}

-- these, and then what stood there after their places
unfoldable pub over : {A : Type 0} → List A → List A → List A
over written before = written ++ drop (length written) before
