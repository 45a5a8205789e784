-- A schedule listed in the order in which its trains leave.
-- Any safe schedule can be listed so.
use Rattle.std.specs.Prelude.{List}
use Rattle.theory.specs.Schedule.{Run}
use Rattle.theory.specs.Queue.{queue, smaller}

abbrev pub timed : {X : Type 0} → List (Run X) → List (Run X)
timed rs = queue (smaller (λ r. r.departure)) rs
