-- The range counts up from the first train, and each is tried.
use Rattle.std.proofs.Common.{rules}
use Rattle.std.proofs.iter.runs.Sources.{ranges}
use Rattle.judge.specs.Recorded.{clash}
use Rattle.judge.proofs.recorded.Recorded.first_conflict.Goals as goal

pub returns : goal.returns
unfolding clash
returns c = search (rules, ranges)
