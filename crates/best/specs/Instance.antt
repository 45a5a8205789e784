-- A section as a line of the theory: its trains, their gaps and their costs.
-- No train waits for a second of its own: each may leave from second 0.
use Rattle.std.specs.Prelude.{T, Bool}
use Rattle.rules.specs.Line.{gap}
use Rattle.rules.specs.Trains.{Section, aim, Train}
use Rattle.rules.specs.Value.{cost_of}
use Rattle.theory.specs.Line.{Line}
use Rattle.best.specs.Fair.{Fair}

abbrev pub ahead_in : Section → Train → Train → Bool
ahead_in S x y = (aim S).ahead x.figures y.figures

abbrev pub line : (S : Section) → Fair (aim S) → Line
line S F =
    record {
      values = F.values;
      Train = Train;
      Good = λ x. T ((aim S).good x.figures);
      gap = λ x y. gap S.timing x.station y.station;
      early = λ x. 0;
      cost = λ x d. F.grade (cost_of S (record { train = x; departure = d }));
    }
