-- The promises of the line's functions settle their results.
use mathlib.Core.Path.{sym, ◌∙◌}
use Rattle.promises.specs.Settles.{Settles}
use Rattle.line.proofs.same.Reads as same
use Rattle.line.proofs.gap.Reads as gap
use Rattle.line.proofs.arrival.Reads as arrival
use Rattle.line.proofs.apart.Reads as apart

pub one_same : Settles same.Post
one_same κs args r r' exit exit' p q = p ∙ sym q

pub one_gap : Settles gap.Post
one_gap κs args r r' exit exit' p q = p ∙ sym q

pub one_arrival : Settles arrival.Post
one_arrival κs args r r' exit exit' p q = p ∙ sym q

pub one_apart : Settles apart.Post
one_apart κs args r r' exit exit' p q = p ∙ sym q
