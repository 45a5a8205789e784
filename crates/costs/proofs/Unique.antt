-- The promises of the table's columns settle their results.
use mathlib.Core.Path.{sym, ◌∙◌}
use Rattle.promises.specs.Settles.{Settles}
use Rattle.costs.proofs.listed.Reads as listed
use Rattle.costs.proofs.numbers.Reads as numbers
use Rattle.costs.proofs.most.Reads as most
use Rattle.costs.proofs.good.Reads as good
use Rattle.costs.proofs.cost.Reads as cost
use Rattle.costs.proofs.joined.Reads as joined

pub one_listed : Settles listed.Post
one_listed κs args r r' exit exit' p q = p ∙ sym q

pub one_numbers : Settles numbers.Post
one_numbers κs args r r' exit exit' p q = p ∙ sym q

pub one_most : Settles most.Post
one_most κs args r r' exit exit' p q = p ∙ sym q

pub one_good : Settles good.Post
one_good κs args r r' exit exit' p q = p ∙ sym q

pub one_cost : Settles cost.Post
one_cost κs args r r' exit exit' p q = p ∙ sym q

pub one_joined : Settles joined.Post
one_joined κs args r r' exit exit' p q = p ∙ sym q
