-- The judge's promise settles its answer.
use mathlib.Core.Path.{sym, ◌∙◌}
use Rattle.promises.specs.Settles.{Settles}
use Rattle.rules.proofs.Answers.{same_answer}
use Rattle.judge.proofs.judge.Reads as judge

pub one_answer : Settles judge.Post
one_answer κs args r r' exit exit' p q = same_answer r r' (p ∙ sym q)
