-- The promises of `refused`, `answered` and `refusal` settle their results.
use mathlib.Core.Path.{sym, ◌∙◌}
use lib.IntN.{pos}
use Rattle.promises.specs.Settles.{Settles}
use Rattle.rules.proofs.Answers.{same_answer}
use Rattle.refusals.proofs.Reasons.{same_check}
use Rattle.refusals.proofs.refused.Reads as refused
use Rattle.refusals.proofs.answered.Reads as answered
use Rattle.refusals.proofs.refusal.Reads as refusal

pub one_refused : Settles refused.Post
one_refused κs args r r' exit exit' p q = same_answer r r' (p ∙ sym q)

pub one_answered : Settles answered.Post
one_answered κs args r r' exit exit' p q = same_answer r r' (p ∙ sym q)

pub one_refusal : Settles refusal.Post
one_refusal κs args r r' exit exit' p q = same_check r r' (pos 0) (p ∙ sym q)
