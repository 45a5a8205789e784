-- The promise of `answer_text` settles its result: the whole page.
use Rattle.std.proofs.Common.{sym, ◌∙◌}
use Rattle.promises.specs.Settles.{Settles}
use Rattle.section_file.proofs.answer_text.Reads as answer_text

pub one_text : Settles answer_text.Post
one_text κs args r r' exit exit' p q = p.0 ∙ sym q.0
