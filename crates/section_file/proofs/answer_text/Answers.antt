-- The page has room for the whole answer.
use Rattle.section_file.proofs.Outcomes.{whole_answer}
use Rattle.section_file.proofs.answer_text.Goals as goal

pub returns : goal.returns
returns c =
    let (written, within) = whole_answer c.args.text.now _ _ c.new-page.ensures c.put_text.ensures in
    record { written = written; within = within }
