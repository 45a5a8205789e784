-- Words that are no numbers, or a file's numbers.
use Rattle.std.proofs.Common.{◌∙◌}
use Rattle.section_file.proofs.Files.{read_is}
use Rattle.section_file.proofs.file.read.Goals as goal

pub returns-in_err-count : goal.returns-in_err-count
returns-in_err-count c = c.from_residual.ensures ∙ read_is c.in_err-count.ensures c.if-text-gt16384.false

pub returns : goal.returns
returns c = c.find.ensures ∙ read_is c.in_ok-count.ensures c.if-text-gt16384.false
