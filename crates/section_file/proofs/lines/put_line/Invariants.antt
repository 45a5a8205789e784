-- The loop's invariant: with the fields that are left, the page has the line.
use Rattle.std.proofs.Common.{◌≡◌, ◌++◌, ◌∷◌, map, take, drop}
use Rattle.text.specs.Written.{signed}
use Rattle.section_file.specs.Lines.{line}
use Rattle.section_file.proofs.Printed.{ending}
use Rattle.section_file.proofs.lines.put_line.Given as goal

abbrev pub invariant-loop-field : goal.invariant-loop-field
invariant-loop-field l =
    take 8192 (l.page ++ ending (map signed (drop l.field-index l.fields))) ≡ take 8192 (l.fn.page ++ line (l.word ∷ map signed l.fields))
