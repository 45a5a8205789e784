-- The word is put, then a field more at a time.
use Rattle.std.proofs.Common.{◌≡◌, ◌∙◌, rules, to_z, of_z, w64, get_or, pos}
use Rattle.section_file.proofs.Printed.{first_put, field_put}
use Rattle.section_file.proofs.lines.put_line.Goals as goal

pub loop-field-init : goal.loop-field-init
loop-field-init c = first_put 8192 c.args.page.now c.args.word.now _ c.put.ensures

pub loop-field-preserved : goal.loop-field-preserved
loop-field-preserved c =
    let k = c.loop-field.field-index in
    let fields = c.args.fields.now in
    let field : to_z w64 (of_z w64 (get_or fields k (pos 0))) ≡ get_or fields k (pos 0) = search rules in
    let number = rw (c.as_bytes.ensures.written, c.number.ensures.written) at c.put-in-loop-field-2.ensures in
    field_put 8192 c.loop-field.page fields k c.put-in-loop-field.ensures number field c.loop-field-test.true ∙ c.loop-field.invariant
