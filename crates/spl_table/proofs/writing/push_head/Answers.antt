use Rattle.std.proofs.Common.{◌++◌, ◌∙◌, ap, decimal, arith}
use Rattle.spl_field.specs.SmallField.{characteristic, modulus_of}
use Rattle.spl_field.specs.declared.small.SmallField.{SmallField}
use Rattle.spl_text.specs.Text.{coefficients_text}
use Rattle.spl_table.specs.Table.{field_of, degree_of}
use Rattle.spl_table.proofs.CanonicalLines.{head_written}
use Rattle.spl_table.proofs.writing.push_head.Goals as goal

pub returns : goal.returns
returns c =
    let f : SmallField = field_of c.args.table.now in
    head_written c.args.out.now.items c.extend_from_slice.new.self.items c.push_number.new.out.items
    c.extend_from_slice-2.new.self.items c.push_coefficients.new.out.items c.extend_from_slice-3.new.self.items
    c.push_number-2.new.out.items c.extend_from_slice-4.new.self.items (characteristic f)
    (degree_of c.args.table.now) (modulus_of f) (omega (arith, f.some_number))
    c.in_ok-extend_from_slice.ensures.items
    (c.in_ok-push_number.ensures.ok ∙ ap (λ p. c.extend_from_slice.new.self.items ++ decimal p)
    (c.from.ensures ∙ c.p.ensures.p ∙ ap characteristic c.field.ensures))
    c.in_ok-extend_from_slice-2.ensures.items
    (c.in_ok-push_coefficients.ensures.ok ∙ ap (λ m. c.extend_from_slice-2.new.self.items ++ coefficients_text m)
    (c.modulus.ensures ∙ ap modulus_of c.field-2.ensures))
    c.in_ok-extend_from_slice-3.ensures.items
    (c.in_ok-push_number-2.ensures.ok ∙ ap (λ n. c.extend_from_slice-3.new.self.items ++ decimal n)
    c.degree.ensures.degree)
    c.in_ok-extend_from_slice-4.ensures.items
