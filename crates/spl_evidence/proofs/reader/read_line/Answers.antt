use Rattle.std.proofs.Common.{◌≡◌, refl, ap, ◌∙◌}
use Rattle.spl_field.specs.SmallField.{size_of}
use Rattle.spl_fraction.specs.Fractions.{field_of}
use Rattle.spl_evidence.proofs.ReadLines.{form_fault, range_fault, order_fault, line_read}
use Rattle.spl_evidence.proofs.reader.read_line.Goals as goal

pub returns-in_default-clause-fault : goal.returns-in_default-clause-fault
returns-in_default-clause-fault c =
    let f = field_of c.args.f.now in
    let size : c.from-q.result ≡ size_of f = c.from-q.ensures ∙ c.size.ensures.size ∙ ap size_of c.field.ensures in
    λ after. rw c.at.ensures (
      refl,
      form_fault f c.args.n c.args.before.now c.args.text.now c.due.result.now c.from-q.result c.due.ensures size
          c.requires.one_line c.requires.some_due (rw c.in_default.is at c.in_ok-line.ensures) after,
    )

pub returns-then-not-is_in_range-clause-fault : goal.returns-then-not-is_in_range-clause-fault
returns-then-not-is_in_range-clause-fault c =
    let f = field_of c.args.f.now in
    let size : c.from-q.result ≡ size_of f = c.from-q.ensures ∙ c.size.ensures.size ∙ ap size_of c.field.ensures in
    λ after. rw c.at-then-not-is_in_range.ensures (
      refl,
      range_fault f c.args.n c.args.before.now c.args.text.now c.due.result.now c.from-q.result c.due.ensures size
          c.requires.one_line c.requires.some_due c.in-Some.line (rw c.in-Some.is at c.in_ok-line.ensures)
          c.is_in_range.result c.is_in_range.ensures c.if-not-is_in_range.true after,
    )

pub returns-then-not-is_in_order-clause-fault : goal.returns-then-not-is_in_order-clause-fault
returns-then-not-is_in_order-clause-fault c =
    let f = field_of c.args.f.now in
    let size : c.from-q.result ≡ size_of f = c.from-q.ensures ∙ c.size.ensures.size ∙ ap size_of c.field.ensures in
    λ after. rw c.at-then-not-is_in_order.ensures (
      refl,
      order_fault f c.args.n c.args.before.now c.args.text.now c.due.result.now c.from-q.result c.due.ensures size
          c.requires.one_line c.requires.some_due c.in-Some.line (rw c.in-Some.is at c.in_ok-line.ensures)
          c.is_in_range.result c.is_in_range.ensures c.if-not-is_in_range.false c.is_in_order.result
          c.is_in_order.ensures c.if-not-is_in_order.true after,
    )

pub returns-clause-ok : goal.returns-clause-ok
returns-clause-ok c =
    let f = field_of c.args.f.now in
    let size : c.from-q.result ≡ size_of f = c.from-q.ensures ∙ c.size.ensures.size ∙ ap size_of c.field.ensures in
    line_read f c.args.n c.args.before.now c.args.text.now c.due.result.now c.from-q.result c.due.ensures size
    c.requires.one_line c.requires.some_due c.in-Some.line (rw c.in-Some.is at c.in_ok-line.ensures)
    c.is_in_range.result c.is_in_range.ensures c.if-not-is_in_range.false c.is_in_order.result c.is_in_order.ensures
    c.if-not-is_in_order.false
