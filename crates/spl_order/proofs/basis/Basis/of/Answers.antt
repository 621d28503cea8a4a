use Rattle.std.proofs.Common.{refl, ◌∙◌, sym, subst}
use Rattle.std.proofs.lemmas.Option.{none-some}
use Rattle.spl_field.specs.SmallField.{small_ops}
use Rattle.spl_poly.specs.Operations.{IsOver}
use Rattle.spl_fraction.specs.Fractions.{field_of}
use Rattle.spl_order.proofs.BasisSteps.{tuples-elems, items-elems, common_of_items, tuples-cleared, rows_of_call}
use Rattle.spl_order.proofs.BasisSteps.{rows-wide, tuples-again, basis_of_empty, dependent_of_some}
use Rattle.spl_order.proofs.basis.Basis.of.Goals as goal

pub joined_fractions-requires : goal.joined_fractions-requires
joined_fractions-requires c =
    let F = field_of c.args.f.now in
    tuples-elems F c.args.tuples.now c.requires c.as_slice.result.now c.as_slice.ensures F refl

pub common_denominator-requires : goal.common_denominator-requires
common_denominator-requires c =
    items-elems (field_of c.args.f.now) c.args.tuples.now c.requires c.as_slice.result.now c.as_slice.ensures
    c.in_ok-list.list c.as_slice-2.result.now c.in_ok-list.ensures c.as_slice-2.ensures

pub numerator_rows-requires-clause-c_over : goal.numerator_rows-requires-clause-c_over
numerator_rows-requires-clause-c_over c =
    subst (λ q. IsOver (small_ops q) c.in_ok-denominator.denominator) (sym c.field.ensures)
    c.in_ok-denominator.ensures.over

pub numerator_rows-requires-clause-c_trimmed : goal.numerator_rows-requires-clause-c_trimmed
numerator_rows-requires-clause-c_trimmed c = c.in_ok-denominator.ensures.trimmed

pub numerator_rows-requires-clause-elems : goal.numerator_rows-requires-clause-elems
numerator_rows-requires-clause-elems c =
    tuples-elems (field_of c.args.f.now) c.args.tuples.now c.requires c.as_slice-3.result.now c.as_slice-3.ensures
    c.field.result.now c.field.ensures

pub numerator_rows-requires-clause-clears : goal.numerator_rows-requires-clause-clears
numerator_rows-requires-clause-clears c =
    let F = field_of c.args.f.now in
    let ts = c.args.tuples.now in
    let d = c.in_ok-denominator.denominator in
    tuples-cleared F ts c.requires c.as_slice-3.result.now c.as_slice-3.ensures d
    (common_of_items F ts c.requires c.as_slice.result.now c.as_slice.ensures c.in_ok-list.list
    c.as_slice-2.result.now c.in_ok-list.ensures c.as_slice-2.ensures d c.in_ok-denominator.ensures.value)
    c.field.result.now c.field.ensures

pub kernel-requires : goal.kernel-requires
kernel-requires c =
    let F = field_of c.args.f.now in
    let ts = c.args.tuples.now in
    let d = c.in_ok-denominator.denominator in
    let rows = c.in_ok-numerators.numerators in
    let p = c.in_ok-denominator.ensures in
    rows-wide F ts c.requires d (record { over = p.over; trimmed = p.trimmed })
    (common_of_items F ts c.requires c.as_slice.result.now c.as_slice.ensures c.in_ok-list.list
    c.as_slice-2.result.now c.in_ok-list.ensures c.as_slice-2.ensures d p.value)
    rows (rows_of_call F ts c.requires c.as_slice-3.result.now c.as_slice-3.ensures d rows c.field.result.now
    c.field.ensures c.in_ok-numerators.ensures)
    c.field-2.result.now c.field-2.ensures

pub returns-then-is_empty-clause-none : goal.returns-then-is_empty-clause-none
returns-then-is_empty-clause-none c = λ e f. none-some _ (sym e)

pub returns-then-is_empty-clause-basis : goal.returns-then-is_empty-clause-basis
returns-then-is_empty-clause-basis c =
    let F = field_of c.args.f.now in
    let ts = c.args.tuples.now in
    let d = c.in_ok-denominator.denominator in
    let rows = c.in_ok-numerators.numerators in
    let p = c.in_ok-denominator.ensures in
    basis_of_empty F ts c.requires d (record { over = p.over; trimmed = p.trimmed })
    (common_of_items F ts c.requires c.as_slice.result.now c.as_slice.ensures c.in_ok-list.list
    c.as_slice-2.result.now c.in_ok-list.ensures c.as_slice-2.ensures d p.value)
    rows (rows_of_call F ts c.requires c.as_slice-3.result.now c.as_slice-3.ensures d rows c.field.result.now
    c.field.ensures c.in_ok-numerators.ensures)
    c.field-2.result.now c.field-2.ensures c.in_ok-kernel.field-0 c.in_ok-kernel.ensures
    (sym c.is_empty.ensures ∙ c.if-is_empty.true)

pub returns-then-is_empty-clause-tuples : goal.returns-then-is_empty-clause-tuples
returns-then-is_empty-clause-tuples c =
    let F = field_of c.args.f.now in
    let ts = c.args.tuples.now in
    let d = c.in_ok-denominator.denominator in
    let rows = c.in_ok-numerators.numerators in
    let p = c.in_ok-denominator.ensures in
    tuples-again F ts c.requires d (record { over = p.over; trimmed = p.trimmed })
    (common_of_items F ts c.requires c.as_slice.result.now c.as_slice.ensures c.in_ok-list.list
    c.as_slice-2.result.now c.in_ok-list.ensures c.as_slice-2.ensures d p.value)
    rows (rows_of_call F ts c.requires c.as_slice-3.result.now c.as_slice-3.ensures d rows c.field.result.now
    c.field.ensures c.in_ok-numerators.ensures)
    c.field-2.result.now c.field-2.ensures

pub returns-clause-none : goal.returns-clause-none
returns-clause-none c = λ e.
    let F = field_of c.args.f.now in
    let ts = c.args.tuples.now in
    let d = c.in_ok-denominator.denominator in
    let rows = c.in_ok-numerators.numerators in
    let p = c.in_ok-denominator.ensures in
    dependent_of_some F ts c.requires d (record { over = p.over; trimmed = p.trimmed })
    (common_of_items F ts c.requires c.as_slice.result.now c.as_slice.ensures c.in_ok-list.list
    c.as_slice-2.result.now c.in_ok-list.ensures c.as_slice-2.ensures d p.value)
    rows (rows_of_call F ts c.requires c.as_slice-3.result.now c.as_slice-3.ensures d rows c.field.result.now
    c.field.ensures c.in_ok-numerators.ensures)
    c.field-2.result.now c.field-2.ensures c.in_ok-kernel.field-0 c.in_ok-kernel.ensures
    (sym c.is_empty.ensures ∙ c.if-is_empty.false)
