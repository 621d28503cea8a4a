use Rattle.std.proofs.Common.{[], get_or, length, subst, sym, ap, ◌∙◌, All}
use Rattle.theory_rings.specs.Ops.{IsElem}
use Rattle.theory_rings.specs.Sum.{table}
use Rattle.theory_rings.proofs.Sums.Lists.{length-table}
use Rattle.spl_field.specs.SmallField.{small_ops, small_laws}
use Rattle.spl_fraction.specs.Fractions.{field_of}
use Rattle.spl_fraction.specs.FractionsOver.{fractions_over}
use Rattle.theory_fractions.specs.PolynomialLists.{IsOver}
use Rattle.theory_fractions.specs.FractionOps.{fraction_ops}
use Rattle.theory_fractions.specs.CommonDenominator.{as_fraction, Clears, IsCommonDenominator}
use Rattle.theory_fractions.proofs.CommonDenominators.{nonzero_of_monic}
use Rattle.theory_tables.specs.Matrix.{entry}
use Rattle.theory_tables.specs.Traces.{trace, trace_matrix}
use Rattle.theory_tables.specs.Structure.{product_of, basis_of}
use Rattle.theory_bases.specs.Joined.{joined}
use Rattle.spl_order.specs.Rows.{AreNumeratorRows}
use Rattle.spl_order.specs.Values.{HasMatrix}
use Rattle.spl_order.proofs.ClearedForms.{joined-elems, tuples_cleared, numerator_values}
use Rattle.spl_order.proofs.forms.cleared_form.Goals as goal

pub joined_fractions-requires : goal.joined_fractions-requires
joined_fractions-requires c =
    subst (All (All (IsElem (fractions_over (field_of c.args.f.now))))) (sym c.as_slice.ensures)
    (λ i d l. let t = c.in_ok-form.ensures.shape i d l in t.of_elements)

pub common_denominator-requires : goal.common_denominator-requires
common_denominator-requires c =
    let F = field_of c.args.f.now in
    subst (All (IsElem (fractions_over F)))
    (sym (c.as_slice-2.ensures ∙ c.in_ok-list.ensures
    ∙ ap (λ t. joined (length t) (λ i. get_or t i [])) c.as_slice.ensures))
    (joined-elems (small_ops F) (small_laws F) c.args.a.now.dim c.in_ok-form.form c.in_ok-form.ensures.shape)

pub numerator_rows-requires-clause-c_over : goal.numerator_rows-requires-clause-c_over
numerator_rows-requires-clause-c_over c =
    subst (λ q. IsOver (small_ops q) c.in_ok-denominator.denominator) (sym c.field.ensures)
    c.in_ok-denominator.ensures.over

pub numerator_rows-requires-clause-c_trimmed : goal.numerator_rows-requires-clause-c_trimmed
numerator_rows-requires-clause-c_trimmed c = c.in_ok-denominator.ensures.trimmed

pub numerator_rows-requires-clause-elems : goal.numerator_rows-requires-clause-elems
numerator_rows-requires-clause-elems c =
    subst (λ q. All (All (IsElem (fractions_over q))) c.as_slice-3.result.now) (sym c.field.ensures)
    (subst (All (All (IsElem (fractions_over (field_of c.args.f.now))))) (sym c.as_slice-3.ensures)
    (λ i d l. let t = c.in_ok-form.ensures.shape i d l in t.of_elements))

pub numerator_rows-requires-clause-clears : goal.numerator_rows-requires-clause-clears
numerator_rows-requires-clause-clears c =
    let F = field_of c.args.f.now in
    let d = c.in_ok-denominator.denominator in
    let e = c.as_slice-2.ensures ∙ c.in_ok-list.ensures
    ∙ ap (λ t. joined (length t) (λ i. get_or t i [])) c.as_slice.ensures in
    subst (λ q. All (All (Clears (small_ops q) d)) c.as_slice-3.result.now) (sym c.field.ensures)
    (subst (All (All (Clears (small_ops F) d))) (sym c.as_slice-3.ensures)
    (tuples_cleared (small_ops F) (small_laws F) c.in_ok-form.form d
    (subst (λ l. IsCommonDenominator (small_ops F) l d) e c.in_ok-denominator.ensures.value)))

pub returns : goal.returns
returns c =
    let F = field_of c.args.f.now in
    let o = small_ops F in
    let L = small_laws F in
    let K = fraction_ops o L in
    let A = c.args.a.now in
    let d = c.in_ok-denominator.denominator in
    let p = c.in_ok-denominator.ensures in
    let form = c.in_ok-form.form in
    let rows = c.in_ok-numerators.numerators in
    let R = subst (λ t. AreNumeratorRows o L d t (length t) rows) c.as_slice-3.ensures
    (subst (λ q. AreNumeratorRows (small_ops q) (small_laws q) d c.as_slice-3.result.now
    (length c.as_slice-3.result.now) rows) c.field.ensures c.in_ok-numerators.ensures) in
    let count = ap length c.in_ok-form.ensures.value
    ∙ length-table A.dim (λ i. table A.dim (λ j. trace K A (product_of K A (basis_of K A i) (basis_of K A j)))) in
    record {
      polynomial = record { over = p.over; trimmed = p.trimmed };
      nonzero = let v = p.value in nonzero_of_monic o L d v.monic;
      values = subst (λ h. HasMatrix o (λ i j. K.mul (as_fraction o d) (entry K (trace_matrix K A) i j)) h A.dim rows)
          count
          (subst (λ t. HasMatrix o (λ i j. K.mul (as_fraction o d) (entry K t i j)) (length form) A.dim rows)
          c.in_ok-form.ensures.value
          (numerator_values o L A.dim form c.in_ok-form.ensures.shape d rows R));
    }
