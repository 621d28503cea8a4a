use Rattle.std.proofs.Common.{sym, subst, All, [], length, map, IsTrue, ◌↔◌}
use Rattle.std.proofs.lemmas.List.Elements.{All-from_get_or}
use Rattle.spl_field.specs.SmallField.{small_ops, small_laws}
use Rattle.spl_fraction.specs.Fractions.{field_of}
use Rattle.spl_fraction.specs.FractionsOver.{fractions_over}
use Rattle.theory_fractions.specs.PolynomialLists.{IsPolynomialList}
use Rattle.theory_fractions.specs.CommonDenominator.{Clears}
use Rattle.theory_fractions.proofs.CommonDenominators.{nonzero_of_monic}
use Rattle.theory_places.specs.Places.{Finite}
use Rattle.theory_places.specs.FractionPlaces.{IsIntegralAt}
use Rattle.theory_rows.specs.Rows.{IsPolynomialRow}
use Rattle.theory_bases.specs.TupleLattices.{TupleLattice}
use Rattle.theory_bases.specs.Bases.{fraction_over, tuples_of}
use Rattle.spl_numerators.specs.Numerators.{HasMultiples}
use Rattle.spl_order.specs.Members.{HasDividedProduct}
use Rattle.spl_order.proofs.NumeratorRows.{multiples-row, multiples-tuple}
use Rattle.spl_order.proofs.members_at.holds_at.Goals as goal

pub multiples_of-requires-clause-clears : goal.multiples_of-requires-clause-clears
multiples_of-requires-clause-clears c =
    let d = c.in_ok-denominator.denominator in
    subst (λ k. All (Clears (small_ops k) d) c.args.v.now) (sym c.field.ensures)
    (All-from_get_or (Clears (small_ops (field_of c.args.f.now)) d) c.args.v.now ([], [])
    c.in_ok-denominator.ensures.value.clears)

pub passes-requires-clause-row : goal.passes-requires-clause-row
passes-requires-clause-row c =
    let k = field_of c.args.f.now in
    let o = small_ops k in
    let L = small_laws k in
    let d = c.in_ok-denominator in
    let v = c.args.v.now in
    let row = c.in_ok-row.row in
    let p : IsPolynomialList o d.denominator = record { over = d.ensures.over; trimmed = d.ensures.trimmed } in
    let h = subst (λ q. HasMultiples (small_ops q) (small_laws q) d.denominator v (length v) row) c.field.ensures
    c.in_ok-row.ensures in
    subst (λ q. IsPolynomialRow (small_ops q) (length v) c.as_slice.result.now) (sym c.field-3.ensures)
    (subst (IsPolynomialRow o (length v)) (sym c.as_slice.ensures)
    (multiples-row o L d.denominator p (nonzero_of_monic o L d.denominator d.ensures.value.monic) (length v) v
    c.requires.v row h))

pub returns : goal.returns
returns c =
    let k = field_of c.args.f.now in
    let o = small_ops k in
    let L = small_laws k in
    let d = c.in_ok-denominator in
    let v = c.args.v.now in
    let row = c.in_ok-row.row in
    let test = c.in_ok-test.test in
    let p : IsPolynomialList o d.denominator = record { over = d.ensures.over; trimmed = d.ensures.trimmed } in
    let z = nonzero_of_monic o L d.denominator d.ensures.value.monic in
    let h = subst (λ q. HasMultiples (small_ops q) (small_laws q) d.denominator v (length v) row) c.field.ensures
    c.in_ok-row.ensures in
    let T = TupleLattice (fractions_over k) (IsIntegralAt o (Finite c.args.place.now)) (length v)
    (tuples_of o L c.args.order.now) in
    let H = HasDividedProduct o L test.part (length v) test.columns in
    let row-is = multiples-row o L d.denominator p z (length v) v c.requires.v row h in
    let tells : H row ↔ T (map (fraction_over o L d.denominator) row) =
    subst (λ q. HasDividedProduct (small_ops q) (small_laws q) test.part (length v) test.columns row
    ↔ TupleLattice (fractions_over q) (IsIntegralAt (small_ops q) (Finite c.args.place.now)) (length v)
    (tuples_of (small_ops q) (small_laws q) c.args.order.now)
    (map (fraction_over (small_ops q) (small_laws q) d.denominator) row)) c.field-2.ensures
    (c.in_ok-test.ensures.tells row (subst (λ q. IsPolynomialRow (small_ops q) (length v) row) (sym c.field-2.ensures)
    row-is)) in
    let passes : IsTrue c.in_ok-passed.passed ↔ H row =
    subst (λ z. IsTrue c.in_ok-passed.passed ↔ H z) c.as_slice.ensures
    (subst (λ q. IsTrue c.in_ok-passed.passed ↔ HasDividedProduct (small_ops q) (small_laws q) test.part (length v)
    test.columns c.as_slice.result.now) c.field-3.ensures c.in_ok-passed.ensures) in
    let same = multiples-tuple o L d.denominator p z (length v) v c.requires.v row h in (
      λ t. subst T same (tells.0 (passes.0 t)),
      λ t. passes.1 (tells.1 (subst T (sym same) t)),
    )
