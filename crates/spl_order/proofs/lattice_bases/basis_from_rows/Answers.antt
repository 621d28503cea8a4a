use Rattle.std.proofs.Common.{refl, [], get_or, length, subst, sym, All}
use Rattle.spl_field.specs.SmallField.{small_ops, small_laws}
use Rattle.theory_fractions.specs.PolynomialLists.{IsPolynomialList, Divides}
use Rattle.theory_rows.specs.Rows.{IsPolynomialMatrix}
use Rattle.theory_bases.specs.Bases.{IsDenominatorOf, fraction_over, tuples_of}
use Rattle.spl_order.specs.Values.{HasMatrix}
use Rattle.spl_order.proofs.RowBases.{denominator_nonzero, cofactor_nonzero, cofactor_divides, same_tuples, is_basis}
use Rattle.spl_order.proofs.lattice_bases.basis_from_rows.Goals as goal

pub least_denominator-requires-clause-rows : goal.least_denominator-requires-clause-rows
least_denominator-requires-clause-rows c =
    let o = small_ops c.args.f.now in
    subst (λ m. IsPolynomialMatrix o m c.as_slice.result.now) (sym c.len.ensures)
    (subst (IsPolynomialMatrix o (length c.args.rows.now)) (sym c.as_slice.ensures) c.requires.rows)

pub divide-requires-clause-nonzero : goal.divide-requires-clause-nonzero
divide-requires-clause-nonzero c =
    let o = small_ops c.args.f.now in
    let L = small_laws c.args.f.now in
    let e = c.in_ok-denominator.denominator in
    let p = c.in_ok-denominator.ensures in
    let D = subst (λ rs. IsDenominatorOf o (tuples_of o L (record { denominator = c.args.c.now; numerators = rs })) e)
    c.as_slice.ensures p.least in
    denominator_nonzero o L (length c.args.rows.now) c.args.c.now c.args.rows.now c.requires.c c.requires.nonzero
    c.requires.rows e p.polynomial D

pub row_quotients-requires-clause-nonzero : goal.row_quotients-requires-clause-nonzero
row_quotients-requires-clause-nonzero c =
    let o = small_ops c.args.f.now in
    let L = small_laws c.args.f.now in
    let e = c.in_ok-denominator.denominator in
    let p = c.in_ok-denominator.ensures in
    let d = c.in_ok-divisor.ensures in
    let D = subst (λ rs. IsDenominatorOf o (tuples_of o L (record { denominator = c.args.c.now; numerators = rs })) e)
    c.as_slice.ensures p.least in
    cofactor_nonzero o L (length c.args.rows.now) c.args.c.now c.args.rows.now c.requires.c c.requires.nonzero
    c.requires.rows e p.polynomial D c.in_ok-divisor.field-0.quotient c.in_ok-divisor.field-0.remainder
    record { over = d.quotient_over; trimmed = d.quotient_trimmed }
    record { over = d.remainder_over; trimmed = d.remainder_trimmed } d.value

pub row_quotients-requires-clause-rows : goal.row_quotients-requires-clause-rows
row_quotients-requires-clause-rows c =
    let o = small_ops c.args.f.now in
    subst (λ m. IsPolynomialMatrix o m c.as_slice-2.result.now) (sym c.len-2.ensures)
    (subst (IsPolynomialMatrix o (length c.args.rows.now)) (sym c.as_slice-2.ensures) c.requires.rows)

pub row_quotients-requires-clause-divides : goal.row_quotients-requires-clause-divides
row_quotients-requires-clause-divides c =
    let o = small_ops c.args.f.now in
    let L = small_laws c.args.f.now in
    let e = c.in_ok-denominator.denominator in
    let p = c.in_ok-denominator.ensures in
    let d = c.in_ok-divisor.ensures in
    let D = subst (λ rs. IsDenominatorOf o (tuples_of o L (record { denominator = c.args.c.now; numerators = rs })) e)
    c.as_slice.ensures p.least in
    subst (All (All (Divides o c.in_ok-divisor.field-0.quotient))) (sym c.as_slice-2.ensures)
    (cofactor_divides o L (length c.args.rows.now) c.args.c.now c.args.rows.now c.requires.c c.requires.nonzero
    c.requires.rows e p.polynomial D c.in_ok-divisor.field-0.quotient c.in_ok-divisor.field-0.remainder
    record { over = d.quotient_over; trimmed = d.quotient_trimmed }
    record { over = d.remainder_over; trimmed = d.remainder_trimmed } d.value)

pub returns : goal.returns
returns c =
    let o = small_ops c.args.f.now in
    let L = small_laws c.args.f.now in
    let rows = c.args.rows.now in
    let e = c.in_ok-denominator.denominator in
    let p = c.in_ok-denominator.ensures in
    let d = c.in_ok-divisor.ensures in
    let h = c.in_ok-divisor.field-0.quotient in
    let r = c.in_ok-divisor.field-0.remainder in
    let hh : IsPolynomialList o h = record { over = d.quotient_over; trimmed = d.quotient_trimmed } in
    let hr : IsPolynomialList o r = record { over = d.remainder_over; trimmed = d.remainder_trimmed } in
    let new = c.in_ok-numerators.numerators in
    let D = subst (λ rs. IsDenominatorOf o (tuples_of o L (record { denominator = c.args.c.now; numerators = rs })) e)
    c.as_slice.ensures p.least in
    let N = subst (λ m. HasMatrix o (λ i j. fraction_over o L h (get_or (get_or rows i []) j [])) (length rows) m new)
    c.len-2.ensures
    (subst (λ rs. HasMatrix o (λ i j. fraction_over o L h (get_or (get_or rs i []) j [])) (length rs) c.len-2.result new)
    c.as_slice-2.ensures c.in_ok-numerators.ensures) in
    record {
      basis = is_basis o L (length rows) c.args.c.now rows c.requires.c c.requires.nonzero c.requires.rows e
          p.polynomial D h r hh hr d.value new N refl c.requires.independent;
      tuples = same_tuples o L (length rows) c.args.c.now rows c.requires.c c.requires.nonzero c.requires.rows e
          p.polynomial D h r hh hr d.value new N;
    }
