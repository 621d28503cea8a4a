use Rattle.std.proofs.Common.{◌*◌, subst, sym}
use Rattle.theory_rings.specs.Polynomial.{degree}
use Rattle.theory_fractions.specs.PolynomialLists.{IsPolynomialList, IsProduct}
use Rattle.theory_fractions.specs.CommonDenominator.{IsCommonDenominator}
use Rattle.theory_growth.specs.Growths.{GrowthBound}
use Rattle.spl_field.specs.SmallField.{small_ops, small_laws}
use Rattle.spl_fraction.specs.Fractions.{field_of}
use Rattle.spl_local.specs.Growth.{small_tuples}
use Rattle.spl_local.proofs.Bounds.{square_bounds}
use Rattle.spl_local.proofs.settle.growth_bound.Goals as goal

pub returns : goal.returns
returns c = λ m S.
    let F = field_of c.args.f.now in
    let o = small_ops F in
    let L = small_laws F in
    let A = c.args.a.now in
    let b = c.in_ok-duals in
    let T = small_tuples F c.args.order.now in
    let he : IsPolynomialList o c.in_ok-e.e =
    record { over = c.in_ok-e.ensures.over; trimmed = c.in_ok-e.ensures.trimmed } in
    let H : IsCommonDenominator o A.constants c.in_ok-e.e =
    subst (λ x. IsCommonDenominator o x c.in_ok-e.e) c.constants.ensures.value c.in_ok-e.ensures.value in
    let ps : IsProduct o b.duals.denominator c.in_ok-e.e c.in_ok-s.s =
    subst (λ q. IsProduct (small_ops q) b.duals.denominator c.in_ok-e.e c.in_ok-s.s) c.field.ensures
    (subst (λ x. IsProduct (small_ops c.field.result.now) x c.in_ok-e.e c.in_ok-s.s) c.denominator.ensures.value
    c.in_ok-s.ensures.value) in
    let hs : IsPolynomialList o c.in_ok-s.s =
    subst (λ q. IsPolynomialList (small_ops q) c.in_ok-s.s) c.field.ensures
    (record { over = c.in_ok-s.ensures.over; trimmed = c.in_ok-s.ensures.trimmed }) in
    let pc : IsProduct o c.in_ok-s.s c.in_ok-s.s c.in_ok-c.c =
    subst (λ q. IsProduct (small_ops q) c.in_ok-s.s c.in_ok-s.s c.in_ok-c.c) c.field-2.ensures
    c.in_ok-c.ensures.value in
    let hc : IsPolynomialList o c.in_ok-c.c =
    subst (λ q. IsPolynomialList (small_ops q) c.in_ok-c.c) c.field-2.ensures
    (record { over = c.in_ok-c.ensures.over; trimmed = c.in_ok-c.ensures.trimmed }) in
    subst (GrowthBound o L A m T) (sym c.times_degree.ensures)
    (subst (λ n. GrowthBound o L A m T (n * degree c.in_ok-c.c)) (sym c.dim.ensures.dim)
    (square_bounds o L A c.requires.over c.requires.associative T c.requires.order b.duals
    b.ensures.basis b.ensures.dual c.in_ok-e.e he H c.in_ok-s.s hs ps c.in_ok-c.c hc pc m S))
