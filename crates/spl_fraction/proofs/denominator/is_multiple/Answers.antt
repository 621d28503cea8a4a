use Rattle.std.proofs.Common.{sym, subst}
use Rattle.spl_field.specs.SmallField.{small_ops, small_laws}
use Rattle.theory_fractions.specs.PolynomialLists.{Divides}
use Rattle.theory_fractions.proofs.CommonDenominators.{one_divides}
use Rattle.theory_fractions.proofs.PairEquations.{one_of_constant}
use Rattle.spl_lattice.proofs.GreatestDivisors.{divides_of_division}
use Rattle.spl_fraction.proofs.denominator.is_multiple.Goals as goal

pub returns-then-is_constant : goal.returns-then-is_constant
returns-then-is_constant c t =
    let o = small_ops c.args.f.now in
    let L = small_laws c.args.f.now in
    subst (λ x. Divides o x c.args.a.now)
    (sym (one_of_constant o L c.args.b.now (c.is_constant.ensures.0 c.if-is_constant.true) c.requires.monic))
    (one_divides o L c.args.a.now c.requires.a_over)

pub returns : goal.returns
returns c t =
    let d = c.in_ok-division in
    divides_of_division (small_ops c.args.f.now) (small_laws c.args.f.now) c.args.b.now c.args.a.now d.division.quotient
    d.division.remainder
    c.requires.b_over d.ensures.quotient_over d.ensures.value (c.is_zero.ensures.0 t)
