use Rattle.theory_lifts.proofs.ListLifts.{residue_radical}
use Rattle.theory_lifts.proofs.lift_laws.residue_algebra_has_radical.Goals as goal

pub returns : goal.returns
returns g c =
    let a = g.A.ResidueAlgebra in
    residue_radical a.p a.two_le a.modulus a.positive a.operations a.by_digits a.laws a.divisor a.monic a.polynomials
    a.polynomials_is a.field a.field_is a.algebra a.dimension a.basis
