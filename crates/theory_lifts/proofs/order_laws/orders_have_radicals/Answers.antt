use Rattle.std.specs.Prelude.{◌*◌, length}
use Rattle.std.proofs.Common.{◌∙◌}
use Rattle.theory_rings.specs.Polynomial.{degree}
use Rattle.theory_rings.proofs.FiniteFields.ElementsByDigits.{prime_by_digits}
use Rattle.theory_lifts.proofs.ResidueRoots.{pow_of_pow, residues, size-residues}
use Rattle.theory_lifts.proofs.ListLifts.{residue_radical, residue_characteristic}
use Rattle.theory_lifts.proofs.OrderRadicals.{orders_have_radicals, orders_have_maximal_ideals}
use Rattle.theory_lifts.proofs.order_laws.orders_have_radicals.Goals as goal

pub returns-clause-radical : goal.returns-clause-radical
returns-clause-radical g c =
    let a = g.A.PlaceAlgebra in
    orders_have_radicals a.field a.valuation a.p a.q a.uniformizer a.residue_field a.residue a.algebra a.dimension
    a.basis
    (λ B w. residue_radical a.characteristic a.two_le a.modulus a.positive a.operations a.by_digits a.laws a.divisor
    a.monic a.polynomials a.polynomials_is
    a.residue_field a.residue_field_is B a.dimension w)

pub returns-clause-maximal : goal.returns-clause-maximal
returns-clause-maximal g c =
    let a = g.A.PlaceAlgebra in
    let size = size-residues a.characteristic a.two_le a.modulus a.positive a.operations a.by_digits a.laws a.divisor
    a.monic a.residue_field in (
      residues a.characteristic a.two_le a.modulus a.positive a.operations a.by_digits a.laws a.divisor a.monic
          a.residue_field,
      size,
      orders_have_maximal_ideals a.field a.valuation a.p a.q a.uniformizer a.residue_field a.residue a.algebra
          a.dimension a.basis
          (λ B w. residue_radical a.characteristic a.two_le a.modulus a.positive a.operations a.by_digits a.laws
          a.divisor a.monic a.polynomials a.polynomials_is
          a.residue_field a.residue_field_is B a.dimension w)
          (residues a.characteristic a.two_le a.modulus a.positive a.operations a.by_digits a.laws a.divisor a.monic
          a.residue_field)
          a.characteristic (length a.modulus * degree a.divisor.0)
          (prime_by_digits a.characteristic a.two_le a.modulus a.positive a.operations a.by_digits)
          (residue_characteristic a.characteristic a.two_le a.modulus a.positive a.operations a.by_digits a.laws
          a.divisor a.monic a.polynomials a.polynomials_is
          a.residue_field a.residue_field_is)
          (size ∙ pow_of_pow a.characteristic (length a.modulus) (degree a.divisor.0)) a.Quotient,
    )
