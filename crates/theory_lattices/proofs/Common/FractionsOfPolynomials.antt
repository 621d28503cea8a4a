-- The polynomials and fractions that are named in the definitions are what they are named after.
use Rattle.std.proofs.Common.{refl}
use Rattle.theory_rings.specs.Ring.{FieldOn}
use Rattle.theory_rings.specs.Fraction.{IsLowest}
use Rattle.theory_rings.proofs.Polynomials.PolynomialRing.{is_polynomial_ring, constant, coefficient-constant}
use Rattle.theory_rings.proofs.Polynomials.Constants.{coefficient-variable}
use Rattle.theory_rings.proofs.Fractions.Fractions.{fraction_of_value}
use Rattle.theory_rings.proofs.Fractions.Lowest.{polynomial_reduction}
use Rattle.theory_lattices.specs.RationalFunctions.{polynomial_ring, AreFractionsOfPolynomials}

pub fractions_of_polynomials : {k : Type 0} (F : FieldOn k) → AreFractionsOfPolynomials F
fractions_of_polynomials F = record {
  ring = is_polynomial_ring F.cring F.zero_test;
  variable = coefficient-variable F.cring F.zero_test;
  values = fraction_of_value (polynomial_ring F) (IsLowest F.cring (polynomial_ring F)) (polynomial_reduction F);
  constants = λ c. (constant F.cring F.zero_test c, coefficient-constant F.cring F.zero_test c, refl);
}
