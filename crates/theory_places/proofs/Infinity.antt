-- The place at infinity of a field of rational functions.
use Rattle.std.specs.Prelude.{IsTrue, pos}
use Rattle.theory_rings.specs.Ring.{FieldOn}
use Rattle.theory_rings.specs.Fraction.{IsFractionField, IsLowest}
use Rattle.theory_rings.proofs.Polynomials.Bezout.{field_polynomials}
use Rattle.theory_spaces.specs.Valuation.{ValuationOn}
use Rattle.theory_orders.specs.Uniformizer.{UniformizerOn}
use Rattle.theory_lattices.specs.Degree.{HasDegree}
use Rattle.theory_lattices.specs.RationalFunctions.{Rational, power_of_x}
use Rattle.theory_lattices.proofs.Degree.FractionDegrees.{rational_degree, rational_degree-is}
use Rattle.theory_lattices.proofs.Common.RationalMembers.{polynomials_of}
use Rattle.theory_places.proofs.DegreePlaces.{degree_valuation, degree_uniformizer, strict}

module _ {k : Type 0} (F : FieldOn k) (Q : FieldOn (Rational F))
    (H : IsFractionField (field_polynomials F) (IsLowest F.cring (field_polynomials F)) Q) where
  pub x_degree : HasDegree (rational_degree F Q H) (pos 1) (power_of_x F 1)
  x_degree = let P = polynomials_of F Q H (rational_degree F Q H) (rational_degree-is F Q H) in P.T-degree 1

  pub infinity : (Z : ValuationOn Q) × UniformizerOn Q Z (Q.inv (power_of_x F 1)) (power_of_x F 1)
      × (IsTrue (Z.integral (power_of_x F 1)) → ⊥)
  infinity = let W = rational_degree F Q H in
      (degree_valuation Q W, degree_uniformizer Q W (power_of_x F 1) x_degree, strict Q W (power_of_x F 1) x_degree)
