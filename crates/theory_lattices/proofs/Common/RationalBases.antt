-- The rational functions are the fractions of the polynomials, with one degree; so lattices over them have common
-- bases.
use Rattle.std.specs.Prelude.{◌≡◌, ℕ, ℤ}
use Rattle.std.proofs.Common.{refl, arith}
use Rattle.std.proofs.lemmas.Int.{ints}
use Rattle.theory_rings.specs.Ring.{CommRingOn, FieldOn}
use Rattle.theory_rings.specs.Polynomial.{Poly}
use Rattle.theory_rings.specs.Fraction.{IsFractionField, IsLowest}
use Rattle.theory_rings.proofs.Rings.Solver.{◌⊠◌, unit, ring2}
use Rattle.theory_rings.proofs.Polynomials.Bezout.{field_polynomials, poly_one-ne-zero}
use Rattle.theory_rings.proofs.Fractions.Fractions.{denominator-ne-zero, product-ne-zero, value_unique}
use Rattle.theory_rings.proofs.Fractions.Fractions.{fraction_of_value}
use Rattle.theory_rings.proofs.Fractions.Lowest.{polynomial_reduction}
use Rattle.theory_spaces.specs.Module.{ModuleOn}
use Rattle.theory_spaces.specs.Linear.{InSpan, Independent, Coords}
use Rattle.theory_spaces.specs.Lattice.{LatticeOver}
use Rattle.theory_lattices.specs.Degree.{DegreeOn}
use Rattle.theory_lattices.specs.CommonBasis.{InInfinite, CommonBasis}
use Rattle.theory_lattices.specs.RationalFunctions.{Rational, IsPolynomial, of_polynomial, IsRationalDegree}
use Rattle.theory_lattices.proofs.Degree.FractionDegrees.{polynomial_degree, polynomial_degree-is, eq_of_value, of_hom}
use Rattle.theory_lattices.proofs.Degree.FractionDegrees.{of-zero, of-ne-zero}
use Rattle.theory_lattices.proofs.Rows.PolynomialRows.{polynomial_euclidean}
use Rattle.theory_lattices.proofs.Common.RationalMembers.{degree_of_polynomial}
use Rattle.theory_lattices.proofs.Common.CommonBasisExists.{IsFractionsOf, common_basis_exists}

module _ {k : Type 0} (F : FieldOn k) (Q : FieldOn (Rational F))
    (H : IsFractionField (field_polynomials F) (IsLowest F.cring (field_polynomials F)) Q)
    (W : DegreeOn Q.ring) (D : IsRationalDegree F Q W) where
  abbrev P : CommRingOn (Poly F.cring)
  P = field_polynomials F

  abbrev Low : Poly F.cring → Poly F.cring → Type 0
  Low = IsLowest F.cring P

  abbrev of : Poly F.cring → Rational F
  of u = of_polynomial F u

  cleared : (x : Rational F) → Q.◌⊗◌ (of x.0.1) x ≡ of x.0.0
  cleared x =
      let I = polynomial_reduction F in
      value_unique P Low I (Q.◌⊗◌ (of x.0.1) x) (of x.0.0) (P.◌⊗◌ x.0.1 x.0.0) (P.◌⊗◌ P.one x.0.1) x.0.0 P.one
      (product-ne-zero P Low I P.one x.0.1 (poly_one-ne-zero F) (denominator-ne-zero P Low I x)) (poly_one-ne-zero F)
      (H.mul_value (of x.0.1) x x.0.1 P.one x.0.0 x.0.1 (fraction_of_value P Low I x.0.1) refl)
      (fraction_of_value P Low I x.0.0)
      (ring2 P (λ u v. (v ⊠ u ⊠ unit, u ⊠ (unit ⊠ v))) refl x.0.0 x.0.1)

  pub fractions : IsFractionsOf (polynomial_degree F) Q W of
  fractions = record {
    hom = of_hom P Low (polynomial_reduction F) Q H;
    keeps = record {
      map-zero = of-zero P Low (polynomial_reduction F) Q H;
      map-ne-zero = of-ne-zero P Low (polynomial_reduction F) Q H;
      map-degree = λ a h.
          let e = degree_of_polynomial F Q H W D a h in
          let X = polynomial_degree-is F in
          let d = X.degree-is a in
          omega (arith, ints);
    };
    fraction = λ c. (c.0.0, c.0.1, denominator-ne-zero P Low (polynomial_reduction F) c, cleared c);
  }

  pub rational_common_basis : {V : Type 0} (M : ModuleOn Q.ring V) (n : ℕ) → Coords M n → (f e : ℕ → V)
      → Independent M n f → Independent M n e
      → ((x : V) → InSpan M n e x)
      → (b : ℕ → V) × (a : ℕ → ℤ)
      × CommonBasis Q W M (IsPolynomial F) n (LatticeOver M (IsPolynomial F) n f)
      (InInfinite Q W M (IsPolynomial F) n e) b a
  rational_common_basis M n C f e f_free e_free e_spans =
      common_basis_exists (polynomial_degree F)
      (polynomial_euclidean F (polynomial_degree F) (polynomial_degree-is F)) Q W of fractions (IsPolynomial F)
      (λ u. (u, fraction_of_value P Low (polynomial_reduction F) u))
      (λ c h. (h.0, eq_of_value P Low (polynomial_reduction F) Q H c h.0 h.1))
      M n C f e f_free e_free e_spans
