-- The polynomials among the rational functions are a subring, and each rational function is a fraction of polynomials.
use Rattle.std.proofs.Common.{refl, sym, ◌∙◌}
use Rattle.theory_rings.specs.Ring.{CommRingOn, FieldOn}
use Rattle.theory_rings.specs.Polynomial.{Poly}
use Rattle.theory_rings.specs.Fraction.{IsFractionField, IsLowest}
use Rattle.theory_spaces.specs.Lattice.{IsSubring}
use Rattle.theory_rings.proofs.Rings.Solver.{◌⊠◌, unit, ring2}
use Rattle.theory_rings.proofs.Polynomials.Bezout.{field_polynomials}
use Rattle.theory_rings.proofs.Fractions.Fractions.{IsReduction, denominator-ne-zero, value_same, fraction_of_value}
use Rattle.theory_rings.proofs.Fractions.Lowest.{polynomial_reduction}
use Rattle.theory_lattices.specs.RationalFunctions.{Rational, IsPolynomial, of_polynomial}
use Rattle.theory_lattices.proofs.Degree.FractionDegrees.{of-ne-zero, rational_degree, rational_degree-is}
use Rattle.theory_lattices.proofs.Common.RationalMembers.{polynomials_closed}
use Rattle.theory_pairs.specs.Subring.{IsDenominator, HasFractions}

module _ {k : Type 0} (F : FieldOn k) (Q : FieldOn (Rational F))
    (H : IsFractionField (field_polynomials F) (IsLowest F.cring (field_polynomials F)) Q) where
  abbrev P : CommRingOn (Poly F.cring)
  P = field_polynomials F

  abbrev I : IsReduction P (IsLowest F.cring P)
  I = polynomial_reduction F

  pub polynomials_subring : IsSubring Q.ring (IsPolynomial F)
  polynomials_subring =
      let C = polynomials_closed F Q H (rational_degree F Q H) (rational_degree-is F Q H) in
      record {
        zero_in = C.zero_in;
        one_in = (P.one, H.one_value);
        add_in = C.add_in;
        neg_in = λ x h. (P.neg h.0, H.neg_value x h.0 P.one h.1);
        mul_in = C.mul_in;
      }

  -- u/v times v is u
  denominator : (x : Rational F) → IsDenominator Q (IsPolynomial F) x (of_polynomial F x.0.1)
  denominator x =
      let u : Poly F.cring = x.0.0 in
      let v : Poly F.cring = x.0.1 in
      let d : Rational F = of_polynomial F v in
      let n = denominator-ne-zero P (IsLowest F.cring P) I x in
      record {
        inside = (v, fraction_of_value P (IsLowest F.cring P) I v);
        nonzero = of-ne-zero P (IsLowest F.cring P) I Q H v n;
        clears = (
          u,
          value_same P (IsLowest F.cring P) I (Q.◌⊗◌ d x) (P.◌⊗◌ v u) (P.◌⊗◌ P.one v) u P.one
              (λ e. n (sym (P.one-mul v) ∙ e))
              (H.mul_value d x v P.one u v (fraction_of_value P (IsLowest F.cring P) I v) refl)
              (ring2 P (λ u v. (v ⊠ u ⊠ unit, u ⊠ (unit ⊠ v))) refl u v),
        );
      }

  pub polynomials_have_fractions : HasFractions Q (IsPolynomial F)
  polynomials_have_fractions x = (of_polynomial F x.0.1, denominator x)
