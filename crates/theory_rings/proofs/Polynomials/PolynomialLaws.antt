-- The laws of polynomials, of every ring of polynomials.
use Rattle.std.specs.Prelude.{◌≢◌, Bool}
use Rattle.std.proofs.Common.{refl, sym, ◌∙◌, ap}
use Rattle.theory_rings.specs.Ring.{CommRingOn, FieldOn, ZeroTest}
use Rattle.theory_rings.specs.Polynomial.{Poly}
use Rattle.theory_rings.specs.Fraction.{SameFraction, Fraction}
use Rattle.theory_rings.specs.PolynomialLaws.{HasPolynomialRing, HasDivision, HasRemainderRings, EvaluationIsHom}
use Rattle.theory_rings.specs.PolynomialLaws.{HasGcd, IrreducibleIsPrime, HasRemainderFields, HasLowestTerms}
use Rattle.theory_rings.specs.PolynomialLaws.{HasRationalFunctions}
use Rattle.theory_rings.proofs.Rings.Solver.{◌⊠◌, ring3}
use Rattle.theory_rings.proofs.Polynomials.PolynomialRing.{polynomials, is_polynomial_ring}
use Rattle.theory_rings.proofs.Polynomials.Uniqueness.{for_polynomials}
use Rattle.theory_rings.proofs.Polynomials.Division.{divide, division_unique}
use Rattle.theory_rings.proofs.Polynomials.Remainders.{remainders, is_remainder_ring}
use Rattle.theory_rings.proofs.Polynomials.Evaluation.{evaluate_hom}
use Rattle.theory_rings.proofs.Polynomials.Bezout.{field_polynomials, gcd, poly_mul_cancel_left}
use Rattle.theory_rings.proofs.Polynomials.Irreducible.{irreducible_prime, remainder_field}
use Rattle.theory_rings.proofs.Fractions.Fractions.{Fraction-path}
use Rattle.theory_rings.proofs.Fractions.Lowest.{Lowest, lowest_terms, polynomial_reduction, rational_functions}
use Rattle.theory_rings.proofs.Fractions.Lowest.{is_rational_functions}

module _ {K : Type 0} (R : CommRingOn K) {is_zero : K → Bool} (Z : ZeroTest R.zero is_zero) where
  pub has_polynomial_ring : HasPolynomialRing R
  has_polynomial_ring = (polynomials R Z, is_polynomial_ring R Z)

  pub has_division : HasDivision R
  has_division = for_polynomials R Z _ (λ a b u l i.
      let d = divide R Z b u i l a in
      (d.0, d.1, d.2, λ q' r' e. division_unique R Z b u i l a d.0 d.1 q' r' d.2 e))

  pub has_remainder_rings : HasRemainderRings R
  has_remainder_rings = for_polynomials R Z _ (λ m h. (remainders R Z m h, is_remainder_ring R Z m h))

  pub evaluation_is_hom : {L : Type 0} (S : CommRingOn L) → EvaluationIsHom R S
  evaluation_is_hom S = for_polynomials R Z _ (λ h H x. evaluate_hom R Z S h H x)

module _ {K : Type 0} (F : FieldOn K) where
  abbrev P : CommRingOn (Poly F.cring)
  P = field_polynomials F

  pub has_gcd : HasGcd F
  has_gcd = for_polynomials F.cring F.zero_test _ (gcd F)

  pub irreducible_is_prime : IrreducibleIsPrime F
  irreducible_is_prime = for_polynomials F.cring F.zero_test _ (irreducible_prime F)

  pub has_remainder_fields : HasRemainderFields F
  has_remainder_fields = for_polynomials F.cring F.zero_test _ (λ m h i.
      (remainder_field F m h i, is_remainder_ring F.cring F.zero_test m h))

  -- pairs of one fraction are the same fraction
  same_of_same : (a b c d u v : Poly F.cring) → v ≢ P.zero → SameFraction P a b u v → SameFraction P c d u v
      → SameFraction P a b c d
  same_of_same a b c d u v h e e' =
      poly_mul_cancel_left F v (P.◌⊗◌ a d) (P.◌⊗◌ c b) h
      (ring3 P (λ v a d. (v ⊠ (a ⊠ d), a ⊠ v ⊠ d)) refl v a d ∙ ap (λ x. P.◌⊗◌ x d) e
      ∙ ring3 P (λ u b d. (u ⊠ b ⊠ d, u ⊠ d ⊠ b)) refl u b d ∙ ap (λ x. P.◌⊗◌ x b) (sym e')
      ∙ ring3 P (λ c v b. (c ⊠ v ⊠ b, v ⊠ (c ⊠ b))) refl c v b)

  pub has_lowest_terms : HasLowestTerms F
  has_lowest_terms = for_polynomials F.cring F.zero_test _ (λ u v h.
      let r = lowest_terms F u v h in
      let w : Fraction (Lowest F) = (r.0, r.1) in (
        w,
        r.2,
        λ w' e. Fraction-path P (Lowest F) (polynomial_reduction F) w w'
            (same_of_same w.0.0 w.0.1 w'.0.0 w'.0.1 u v h r.2 e),
      ))

  pub has_rational_functions : HasRationalFunctions F
  has_rational_functions = for_polynomials F.cring F.zero_test _ (rational_functions F, is_rational_functions F)
