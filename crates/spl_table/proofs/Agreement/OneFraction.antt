-- Two pairs in lowest terms that are one fraction are one pair.
use Rattle.std.proofs.Common.{◌≡◌, ◌≢◌, ℕ, List, refl, sym, ap, ap₂, ◌∙◌}
use Rattle.theory_rings.specs.Ring.{FieldOn, CommRingOn}
use Rattle.theory_rings.specs.Ops.{Ops, FieldLaws}
use Rattle.theory_rings.specs.Elements.{Elem, elements}
use Rattle.theory_rings.specs.Sum.{at}
use Rattle.theory_rings.specs.Polynomial.{Poly, coefficient, convolution_of}
use Rattle.theory_rings.specs.Fraction.{SameFraction}
use Rattle.theory_rings.proofs.Rings.Solver.{◌⊠◌, ring3}
use Rattle.theory_rings.proofs.Polynomials.Bezout.{field_polynomials, poly_mul_cancel_left}
use Rattle.theory_rings.proofs.Polynomials.ElementLists.{values}
use Rattle.theory_rings.proofs.Fractions.Lowest.{Lowest, lowest_terms_unique}
use Rattle.theory_fractions.specs.PolynomialLists.{IsOver}
use Rattle.theory_fractions.specs.Fraction.{Pair, IsLowestTerms, IsFraction}
use Rattle.theory_fractions.specs.FractionOps.{polynomial_of}
use Rattle.theory_fractions.proofs.FractionField.{is_fraction-parts}
use Rattle.theory_fractions.proofs.ListPolynomials.{values_back, has_polynomial_of}
use Rattle.theory_fractions.proofs.Lifting.{eq_of_coefficients, has-mul, has-zero}
use Rattle.theory_fractions.proofs.LowestTerms.{fraction_of_lowest}

module _ (o : Ops ℕ) (L : FieldLaws o) where
  abbrev pub F : FieldOn (Elem o)
  F = elements o L

  abbrev pub P : CommRingOn (Poly F.cring)
  P = field_polynomials F

  abbrev pub poly : List ℕ → Poly F.cring
  poly xs = polynomial_of o L xs

  module _ (num den : List ℕ) (over_num : IsOver o num) (over_den : IsOver o den)
      (k : ℕ) (nonzero : at o den k ≢ o.zero) where
    pub den-ne-zero : poly den ≢ P.zero
    den-ne-zero e = nonzero (has_polynomial_of o L den over_den k
        ∙ ap (λ (p : Poly F.cring). (coefficient F.cring p k).0) e ∙ sym (has-zero o L k))

    module _ (w : Pair ℕ) (low : IsLowestTerms o w.0 w.1) (is : IsFraction o w num den) where
      pub lowest : Lowest F (poly w.0) (poly w.1)
      lowest = (is_fraction-parts o L w (fraction_of_lowest o L w.0 w.1 low)).2

      num_back : values o L (poly w.0).0 ≡ w.0
      num_back = values_back o L w.0 (record { over = low.numerator_over; trimmed = low.numerator_trimmed })

      den_back : values o L (poly w.1).0 ≡ w.1
      den_back = values_back o L w.1 (record { over = low.denominator_over; trimmed = low.denominator_trimmed })

      pub value : SameFraction P (poly w.0) (poly w.1) (poly num) (poly den)
      value =
          eq_of_coefficients o L (P.◌⊗◌ (poly w.0) (poly den)) (P.◌⊗◌ (poly num) (poly w.1))
          (convolution_of o (at o w.0) (at o den)) (convolution_of o (at o num) (at o w.1))
          (has-mul o L (poly w.0) (poly den) (at o w.0) (at o den) (has_polynomial_of o L w.0 low.numerator_over)
          (has_polynomial_of o L den over_den))
          (has-mul o L (poly num) (poly w.1) (at o num) (at o w.1) (has_polynomial_of o L num over_num)
          (has_polynomial_of o L w.1 low.denominator_over)) is.products

    pub one_fraction : (w x : Pair ℕ) → IsLowestTerms o w.0 w.1 → IsLowestTerms o x.0 x.1 → IsFraction o w num den
        → IsFraction o x num den → w ≡ x
    one_fraction w x low_w low_x is_w is_x =
        let p = poly num in
        let q = poly den in
        let u = poly w.0 in
        let v = poly w.1 in
        let u' = poly x.0 in
        let v' = poly x.1 in
        let e : P.◌⊗◌ u q ≡ P.◌⊗◌ p v = value w low_w is_w in
        let e' : P.◌⊗◌ u' q ≡ P.◌⊗◌ p v' = value x low_x is_x in
        let cross : P.◌⊗◌ u v' ≡ P.◌⊗◌ u' v = poly_mul_cancel_left F q (P.◌⊗◌ u v') (P.◌⊗◌ u' v) den-ne-zero
        (ring3 P (λ a b c. (a ⊠ (b ⊠ c), b ⊠ a ⊠ c)) refl q u v' ∙ ap (λ t. P.◌⊗◌ t v') e
        ∙ ring3 P (λ a b c. (a ⊠ b ⊠ c, a ⊠ c ⊠ b)) refl p v v' ∙ ap (λ t. P.◌⊗◌ t v) (sym e')
        ∙ ring3 P (λ a b c. (b ⊠ a ⊠ c, a ⊠ (b ⊠ c))) refl q u' v) in
        let both = lowest_terms_unique F u v u' v' (lowest w low_w is_w) (lowest x low_x is_x) cross in
        ap₂ (λ a b. (a, b))
        (sym (num_back w low_w is_w) ∙ ap (λ (y : Poly F.cring). values o L y.0) both.0 ∙ num_back x low_x is_x)
        (sym (den_back w low_w is_w) ∙ ap (λ (y : Poly F.cring). values o L y.0) both.1 ∙ den_back x low_x is_x)
