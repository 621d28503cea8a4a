-- The coefficients of the product of the powers, and the whole factorisation.
use Rattle.std.specs.Prelude.{◌≡◌, ◌≢◌, ℕ, List, [], ◌∷◌}
use Rattle.std.proofs.Common.{sym, ◌∙◌, ap, ap₂}
use Rattle.theory_rings.specs.Ring.{FieldOn, CommRingOn}
use Rattle.theory_rings.specs.Ops.{Ops, FieldLaws}
use Rattle.theory_rings.specs.Elements.{Elem}
use Rattle.theory_rings.specs.Sum.{at}
use Rattle.theory_rings.specs.Power.{power}
use Rattle.theory_rings.specs.Polynomial.{Poly, degree, lead, coefficient}
use Rattle.theory_rings.proofs.Polynomials.Constants.{coefficient-constant_mul}
use Rattle.theory_fractions.specs.PolynomialLists.{IsPolynomialList}
use Rattle.theory_fractions.proofs.Lifting.{HasCoefficients, has-one, has-mul}
use Rattle.theory_fractions.proofs.ListPolynomials.{has_polynomial_of}
use Rattle.theory_fractions.proofs.LowestTerms.{lead_value}
use Rattle.theory_remainders.proofs.Divisions.{power_coefficients, has-power}
use Rattle.spl_field.specs.SmallField.{small_ops, small_laws}
use Rattle.spl_field.specs.declared.small.SmallField.{SmallField}
use Rattle.spl_poly.specs.Operations.{IsMonicOf}
use Rattle.spl_factor.specs.Factorisation.{Powers, IsFactor, AreFactors, product_coefficients, IsMultipleOfProduct}
use Rattle.spl_factor.specs.Steps.{field, ring, poly, product_of_powers}
use Rattle.spl_factor.proofs.Values.{monic_back}

module _ (f : SmallField) where
  abbrev o : Ops ℕ
  o = small_ops f

  abbrev L : FieldLaws (small_ops f)
  L = small_laws f

  abbrev F : FieldOn (Elem (small_ops f))
  F = field f

  abbrev P : CommRingOn (Poly (field f).cring)
  P = ring f

  pub has-product : (xs : Powers) → AreFactors o xs
      → HasCoefficients o L (product_of_powers f xs) (product_coefficients o xs)
  has-product [] t = has-one o L
  has-product (y ∷ ys) t =
      let h : IsFactor o y = t.0 in
      let i = h.irreducible in
      has-mul o L (power P.ring (poly f y.0) y.1) (product_of_powers f ys) (power_coefficients o L y.0 y.1)
      (product_coefficients o ys)
      (has-power o L (poly f y.0) y.0 y.1 (has_polynomial_of o L y.0 i.polynomial.over)) (has-product ys t.2)

  -- the leading coefficient times the product of the factors of the monic multiple
  pub whole_product : (a r : List ℕ) (c : ℕ) (xs : Powers) → IsPolynomialList o a → IsPolynomialList o r → a ≢ []
      → IsMonicOf o a r → c ≡ at o a (degree a) → AreFactors o xs → product_of_powers f xs ≡ poly f r
      → IsMultipleOfProduct o a c xs
  whole_product a r c xs ha hr n h e t p = λ k.
      let A : Poly F.cring = poly f a in
      has_polynomial_of o L a ha.over k
      ∙ ap (λ (y : Poly F.cring). (coefficient F.cring y k).0) (monic_back f a r ha hr n h)
      ∙ ap (λ (z : Elem (small_ops f)). z.0)
      (coefficient-constant_mul F.cring F.zero_test (lead F.cring A) (poly f r) k)
      ∙ ap₂ o.mul (sym (e ∙ lead_value o L a ha))
      (ap (λ (y : Poly F.cring). (coefficient F.cring y k).0) (sym p) ∙ sym (has-product xs t k))
