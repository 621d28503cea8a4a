-- The values of fractions: the operations of rational functions are those of fractions by their coefficients, and a
-- fraction in lowest terms with the value of a sum, a product, a negative or an inverse is it.
use Rattle.std.specs.Prelude.{◌≡◌, ◌≢◌, ℕ, true, []}
use Rattle.std.proofs.Common.{refl, sym, ◌∙◌, ap}
use Rattle.theory_rings.specs.Ring.{FieldOn, CommRingOn}
use Rattle.theory_rings.specs.Ops.{Ops, FieldLaws}
use Rattle.theory_rings.specs.Elements.{Elem, elements}
use Rattle.theory_rings.specs.Sum.{at}
use Rattle.theory_rings.specs.Polynomial.{Poly, convolution_of}
use Rattle.theory_rings.specs.Fraction.{IsValue, IsFractionField}
use Rattle.theory_rings.proofs.Polynomials.PolynomialRing.{zero-list}
use Rattle.theory_rings.proofs.Polynomials.Bezout.{field_polynomials, poly_mul-ne-zero, poly_mul_cancel_left}
use Rattle.theory_rings.proofs.Polynomials.ElementLists.{values}
use Rattle.theory_rings.proofs.Fractions.Fractions.{value_unique, denominator-ne-zero}
use Rattle.theory_rings.proofs.Fractions.Lowest.{Lowest, IsMonic-ne-zero, polynomial_reduction, rational_functions}
use Rattle.theory_rings.proofs.Fractions.Lowest.{is_rational_functions}
use Rattle.theory_fractions.proofs.Lifting.{HasCoefficients}
use Rattle.theory_fractions.proofs.Lifting.{eq_of_coefficients, coefficients_of_eq, has-add, has-mul}
use Rattle.theory_fractions.specs.Fraction.{Pair, IsSame, IsFractionSum, IsFractionProduct, IsFractionNegative}
use Rattle.theory_fractions.specs.Fraction.{IsFractionInverse, AreFractionOps}
use Rattle.theory_fractions.specs.FractionOps.{polynomial_of, RationalFunction, rational_function, pair_of, is_fraction}
use Rattle.theory_fractions.specs.FractionOps.{fraction_ops}
use Rattle.theory_fractions.proofs.FractionField.{is_fraction-parts, is_fraction-pair_of, rational_function_eq}
use Rattle.theory_fractions.proofs.FractionField.{rational_function-pair_of, pair_of-rational_function, numerator-zero}
use Rattle.theory_fractions.proofs.FractionField.{eq_zero_of_empty}
use Rattle.theory_fractions.proofs.ListPolynomials.{is_polynomial-gives, values_back, has_polynomial_of, has_neg}

module _ {E : Type 0} (o : Ops E) (L : FieldLaws o) where
  abbrev F : FieldOn (Elem o)
  F = elements o L

  abbrev P : CommRingOn (Poly F.cring)
  P = field_polynomials F

  abbrev K : FieldOn (RationalFunction o L)
  K = rational_functions F

  abbrev I : IsFractionField P (Lowest F) K
  I = is_rational_functions F

  abbrev Has : Poly F.cring → (ℕ → E) → Type 0
  Has = HasCoefficients o L

  abbrev Is : RationalFunction o L → Poly F.cring → Poly F.cring → Type 0
  Is = IsValue P (Lowest F)

  abbrev IsFrac : Pair E → Type 0
  IsFrac a = is_fraction o L a ≡ true

  abbrev num : Pair E → Poly F.cring
  num a = polynomial_of o L a.0

  abbrev den : Pair E → Poly F.cring
  den a = polynomial_of o L a.1

  abbrev rat : Pair E → RationalFunction o L
  rat = rational_function o L

  pub den-ne-zero : (a : Pair E) → IsFrac a → den a ≢ P.zero
  den-ne-zero a h = let low = (is_fraction-parts o L a h).2 in IsMonic-ne-zero F (den a) low.monic

  has_num : (a : Pair E) → IsFrac a → Has (num a) (at o a.0)
  has_num a h = let p = is_polynomial-gives o L a.0 (is_fraction-parts o L a h).0 in has_polynomial_of o L a.0 p.over

  has_den : (a : Pair E) → IsFrac a → Has (den a) (at o a.1)
  has_den a h = let p = is_polynomial-gives o L a.1 (is_fraction-parts o L a h).1 in has_polynomial_of o L a.1 p.over

  value_own : (a : Pair E) → IsFrac a → Is (rat a) (num a) (den a)
  value_own a h =
      let e = rational_function_eq o L a h in
      ap (λ (x : RationalFunction o L). P.◌⊗◌ x.0.0 (den a)) e
      ∙ ap (λ (x : RationalFunction o L). P.◌⊗◌ (num a) x.0.1) (sym e)

  -- between values and coefficients
  same_of_value : (c : Pair E) → IsFrac c → (p q : Poly F.cring) (f g : ℕ → E) → Has p f → Has q g → Is (rat c) p q
      → IsSame o (at o c.0) (at o c.1) f g
  same_of_value c h p q f g hf hg v =
      let e = rational_function_eq o L c h in
      record {
        products = coefficients_of_eq o L (P.◌⊗◌ (num c) q) (P.◌⊗◌ p (den c)) (convolution_of o (at o c.0) g)
            (convolution_of o f (at o c.1))
            (has-mul o L (num c) q (at o c.0) g (has_num c h) hg) (has-mul o L p (den c) f (at o c.1) hf (has_den c h))
            (ap (λ (x : RationalFunction o L). P.◌⊗◌ x.0.0 q) (sym e) ∙ v
            ∙ ap (λ (x : RationalFunction o L). P.◌⊗◌ p x.0.1) e);
      }

  value_of_same : (c : Pair E) → IsFrac c → (p q : Poly F.cring) (f g : ℕ → E) → Has p f → Has q g
      → IsSame o (at o c.0) (at o c.1) f g → Is (rat c) p q
  value_of_same c h p q f g hf hg s =
      let e = rational_function_eq o L c h in
      ap (λ (x : RationalFunction o L). P.◌⊗◌ x.0.0 q) e
      ∙ eq_of_coefficients o L (P.◌⊗◌ (num c) q) (P.◌⊗◌ p (den c)) (convolution_of o (at o c.0) g)
      (convolution_of o f (at o c.1))
      (has-mul o L (num c) q (at o c.0) g (has_num c h) hg)
      (has-mul o L p (den c) f (at o c.1) hf (has_den c h)) s.products
      ∙ ap (λ (x : RationalFunction o L). P.◌⊗◌ p x.0.1) (sym e)

  -- the fraction with a value is the pair of the rational function with it
  eq_of_value : (c : Pair E) → IsFrac c → (y : RationalFunction o L) (p q : Poly F.cring) → q ≢ P.zero
      → Is (rat c) p q → Is y p q → c ≡ pair_of o L y
  eq_of_value c h y p q n v w =
      sym (pair_of-rational_function o L c h)
      ∙ ap (pair_of o L) (value_unique P (Lowest F) (polynomial_reduction F) (rat c) y p q p q n n v w refl)

  -- and that pair has the value
  same_of_pair : (y : RationalFunction o L) (p q : Poly F.cring) (f g : ℕ → E) → Has p f → Has q g → Is y p q
      → IsSame o (at o (pair_of o L y).0) (at o (pair_of o L y).1) f g
  same_of_pair y p q f g hf hg v =
      same_of_value (pair_of o L y) (is_fraction-pair_of o L y) p q f g hf hg
      (let e = rational_function-pair_of o L y in
      ap (λ (x : RationalFunction o L). P.◌⊗◌ x.0.0 q) e ∙ v ∙ ap (λ (x : RationalFunction o L). P.◌⊗◌ p x.0.1) (sym e))

  module _ (a : Pair E) (ha : IsFrac a) where
    negative_has : Has (P.neg (num a)) (λ k. o.neg (at o a.0 k))
    negative_has = has_neg o L (num a) (at o a.0) (has_num a ha)

    negative_value : Is (K.neg (rat a)) (P.neg (num a)) (den a)
    negative_value = I.neg_value (rat a) (num a) (den a) (value_own a ha)

    pub negative_of : IsFractionNegative o a (pair_of o L (K.neg (rat a)))
    negative_of = same_of_pair (K.neg (rat a)) (P.neg (num a)) (den a) (λ k. o.neg (at o a.0 k))
        (at o a.1) negative_has (has_den a ha) negative_value

    pub eq_negative : (c : Pair E) → IsFrac c → IsFractionNegative o a c → c ≡ pair_of o L (K.neg (rat a))
    eq_negative c h s =
        eq_of_value c h (K.neg (rat a)) (P.neg (num a)) (den a) (den-ne-zero a ha)
        (value_of_same c h (P.neg (num a)) (den a) (λ k. o.neg (at o a.0 k)) (at o a.1) negative_has
        (has_den a ha) s) negative_value

    module _ (b : Pair E) (hb : IsFrac b) where
      denominators : P.◌⊗◌ (den a) (den b) ≢ P.zero
      denominators = poly_mul-ne-zero F (den a) (den b) (den-ne-zero a ha) (den-ne-zero b hb)

      dens_has : Has (P.◌⊗◌ (den a) (den b)) (convolution_of o (at o a.1) (at o b.1))
      dens_has = has-mul o L (den a) (den b) (at o a.1) (at o b.1) (has_den a ha) (has_den b hb)

      -- the sum
      abbrev sum_num : Poly F.cring
      sum_num = P.◌⊕◌ (P.◌⊗◌ (num a) (den b)) (P.◌⊗◌ (num b) (den a))

      abbrev sum_coefficients : ℕ → E
      sum_coefficients k = o.add (convolution_of o (at o a.0) (at o b.1) k) (convolution_of o (at o b.0) (at o a.1) k)

      sum_has : Has sum_num sum_coefficients
      sum_has =
          has-add o L (P.◌⊗◌ (num a) (den b)) (P.◌⊗◌ (num b) (den a)) (convolution_of o (at o a.0) (at o b.1))
          (convolution_of o (at o b.0) (at o a.1))
          (has-mul o L (num a) (den b) (at o a.0) (at o b.1) (has_num a ha) (has_den b hb))
          (has-mul o L (num b) (den a) (at o b.0) (at o a.1) (has_num b hb) (has_den a ha))

      sum_value : Is (K.◌⊕◌ (rat a) (rat b)) sum_num (P.◌⊗◌ (den a) (den b))
      sum_value = I.add_value (rat a) (rat b) (num a) (den a) (num b) (den b) (value_own a ha) (value_own b hb)

      pub sum_of : IsFractionSum o a b (pair_of o L (K.◌⊕◌ (rat a) (rat b)))
      sum_of = same_of_pair (K.◌⊕◌ (rat a) (rat b)) sum_num (P.◌⊗◌ (den a) (den b)) sum_coefficients
          (convolution_of o (at o a.1) (at o b.1)) sum_has dens_has sum_value

      pub eq_sum : (c : Pair E) → IsFrac c → IsFractionSum o a b c → c ≡ pair_of o L (K.◌⊕◌ (rat a) (rat b))
      eq_sum c h s =
          eq_of_value c h (K.◌⊕◌ (rat a) (rat b)) sum_num (P.◌⊗◌ (den a) (den b)) denominators
          (value_of_same c h sum_num (P.◌⊗◌ (den a) (den b)) sum_coefficients
          (convolution_of o (at o a.1) (at o b.1)) sum_has dens_has s) sum_value

      -- the product
      nums_has : Has (P.◌⊗◌ (num a) (num b)) (convolution_of o (at o a.0) (at o b.0))
      nums_has = has-mul o L (num a) (num b) (at o a.0) (at o b.0) (has_num a ha) (has_num b hb)

      product_value : Is (K.◌⊗◌ (rat a) (rat b)) (P.◌⊗◌ (num a) (num b)) (P.◌⊗◌ (den a) (den b))
      product_value = I.mul_value (rat a) (rat b) (num a) (den a) (num b) (den b) (value_own a ha) (value_own b hb)

      pub product_of : IsFractionProduct o a b (pair_of o L (K.◌⊗◌ (rat a) (rat b)))
      product_of =
          same_of_pair (K.◌⊗◌ (rat a) (rat b)) (P.◌⊗◌ (num a) (num b)) (P.◌⊗◌ (den a) (den b))
          (convolution_of o (at o a.0) (at o b.0))
          (convolution_of o (at o a.1) (at o b.1)) nums_has dens_has product_value

      pub eq_product : (c : Pair E) → IsFrac c → IsFractionProduct o a b c → c ≡ pair_of o L (K.◌⊗◌ (rat a) (rat b))
      eq_product c h s =
          eq_of_value c h (K.◌⊗◌ (rat a) (rat b)) (P.◌⊗◌ (num a) (num b)) (P.◌⊗◌ (den a) (den b)) denominators
          (value_of_same c h (P.◌⊗◌ (num a) (num b)) (P.◌⊗◌ (den a) (den b))
          (convolution_of o (at o a.0) (at o b.0))
          (convolution_of o (at o a.1) (at o b.1)) nums_has dens_has s) product_value

    -- the inverse of a fraction with a numerator
    module _ (n : a.0 ≢ []) where
      pub num-ne-zero : num a ≢ P.zero
      num-ne-zero e =
          let p = is_polynomial-gives o L a.0 (is_fraction-parts o L a ha).0 in
          n (sym (values_back o L a.0 p) ∙ ap (λ (x : Poly F.cring). values o L x.0) e
          ∙ ap (values o L) (zero-list F.cring F.zero_test))

      rat-ne-zero : rat a ≡ K.zero → ⊥
      rat-ne-zero e = num-ne-zero (
          ap (λ (x : RationalFunction o L). x.0.0) (sym (rational_function_eq o L a ha) ∙ e) ∙ numerator-zero o L
          )

      inverse_value : Is (K.inv (rat a)) (den a) (num a)
      inverse_value = sym products ∙ P.mul_comm y.0.1 (den a)
        where
          y : RationalFunction o L
          y = K.inv (rat a)

          -- 1 as a product
          unit_value : P.◌⊗◌ K.one.0.0 (P.◌⊗◌ y.0.1 (den a)) ≡ P.◌⊗◌ (P.◌⊗◌ y.0.0 (num a)) K.one.0.1
          unit_value =
              let e : K.◌⊗◌ y (rat a) ≡ K.one = K.inv-mul (rat a) rat-ne-zero in
              ap (λ (x : RationalFunction o L). P.◌⊗◌ x.0.0 (P.◌⊗◌ y.0.1 (den a))) (sym e)
              ∙ I.mul_value y (rat a) y.0.0 y.0.1 (num a) (den a) refl (value_own a ha)
              ∙ ap (λ (x : RationalFunction o L). P.◌⊗◌ (P.◌⊗◌ y.0.0 (num a)) x.0.1) e

          one_same : K.one.0.0 ≡ K.one.0.1
          one_same = sym (P.mul-one K.one.0.0) ∙ I.one_value ∙ P.one-mul K.one.0.1

          one-ne-zero : K.one.0.1 ≢ P.zero
          one-ne-zero = denominator-ne-zero P (Lowest F) (polynomial_reduction F) K.one

          products : P.◌⊗◌ y.0.1 (den a) ≡ P.◌⊗◌ y.0.0 (num a)
          products =
              poly_mul_cancel_left F K.one.0.1 (P.◌⊗◌ y.0.1 (den a)) (P.◌⊗◌ y.0.0 (num a)) one-ne-zero
              (ap (λ x. P.◌⊗◌ x (P.◌⊗◌ y.0.1 (den a))) (sym one_same) ∙ unit_value
              ∙ P.mul_comm (P.◌⊗◌ y.0.0 (num a)) K.one.0.1)

      pub inverse_of : IsFractionInverse o a (pair_of o L (K.inv (rat a)))
      inverse_of = same_of_pair (K.inv (rat a)) (den a) (num a) (at o a.1) (at o a.0) (has_den a ha)
          (has_num a ha) inverse_value

      pub eq_inverse : (c : Pair E) → IsFrac c → IsFractionInverse o a c → c ≡ pair_of o L (K.inv (rat a))
      eq_inverse c h s =
          eq_of_value c h (K.inv (rat a)) (den a) (num a) num-ne-zero
          (value_of_same c h (den a) (num a) (at o a.1) (at o a.0) (has_den a ha) (has_num a ha) s) inverse_value

  pub are_fraction_ops : AreFractionOps o (fraction_ops o L)
  unfolding fraction_ops
  are_fraction_ops = record {
    zero = refl;
    one = refl;
    sum = λ a b ha hb. sum_of a ha b hb;
    negative = λ a ha. negative_of a ha;
    product = λ a b ha hb. product_of a ha b hb;
    inverse = λ a ha n. inverse_of a ha (λ e. n (eq_zero_of_empty o L a ha e));
  }
