-- The operations on remainders by an irreducible polynomial, and what their coefficients are.
use Rattle.std.specs.Prelude.{◌≡◌, ◌≢◌, ℕ, zero, suc, ◌*◌, ◌<◌, List, [], ◌∷◌, length}
use Rattle.std.proofs.Common.{refl, sym, ◌∙◌, ap, ap₂, arith}
use Rattle.theory_rings.specs.Ring.{FieldOn, CommRingOn}
use Rattle.theory_rings.specs.Ops.{Ops, IsElem, FieldLaws}
use Rattle.theory_rings.specs.Elements.{Elem, elements}
use Rattle.theory_rings.specs.Sum.{at}
use Rattle.theory_rings.specs.Power.{power, power_of}
use Rattle.theory_rings.specs.Polynomial.{Poly, convolution_of}
use Rattle.theory_rings.specs.Remainder.{Remainder}
use Rattle.theory_rings.proofs.Rings.Congruences.{congruent_sym}
use Rattle.theory_rings.proofs.Rings.Elements.{power_of-elem}
use Rattle.theory_rings.proofs.Rings.Homomorphisms.{map-neg}
use Rattle.theory_rings.proofs.Rings.Fields.{mul_left_cancel}
use Rattle.theory_rings.proofs.Rings.Solver.{◌⊞◌, ◌⊠◌, ring4}
use Rattle.theory_rings.proofs.Powers.Powers.{map-power, power-power}
use Rattle.theory_rings.proofs.Polynomials.Degrees.{length-add_le, length-neg_le, length-degree_of_ne_zero}
use Rattle.theory_rings.proofs.Polynomials.Bezout.{field_polynomials, coprime_comm}
use Rattle.theory_rings.proofs.Polynomials.ElementLists.{values, at-values}
use Rattle.theory_rings.proofs.Polynomials.Remainders.{remainder_hom, remainder_eq, congruent_of_remainder}
use Rattle.theory_rings.proofs.Polynomials.Remainders.{remainders-add_poly, remainders-neg_poly}
use Rattle.theory_fractions.specs.PolynomialLists.{IsSum, IsPolynomialList}
use Rattle.theory_fractions.specs.FractionOps.{polynomial_of}
use Rattle.theory_fractions.proofs.Lifting.{eq_of_coefficients, HasCoefficients, coefficients_of_eq, has-add}
use Rattle.theory_fractions.proofs.Lifting.{has-mul}
use Rattle.theory_fractions.proofs.ListPolynomials.{has_polynomial_of, has_neg, length-polynomial_of}
use Rattle.theory_rings.proofs.Polynomials.PolynomialRing.{zero-list}
use Rattle.theory_rings.proofs.Polynomials.Irreducible.{irreducible_coprime, degree_le_of_divides}
use Rattle.theory_fractions.specs.Fraction.{IsCoprime}
use Rattle.theory_fractions.proofs.LowestTerms.{coprime_lists}
use Rattle.theory_fractions.proofs.ListPolynomials.{values_back}
use Rattle.theory_remainders.proofs.IrreducibleLists.{polynomial_irreducible, polynomial-ne-zero}
use Rattle.theory_remainders.specs.Irreducible.{IsIrreducible}
use Rattle.theory_remainders.specs.RemainderLaws.{IsRemainder, IsRemainderOf, AreRemainderOps}
use Rattle.theory_remainders.specs.RemainderOps.{modulus_of, remainder_of, remainder_ops}
use Rattle.theory_remainders.proofs.Divisions.{congruent_of_remainder_of, remainder_of_congruent, poly-sum}
use Rattle.theory_remainders.proofs.Divisions.{power_coefficients, has-power}
use Rattle.theory_remainders.proofs.IrreducibleLists.{modulus_divides, divides_modulus}
use Rattle.theory_remainders.proofs.RemainderField.{monic, Q, of_list, to_list, is_remainder-to_list, of_list_eq}
use Rattle.theory_remainders.proofs.RemainderField.{of_list-to_list, of_list_injective, to_list_unique}
use Rattle.theory_remainders.proofs.RemainderField.{of_list-nil, of_list-one, is_remainder-nil, is_remainder-one}
use Rattle.theory_remainders.proofs.RemainderField.{test_of_remainder, remainder_of_test, remainder_laws}

module _ {E : Type 0} (o : Ops E) (L : FieldLaws o) (m : List E) (i : IsIrreducible o m) where
  abbrev F : FieldOn (Elem o)
  F = elements o L

  abbrev P : CommRingOn (Poly F.cring)
  P = field_polynomials F

  abbrev poly : List E → Poly F.cring
  poly = polynomial_of o L

  abbrev M : Poly F.cring
  M = modulus_of o L m

  abbrev K : FieldOn (Remainder F.cring M)
  K = Q o L m i

  abbrev rest : Poly F.cring → Remainder F.cring M
  rest = remainder_of o L m (monic o L m i)

  abbrev of : List E → Remainder F.cring M
  of = of_list o L m i

  abbrev ops : Ops (List E)
  ops = remainder_ops o L m (monic o L m i)

  abbrev Is : List E → Type 0
  Is = IsRemainder o m

  abbrev has_list : (a : List E) → Is a → HasCoefficients o L (poly a) (at o a)
  has_list a h = has_polynomial_of o L a h.polynomial.over

  -- ---- remainders on lists

  -- a remainder on lists is that of the polynomial
  pub of_remainder : (p : Poly F.cring) (f : ℕ → E) → HasCoefficients o L p f → (a : List E) → IsPolynomialList o a
      → IsRemainderOf o f m a
      → of a ≡ rest p
  of_remainder p f hf a ha s =
      let c = congruent_of_remainder_of o L p f hf m a i.polynomial.over ha.over s in
      let d = modulus_divides o L m i in
      remainder_eq F.cring F.zero_test M (monic o L m i) (poly a) p
      (congruent_sym P M p (poly a) (
        P.◌⊗◌ c.0 d.0,
        c.1 ∙ ap (λ x. P.◌⊕◌ (poly a) (P.◌⊗◌ c.0 x)) d.1
            ∙ ring4 P (λ q c m a. (a ⊞ q ⊠ (c ⊠ m), a ⊞ q ⊠ c ⊠ m)) refl c.0 d.0 M (poly a),
      ))

  -- and back
  pub remainder_of_eq : (p : Poly F.cring) (f : ℕ → E) → HasCoefficients o L p f → (a : List E) → Is a
      → rest p ≡ of a
      → IsRemainderOf o f m a
  remainder_of_eq p f hf a ha e =
      let c = congruent_of_remainder F.cring F.zero_test M (monic o L m i) p (poly a) e in
      let d = divides_modulus o L m i in
      remainder_of_congruent o L p f hf m a i.polynomial.over ha.polynomial.over ha.smaller (
        P.◌⊗◌ c.0 d.0,
        c.1 ∙ ap (λ x. P.◌⊕◌ (poly a) (P.◌⊗◌ c.0 x)) d.1
            ∙ ring4 P (λ c k m a. (a ⊞ c ⊠ (k ⊠ m), a ⊞ c ⊠ k ⊠ m)) refl c.0 d.0 (poly m) (poly a),
      )

  -- ---- the operations, from their coefficients

  pub elem_of : (a : List E) → Is a → IsElem ops a
  unfolding remainder_ops
  elem_of a h = test_of_remainder o L m a h

  pub of_elem : (a : List E) → IsElem ops a → Is a
  unfolding remainder_ops
  of_elem a h = remainder_of_test o L m a h

  -- what is not 0 is coprime to the modulus
  pub coprime_to_modulus : (a : List E) → Is a → a ≢ [] → IsCoprime o m a
  coprime_to_modulus a ha n =
      coprime_lists o L m a i.polynomial ha.polynomial
      (coprime_comm F (poly a) (poly m) (irreducible_coprime F (poly m) (polynomial_irreducible o L m i) (poly a)
      (λ d. let low = degree_le_of_divides F (poly m) (poly a) d nonzero in omega (
        arith,
        low,
        smaller,
        length-polynomial_of o L a ha.polynomial,
        length-polynomial_of o L m i.polynomial,
        length-degree_of_ne_zero F.cring F.zero_test (poly a) nonzero,
        length-degree_of_ne_zero F.cring F.zero_test (poly m) (polynomial-ne-zero o L m i),
      ))))
    where
      smaller : length a < length m
      smaller = ha.smaller

      nonzero : poly a ≢ P.zero
      nonzero e = n (sym (values_back o L a ha.polynomial)
          ∙ ap (λ (x : Poly F.cring). values o L x.0) e ∙ ap (values o L) (zero-list F.cring F.zero_test))

  pub zero_is : ops.zero ≡ []
  unfolding remainder_ops
  zero_is = refl

  pub one_is : ops.one ≡ o.one ∷ []
  unfolding remainder_ops
  one_is = refl

  sum_eq : (a b w : List E) → Is a → Is b → IsPolynomialList o w → IsSum o a b w
      → poly w ≡ P.◌⊕◌ (poly a) (poly b)
  sum_eq a b w ha hb hw s = poly-sum o L a b w ha.polynomial.over hb.polynomial.over hw.over s

  pub sum_smaller : (a b w : List E) → Is a → Is b → IsPolynomialList o w → IsSum o a b w → Is w
  sum_smaller a b w ha hb hw s = record {
    polynomial = hw;
    smaller =
        let la = length-polynomial_of o L a ha.polynomial in
        let lb = length-polynomial_of o L b hb.polynomial in
        let lw = length-polynomial_of o L w hw in
        let sa = ha.smaller in
        let sb = hb.smaller in
        let e = ap (λ (x : Poly F.cring). length x.0) (sum_eq a b w ha hb hw s) in
        go (length m) sa sb la lb lw e;
  }
    where
      go : (n : ℕ) → length a < n → length b < n → length (poly a).0 ≡ length a → length (poly b).0 ≡ length b
          → length (poly w).0 ≡ length w → length (poly w).0 ≡ length (P.◌⊕◌ (poly a) (poly b)).0 → length w < n
      go zero sa sb la lb lw e = absurd (omega arith)
      go (suc n) sa sb la lb lw e =
          omega (arith, length-add_le F.cring F.zero_test (poly a) (poly b) n (omega arith) (omega arith))

  pub add_is : (a b w : List E) → Is a → Is b → Is w → IsSum o a b w → w ≡ ops.add a b
  unfolding remainder_ops
  add_is a b w ha hb hw s =
      let H = remainder_hom F.cring F.zero_test M (monic o L m i) in
      to_list_unique o L m i w (K.◌⊕◌ (of a) (of b)) hw
      (ap rest (sum_eq a b w ha hb hw.polynomial s) ∙ H.map-add (poly a) (poly b))

  neg_eq : (a w : List E) → Is a → IsPolynomialList o w → ((k : ℕ) → at o w k ≡ o.neg (at o a k))
      → poly w ≡ P.neg (poly a)
  neg_eq a w ha hw s = eq_of_coefficients o L (poly w) (P.neg (poly a)) (at o w) (λ k. o.neg (at o a k))
      (has_polynomial_of o L w hw.over) (has_neg o L (poly a) (at o a) (has_list a ha)) s

  pub neg_smaller : (a w : List E) → Is a → IsPolynomialList o w → ((k : ℕ) → at o w k ≡ o.neg (at o a k)) → Is w
  neg_smaller a w ha hw s = record {
    polynomial = hw;
    smaller =
        let la = length-polynomial_of o L a ha.polynomial in
        let lw = length-polynomial_of o L w hw in
        let sa = ha.smaller in
        let e = ap (λ (x : Poly F.cring). length x.0) (neg_eq a w ha hw s) in
        omega (arith, length-neg_le F.cring F.zero_test (poly a) (length a) (omega arith));
  }

  pub neg_is : (a w : List E) → Is a → Is w → ((k : ℕ) → at o w k ≡ o.neg (at o a k)) → w ≡ ops.neg a
  unfolding remainder_ops
  neg_is a w ha hw s =
      let H = remainder_hom F.cring F.zero_test M (monic o L m i) in
      to_list_unique o L m i w (K.neg (of a)) hw
      (ap rest (neg_eq a w ha hw.polynomial s) ∙ map-neg P.ring K.ring rest H (poly a))

  product_image : (a b w : List E) → Is a → Is b → Is w
      → IsRemainderOf o (convolution_of o (at o a) (at o b)) m w
      → of w ≡ K.◌⊗◌ (of a) (of b)
  product_image a b w ha hb hw s =
      let H = remainder_hom F.cring F.zero_test M (monic o L m i) in
      of_remainder (P.◌⊗◌ (poly a) (poly b)) (convolution_of o (at o a) (at o b))
      (has-mul o L (poly a) (poly b) (at o a) (at o b) (has_list a ha) (has_list b hb)) w hw.polynomial s
      ∙ H.map-mul (poly a) (poly b)

  pub mul_is : (a b w : List E) → Is a → Is b → Is w → IsRemainderOf o (convolution_of o (at o a) (at o b)) m w
      → w ≡ ops.mul a b
  unfolding remainder_ops
  mul_is a b w ha hb hw s = to_list_unique o L m i w (K.◌⊗◌ (of a) (of b)) hw (product_image a b w ha hb hw s)

  of-ne-zero : (a : List E) → Is a → a ≢ [] → of a ≢ K.zero
  of-ne-zero a ha n e =
      n (of_list_injective o L m i a [] ha (is_remainder-nil o L m i) (e ∙ sym (of_list-nil o L m i)))

  pub inv_is : (a w : List E) → Is a → a ≢ [] → Is w
      → IsRemainderOf o (convolution_of o (at o w) (at o a)) m (o.one ∷ [])
      → w ≡ ops.inv a
  unfolding remainder_ops
  inv_is a w ha n hw s =
      let unit = sym (product_image w a (o.one ∷ []) hw ha (is_remainder-one o L m i) s) ∙ of_list-one o L m i in
      to_list_unique o L m i w (K.inv (of a)) hw
      (mul_left_cancel K (of a) (of w) (K.inv (of a)) (of-ne-zero a ha n)
      (K.mul_comm (of a) (of w) ∙ unit ∙ sym (K.inv-mul (of a) (of-ne-zero a ha n))
      ∙ K.mul_comm (K.inv (of a)) (of a)))

  -- ---- and back

  sum_back : (a b : List E) → Is a → Is b → IsSum o a b (to_list o L m i (K.◌⊕◌ (of a) (of b)))
  sum_back a b ha hb =
      let p : Poly F.cring = (K.◌⊕◌ (of a) (of b)).0 in
      coefficients_of_eq o L p (P.◌⊕◌ (poly a) (poly b)) (at o (values o L p.0)) (λ k. o.add (at o a k) (at o b k))
      (at-values o L p.0) (has-add o L (poly a) (poly b) (at o a) (at o b) (has_list a ha) (has_list b hb))
      (remainders-add_poly F.cring F.zero_test M (monic o L m i) (of a) (of b)
      ∙ ap₂ P.◌⊕◌ (of_list_eq o L m i a ha) (of_list_eq o L m i b hb))

  negative_back : (a : List E) → Is a → (k : ℕ) → at o (to_list o L m i (K.neg (of a))) k ≡ o.neg (at o a k)
  negative_back a ha =
      let p : Poly F.cring = (K.neg (of a)).0 in
      coefficients_of_eq o L p (P.neg (poly a)) (at o (values o L p.0)) (λ k. o.neg (at o a k))
      (at-values o L p.0) (has_neg o L (poly a) (at o a) (has_list a ha))
      (remainders-neg_poly F.cring F.zero_test M (monic o L m i) (of a) ∙ ap P.neg (of_list_eq o L m i a ha))

  product_back : (a b : List E) → Is a → Is b
      → IsRemainderOf o (convolution_of o (at o a) (at o b)) m (to_list o L m i (K.◌⊗◌ (of a) (of b)))
  product_back a b ha hb =
      let H = remainder_hom F.cring F.zero_test M (monic o L m i) in
      let x : Remainder F.cring M = K.◌⊗◌ (of a) (of b) in
      remainder_of_eq (P.◌⊗◌ (poly a) (poly b)) (convolution_of o (at o a) (at o b))
      (has-mul o L (poly a) (poly b) (at o a) (at o b) (has_list a ha) (has_list b hb)) (to_list o L m i x)
      (is_remainder-to_list o L m i x) (H.map-mul (poly a) (poly b) ∙ sym (of_list-to_list o L m i x))

  inverse_back : (a : List E) → Is a → a ≢ []
      → IsRemainderOf o (convolution_of o (at o (to_list o L m i (K.inv (of a)))) (at o a)) m (o.one ∷ [])
  inverse_back a ha n =
      let H = remainder_hom F.cring F.zero_test M (monic o L m i) in
      let x : Remainder F.cring M = K.inv (of a) in
      let w : List E = to_list o L m i x in
      remainder_of_eq (P.◌⊗◌ (poly w) (poly a)) (convolution_of o (at o w) (at o a))
      (has-mul o L (poly w) (poly a) (at o w) (at o a) (has_list w (is_remainder-to_list o L m i x)) (has_list a ha))
      (o.one ∷ []) (is_remainder-one o L m i)
      (H.map-mul (poly w) (poly a) ∙ ap (λ y. K.◌⊗◌ y (of a)) (of_list-to_list o L m i x)
      ∙ K.inv-mul (of a) (of-ne-zero a ha n) ∙ sym (of_list-one o L m i))

  pub are_remainder_ops : AreRemainderOps o m ops
  unfolding remainder_ops
  are_remainder_ops = record {
    elements = λ a. (of_elem a, elem_of a);
    zero = refl;
    one = refl;
    sum = λ a b ea eb. sum_back a b (of_elem a ea) (of_elem b eb);
    negative = λ a ea. negative_back a (of_elem a ea);
    product = λ a b ea eb. product_back a b (of_elem a ea) (of_elem b eb);
    inverse = λ a ea n. inverse_back a (of_elem a ea) n;
  }

  -- ---- powers

  pub of-power : (a : List E) (n : ℕ) → of (power_of ops a n) ≡ power K.ring (of a) n
  unfolding remainder_ops
  of-power a zero = of_list-one o L m i
  of-power a (suc n) =
      of_list-to_list o L m i (K.◌⊗◌ (of a) (of (power_of ops a n))) ∙ ap (K.◌⊗◌ (of a)) (of-power a n)

  pub is_power : (a : List E) (n : ℕ) → Is a → Is (power_of ops a n)
  is_power a n ha = of_elem (power_of ops a n) (power_of-elem ops (remainder_laws o L m i) a n (elem_of a ha))

  -- a remainder of a power is the power
  pub power_is : (a w : List E) (n : ℕ) → Is a → Is w → IsRemainderOf o (power_coefficients o L a n) m w
      → w ≡ power_of ops a n
  power_is a w n ha hw s =
      let H = remainder_hom F.cring F.zero_test M (monic o L m i) in
      of_list_injective o L m i w (power_of ops a n) hw (is_power a n ha)
      (of_remainder (power P.ring (poly a) n) (power_coefficients o L a n)
      (has-power o L (poly a) a n (has_list a ha)) w
      hw.polynomial s
      ∙ map-power P.ring K.ring rest H.map-one H.map-mul (poly a) n ∙ sym (of-power a n))

  pub power_of_power : (a : List E) (n k : ℕ) → Is a → power_of ops (power_of ops a n) k ≡ power_of ops a (n * k)
  power_of_power a n k ha = of_list_injective o L m i (power_of ops (power_of ops a n) k) (power_of ops a (n * k))
      (is_power (power_of ops a n) k (is_power a n ha)) (is_power a (n * k) ha)
      (of-power (power_of ops a n) k ∙ ap (λ x. power K.ring x k) (of-power a n) ∙ power-power K.ring (of a) n k
      ∙ sym (of-power a (n * k)))
