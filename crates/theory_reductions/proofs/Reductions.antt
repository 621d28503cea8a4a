-- The residue field of an irreducible polynomial over a program's field: the remainders as lists of coefficients.
use Rattle.std.specs.Prelude.{◌≡◌, ◌≢◌, List, [], ◌∷◌}
use Rattle.std.proofs.Common.{refl, sym, ◌∙◌, ap, ap₂, subst}
use Rattle.theory_rings.specs.Ring.{FieldOn, CommRingOn}
use Rattle.theory_rings.specs.Ops.{Ops, IsElem, FieldLaws}
use Rattle.theory_rings.specs.Elements.{Elem, Elem-path, elements}
use Rattle.theory_rings.specs.Sum.{at}
use Rattle.theory_rings.specs.Polynomial.{Poly}
use Rattle.theory_rings.specs.Division.{Divides}
use Rattle.theory_rings.specs.Homomorphism.{IsRingHom}
use Rattle.theory_rings.specs.Remainder.{Remainder}
use Rattle.theory_rings.specs.Fraction.{IsFractionField, IsLowest}
use Rattle.theory_rings.proofs.Rings.Fields.{mul_left_cancel}
use Rattle.theory_rings.proofs.Polynomials.Bezout.{field_polynomials}
use Rattle.theory_rings.proofs.Polynomials.Remainders.{remainder_eq, remainder-small, remainders-zero}
use Rattle.theory_rings.proofs.Polynomials.Remainders.{is_remainder_ring}
use Rattle.theory_rings.proofs.Fractions.Fractions.{fraction_of_value}
use Rattle.theory_rings.proofs.Fractions.Lowest.{polynomial_reduction, rational_functions, is_rational_functions}
use Rattle.theory_lattices.specs.RationalFunctions.{Rational, of_polynomial}
use Rattle.theory_spaces.specs.Valuation.{ValuationOn, IsIntegral}
use Rattle.theory_residue.specs.Residue.{ResidueOn}
use Rattle.theory_fractions.specs.PolynomialLists.{IsPolynomialList}
use Rattle.theory_fractions.specs.FractionOps.{polynomial_of, rational_function, pair_of, fraction_ops}
use Rattle.theory_fractions.specs.FractionLaws.{FractionsAreRational}
use Rattle.theory_fractions.specs.CommonDenominator.{as_fraction}
use Rattle.theory_fractions.proofs.RationalFractions.{fractions_are_rational}
use Rattle.theory_fractions.proofs.FractionField.{is_fraction-parts, rational_function_eq, polynomial_of-one}
use Rattle.theory_fractions.proofs.ListPolynomials.{is_polynomial-gives, has_polynomial_of}
use Rattle.theory_fractions.proofs.CommonDenominators.{product_of_poly}
use Rattle.theory_fractions.proofs.PolynomialFractions.{as_fraction-elem, as_fraction-mul_fraction}
use Rattle.theory_remainders.specs.Irreducible.{IsIrreducible}
use Rattle.theory_remainders.specs.RemainderLaws.{IsRemainder, IsRemainderOf}
use Rattle.theory_remainders.specs.RemainderOps.{modulus_of, remainder_of, remainder_ops}
use Rattle.theory_remainders.proofs.IrreducibleLists.{modulus_irreducible}
use Rattle.theory_remainders.proofs.RemainderField.{monic, of_list, to_list, is_remainder-to_list, of_list-to_list}
use Rattle.theory_remainders.proofs.RemainderField.{to_list-of_list, to_list_unique, of_list-nil, of_list-one}
use Rattle.theory_remainders.proofs.RemainderField.{is_remainder-nil, is_remainder-one, of_list_injective}
use Rattle.theory_remainders.proofs.RemainderField as remainders
use Rattle.theory_remainders.proofs.RemainderValues.{of_remainder, elem_of, of_elem, zero_is, one_is}
use Rattle.theory_places.specs.Places.{Finite, PlaceValuation}
use Rattle.theory_places.specs.PlaceLaws.{ResiduesByRemainders}
use Rattle.theory_places.proofs.PlaceValuations.{place_valuation}
use Rattle.theory_places.proofs.PlaceResidues.{finite_residues}
use Rattle.theory_places.proofs.FinitePlaces.{off_one}
use Rattle.theory_places.proofs.FractionPlaces.{over_one_path}
use Rattle.theory_places.proofs.PulledBack.{pulled}
use Rattle.theory_reductions.specs.Reductions.{IsResidueOf, fractions, ReductionBy, FractionsReduce}
use Rattle.theory_reductions.proofs.Carried.{carried_residue}

module _ {E : Type 0} (o : Ops E) (L : FieldLaws o) (m : List E) (i : IsIrreducible o m) where
  abbrev F : FieldOn (Elem o)
  F = elements o L

  abbrev P : CommRingOn (Poly F.cring)
  P = field_polynomials F

  abbrev Q : FieldOn (Rational F)
  Q = rational_functions F

  abbrev H : IsFractionField P (IsLowest F.cring P) Q
  H = is_rational_functions F

  abbrev poly : List E → Poly F.cring
  poly = polynomial_of o L

  -- the monic multiple of m, and the field of the remainders by it
  abbrev n : Poly F.cring
  n = modulus_of o L m

  abbrev k : FieldOn (Remainder F.cring n)
  k = remainders.Q o L m i

  abbrev rest : Poly F.cring → Remainder F.cring n
  rest = remainder_of o L m (monic o L m i)

  abbrev to : Remainder F.cring n → List E
  to = to_list o L m i

  abbrev of : List E → Remainder F.cring n
  of = of_list o L m i

  -- its place
  abbrev V : PlaceValuation F Q (Finite n)
  V = place_valuation F Q H (Finite n) (monic o L m i, modulus_irreducible o L m i)

  abbrev u : Rational F
  u = Q.inv (of_polynomial F n)

  abbrev D : ResiduesByRemainders F Q n V k
  D = finite_residues F Q H n (monic o L m i, modulus_irreducible o L m i) V k
      (is_remainder_ring F.cring F.zero_test n (monic o L m i))

  -- ---- the remainders as lists

  abbrev r : Ops (List E)
  r = remainder_ops o L m (monic o L m i)

  pub to-elem : (x : Remainder F.cring n) → IsElem r (to x)
  to-elem x = elem_of o L m i (to x) (is_remainder-to_list o L m i x)

  to-add : (x y : Remainder F.cring n) → to (k.◌⊕◌ x y) ≡ r.add (to x) (to y)
  unfolding remainder_ops
  to-add x y = ap₂ (λ s t. to (k.◌⊕◌ s t)) (sym (of_list-to_list o L m i x)) (sym (of_list-to_list o L m i y))

  to-mul : (x y : Remainder F.cring n) → to (k.◌⊗◌ x y) ≡ r.mul (to x) (to y)
  unfolding remainder_ops
  to-mul x y = ap₂ (λ s t. to (k.◌⊗◌ s t)) (sym (of_list-to_list o L m i x)) (sym (of_list-to_list o L m i y))

  to-one : to k.one ≡ r.one
  to-one = sym (to_list_unique o L m i (o.one ∷ []) k.one (is_remainder-one o L m i) (of_list-one o L m i))
      ∙ sym (one_is o L m i)

  to-zero : (x : Remainder F.cring n) → to x ≡ [] → x ≡ k.zero
  to-zero x e = sym (of_list-to_list o L m i x) ∙ ap of e ∙ of_list-nil o L m i

  -- ---- residues of polynomials

  polynomial_residue : (p t : List E) → IsPolynomialList o p → IsRemainder o m t → IsRemainderOf o (at o p) m t
      → to (D.residue.res (of_polynomial F (poly p))) ≡ t
  polynomial_residue p t hp ht s =
      let x : Remainder F.cring n = D.residue.res (of_polynomial F (poly p)) in
      sym (to_list_unique o L m i t x ht
      (of_remainder o L m i (poly p) (at o p) (has_polynomial_of o L p hp.over) t ht.polynomial s
      ∙ sym (remainder_eq F.cring F.zero_test n (monic o L m i) x.0 (poly p) (D.values (poly p)))
      ∙ remainder-small F.cring F.zero_test n (monic o L m i) x))

  -- n does not divide what has a remainder other than 0
  off_of_remainder : (p t : List E) → IsPolynomialList o p → IsRemainder o m t → IsRemainderOf o (at o p) m t
      → t ≢ [] → Divides P n (poly p) → ⊥
  off_of_remainder p t hp ht s nonzero d =
      nonzero (of_list_injective o L m i t [] ht (is_remainder-nil o L m i)
      (of_remainder o L m i (poly p) (at o p) (has_polynomial_of o L p hp.over) t ht.polynomial s
      ∙ remainder_eq F.cring F.zero_test n (monic o L m i) (poly p) P.zero
      (d.0, d.1 ∙ sym (P.zero-add (P.◌⊗◌ d.0 n)))
      ∙ sym (remainders-zero F.cring F.zero_test n (monic o L m i)) ∙ sym (of_list-nil o L m i)))

  module _ (M : FieldLaws (fraction_ops o L)) (N : FieldLaws r) where
    abbrev K : FieldOn (Elem (fraction_ops o L))
    K = fractions o L M

    abbrev h : Elem (fraction_ops o L) → Rational F
    h a = rational_function o L a.0

    abbrev R : FractionsAreRational o L M
    R = fractions_are_rational o L M

    abbrev back : Rational F → Elem (fraction_ops o L)
    back x = (pair_of o L x, R.element x)

    abbrev l : FieldOn (Elem r)
    l = elements r N

    abbrev f : Remainder F.cring n → Elem r
    f x = (to x, to-elem x)

    abbrev g : Elem r → Remainder F.cring n
    g a = of a.0

    pub J : IsRingHom k.ring l.ring f
    J = record {
      map-one = Elem-path r (f k.one) l.one to-one;
      map-add = λ x y. Elem-path r (f (k.◌⊕◌ x y)) (l.◌⊕◌ (f x) (f y)) (to-add x y);
      map-mul = λ x y. Elem-path r (f (k.◌⊗◌ x y)) (l.◌⊗◌ (f x) (f y)) (to-mul x y);
    }

    pub f-g : (a : Elem r) → f (g a) ≡ a
    f-g a = Elem-path r (f (g a)) a (to_list-of_list o L m i a.0 (of_elem o L m i a.0 a.1))

    pub f-zero : (x : Remainder F.cring n) → f x ≡ l.zero → x ≡ k.zero
    f-zero x e = to-zero x (ap (λ (a : Elem r). a.0) e ∙ zero_is o L m i)

    abbrev Z : ValuationOn K
    Z = pulled K Q h R.hom V.valuation

    abbrev pub residue : ResidueOn K Z (back u) l
    residue = carried_residue K Q h R.hom back R.function V.valuation u k l f J g f-g f-zero D.residue

    -- ---- residues of fractions

    abbrev over_one : (p : List E) → IsPolynomialList o p → Elem (fraction_ops o L)
    over_one p hp = (as_fraction o p, as_fraction-elem o L p hp)

    over_one_is : (p : List E) (hp : IsPolynomialList o p) → h (over_one p hp) ≡ of_polynomial F (poly p)
    over_one_is p hp = over_one_path o L p (as_fraction-elem o L p hp)

    over_one-in : (p : List E) (hp : IsPolynomialList o p) → IsIntegral K Z (over_one p hp)
    over_one-in p hp = subst (IsIntegral Q V.valuation) (sym (over_one_is p hp))
        ((V.tells (of_polynomial F (poly p))).1 (
          poly p,
          P.one,
          fraction_of_value P (IsLowest F.cring P) (polynomial_reduction F) (poly p),
          off_one F Q H n (modulus_irreducible o L m i),
        ))

    over_one-residue : (p t : List E) (hp : IsPolynomialList o p) → IsRemainder o m t → IsRemainderOf o (at o p) m t
        → (residue.res (over_one p hp)).0 ≡ t
    over_one-residue p t hp ht s =
        ap (λ x. to (D.residue.res x)) (over_one_is p hp) ∙ polynomial_residue p t hp ht s

    over_one-path : (w : Elem (fraction_ops o L)) (p : List E) (hp : IsPolynomialList o p) → w.0 ≡ as_fraction o p
        → w ≡ over_one p hp
    over_one-path w p hp e = Elem-path (fraction_ops o L) w (over_one p hp) e

    module _ (w : Elem (fraction_ops o L)) (x : List E) (s : IsResidueOf o m r w.0 x) where
      num_is : IsPolynomialList o w.0.0
      unfolding fraction_ops
      num_is = is_polynomial-gives o L w.0.0 (is_fraction-parts o L w.0 w.1).0

      den_is : IsPolynomialList o w.0.1
      unfolding fraction_ops
      den_is = is_polynomial-gives o L w.0.1 (is_fraction-parts o L w.0 w.1).1

      den_path : (h w).0.1 ≡ poly w.0.1
      unfolding fraction_ops
      den_path = ap (λ (x : Rational F). x.0.1) (rational_function_eq o L w.0 w.1)

      integral : IsIntegral K Z w
      integral = (V.tells (h w)).1 (
        (h w).0.0,
        (h w).0.1,
        refl,
        λ d. off_of_remainder w.0.1 s.lower den_is s.lower_small s.denominator s.nonzero
            (subst (Divides P n) den_path d),
      )

      -- v·(u/v) = u
      abbrev one_list : List E
      one_list = o.one ∷ []

      one_is_list : IsPolynomialList o one_list
      one_is_list = let h = is_remainder-one o L m i in h.polynomial

      whole : K.◌⊗◌ (over_one w.0.1 den_is) w ≡ over_one w.0.0 num_is
      whole = Elem-path (fraction_ops o L) (K.◌⊗◌ (over_one w.0.1 den_is) w) (over_one w.0.0 num_is)
          (sym (as_fraction-mul_fraction o L w.0.1 w.0 one_list w.0.0 den_is w.1 one_is_list num_is
          (sym (P.one-mul (poly w.0.1)) ∙ ap (λ p. P.◌⊗◌ p (poly w.0.1)) (sym (polynomial_of-one o L)))
          (product_of_poly o L one_list w.0.0 w.0.0 one_is_list.over num_is.over num_is.over
          (sym (P.one-mul (poly w.0.0)) ∙ ap (λ p. P.◌⊗◌ p (poly w.0.0)) (sym (polynomial_of-one o L))))))

      abbrev upper : Elem r
      upper = (s.upper, elem_of o L m i s.upper s.upper_small)

      abbrev lower : Elem r
      lower = (s.lower, elem_of o L m i s.lower s.lower_small)

      lower-ne : lower ≢ l.zero
      lower-ne e = s.nonzero (ap (λ (a : Elem r). a.0) e ∙ zero_is o L m i)

      product : l.◌⊗◌ lower (residue.res w) ≡ upper
      product =
          let v = over_one w.0.1 den_is in
          let at_v : residue.res v ≡ lower = Elem-path r (residue.res v) lower
          (over_one-residue w.0.1 s.lower den_is s.lower_small s.denominator) in
          let at_u : residue.res (over_one w.0.0 num_is) ≡ upper =
          Elem-path r (residue.res (over_one w.0.0 num_is)) upper
          (over_one-residue w.0.0 s.upper num_is s.upper_small s.numerator) in
          ap (λ a. l.◌⊗◌ a (residue.res w)) (sym at_v)
          ∙ sym (residue.map-mul v w (over_one-in w.0.1 den_is) integral) ∙ ap residue.res whole ∙ at_u

      value : (residue.res w).0 ≡ x
      value =
          let y : Elem r = l.◌⊗◌ upper (l.inv lower) in
          ap (λ (a : Elem r). a.0) (mul_left_cancel l lower (residue.res w) y lower-ne
          (product ∙ sym (
          l.mul_comm lower y ∙ l.mul_assoc upper (l.inv lower) lower
          ∙ ap (l.◌⊗◌ upper) (l.inv-mul lower lower-ne) ∙ l.mul-one upper
          )))
          ∙ sym s.quotient

    reduction : ReductionBy o L M m r N
    reduction = record {
      valuation = Z;
      q = back u;
      residue = residue;
      integral = integral;
      value = value;
      polynomial_in = λ w p hp e. subst (IsIntegral K Z) (sym (over_one-path w p hp e)) (over_one-in p hp);
      polynomial_value = λ w p x hp e hx s. ap (λ a. (residue.res a).0) (over_one-path w p hp e)
          ∙ over_one-residue p x hp hx s;
    }

module _ {E : Type 0} (o : Ops E) (L : FieldLaws o) (M : FieldLaws (fraction_ops o L)) where
  pub fractions_reduce : FractionsReduce o L M
  fractions_reduce m i N = reduction o L m i M N
